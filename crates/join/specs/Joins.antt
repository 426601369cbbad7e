-- Two banks as one: each stream is what it is in its part, both parts begin and tick, and a release is accepted by the part that has the stream.

use Rattle.std.specs.Prelude.{◌≡◌, ℕ, ◌+◌, min, None, Option, Some}
use Rattle.stream.specs.declared.limits.Record.{Record}
use Rattle.bank.specs.Kinds.{Kind}
use Rattle.join.specs.Routes.{Part, route}
use Rattle.join.specs.declared.Joined.{Joined}
use Rattle.either.specs.declared.Either.TheVariants.{Left, Right}

-- where stream i of the join is
abbrev pub place : {L R : Type 0} → Kind L → Joined L R → ℕ → Option Part
place k b i = route (k.streams b.left) i

abbrev pub record_at : {L R : Type 0} → Kind L → Kind R → Joined L R → Option Part → Option Record
record_at k h b (Some (Left i)) = k.records b.left i
record_at k h b (Some (Right i)) = h.records b.right i
record_at k h b None = None

abbrev pub count_at : {L R : Type 0} → Kind L → Kind R → Joined L R → Option Part → ℕ
count_at k h b (Some (Left i)) = k.count b.left i
count_at k h b (Some (Right i)) = h.count b.right i
count_at k h b None = 0

abbrev pub ceiling_at : {L R : Type 0} → Kind L → Kind R → Joined L R → Option Part → ℕ → ℕ
ceiling_at k h b (Some (Left i)) m = k.ceiling b.left i m
ceiling_at k h b (Some (Right i)) m = h.ceiling b.right i m
ceiling_at k h b None m = 0

abbrev pub opening_at : {L R : Type 0} → Kind L → Kind R → Joined L R → Option Part → ℕ → ℕ
opening_at k h b (Some (Left i)) m = k.opening b.left i m
opening_at k h b (Some (Right i)) m = h.opening b.right i m
opening_at k h b None m = 0

-- the part that has the stream accepts, and the other part stays as it was
abbrev pub accepts_at : {L R : Type 0} → Kind L → Kind R → Joined L R → Option Part → Joined L R → Type 0
accepts_at k h b (Some (Left i)) c = k.accepts b.left i c.left × (c.right ≡ b.right)
accepts_at k h b (Some (Right i)) c = h.accepts b.right i c.right × (c.left ≡ b.left)
accepts_at k h b None c = ⊥

abbrev pub joined : {L R : Type 0} → Kind L → Kind R → Kind (Joined L R)
joined k h = record {
  -- J
  letter = 74;
  streams = λ b. min (k.streams b.left + h.streams b.right) 33;
  records = λ b i. record_at k h b (place k b i);
  count = λ b i. count_at k h b (place k b i);
  ceiling = λ b i m. ceiling_at k h b (place k b i) m;
  opening = λ b i m. opening_at k h b (place k b i) m;
  begun = λ b. k.begun b.left × h.begun b.right;
  begins = λ b moment c. k.begins b.left moment c.left × h.begins b.right moment c.right;
  ticks = λ b c. k.ticks b.left c.left × h.ticks b.right c.right;
  accepts = λ b i c. accepts_at k h b (place k b i) c;
}
