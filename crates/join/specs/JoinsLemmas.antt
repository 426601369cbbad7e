-- Two banks as one keep the rules of every bank: each rule of a stream is that of the part that has it.

use Rattle.std.specs.Prelude.{◌≡◌, ℕ, ◌+◌, ◌-◌, ◌<◌, ◌≤◌, true, is_some, Some, None, ◌≢◌, refl, Option}
use Rattle.std.proofs.Common.{arith, sym, ap, subst, ◌∙◌}
use Rattle.stream.specs.declared.limits.Record.{Record}
use Rattle.bank.specs.Ceilings.{Ceiling}
use Rattle.bank.specs.Kinds.{Kind}
use Rattle.bank.specs.Laws.{Laws, Same}
use Rattle.bank.proofs.Windows.{same_self}
use Rattle.join.specs.Routes.{Part, route}
use Rattle.join.specs.Joins.{joined, place, record_at, count_at, ceiling_at, opening_at, accepts_at}
use Rattle.join.specs.declared.Joined.{Joined}
use Rattle.either.specs.declared.Either.TheVariants.{Left, Right}
use Rattle.join.specs.RoutesLemmas.{Routed, in_left, in_right, past, where_routed}

none_some : {X : Type 0} (r : Record) → None ≡ Some r → X
none_some r e = let z : ◌≡◌ {A = ℕ} 0 1 = cc in let w : ⊥ = omega arith in absurd w

-- Where the left part has as many streams as before, each stream is where it was.
stays : {L R : Type 0} (k : Kind L) (b c : Joined L R) (i : ℕ) → k.streams c.left ≡ k.streams b.left → place k c i ≡ place k b i
stays k b c i e = ap (λ n. route n i) e

same_if_equal : {S : Type 0} (k : Kind S) (b c : S) → c ≡ b → Same k b c
same_if_equal k b c e = subst (λ d. Same k b d) (sym e) (same_self k b)

-- Parts with the same streams make a join with the same streams.
pub same_parts : {L R : Type 0} (k : Kind L) (h : Kind R) (b c : Joined L R) → Same k b.left c.left → Same h b.right c.right → Same (joined k h) b c
same_parts k h b c p q = record {
  streams = omega (arith, p.streams, q.streams);
  records = λ i. ap (record_at k h c) (stays k b c i p.streams) ∙ records (place k b i);
  count = λ i. ap (count_at k h c) (stays k b c i p.streams) ∙ count (place k b i);
  ceiling = λ i m. ap (λ a. ceiling_at k h c a m) (stays k b c i p.streams) ∙ ceiling (place k b i) m;
}
  where
    records : (a : Option Part) → record_at k h c a ≡ record_at k h b a
    records (Some (Left i)) = p.records i
    records (Some (Right i)) = q.records i
    records None = refl

    count : (a : Option Part) → count_at k h c a ≡ count_at k h b a
    count (Some (Left i)) = p.count i
    count (Some (Right i)) = q.count i
    count None = refl

    ceiling : (a : Option Part) (m : ℕ) → ceiling_at k h c a m ≡ ceiling_at k h b a m
    ceiling (Some (Left i)) m = p.ceiling i m
    ceiling (Some (Right i)) m = q.ceiling i m
    ceiling None m = refl

listed_at : {L R : Type 0} (k : Kind L) (h : Kind R) → Laws k → Laws h → (b : Joined L R) (i : ℕ) (a : Option Part) → Routed (k.streams b.left) i a → 1 ≤ i → i ≤ (joined k h).streams b → is_some (record_at k h b a) ≡ true
listed_at k h l g b i _ (in_left low) some most = l.listed b.left i some low
listed_at k h l g b i _ (in_right high low) some most = g.listed b.right (i - k.streams b.left) (omega arith) (omega arith)
listed_at k h l g b i _ (past high out) some most = let z : ⊥ = omega arith in absurd z

numbered_at : {L R : Type 0} (k : Kind L) (h : Kind R) → Laws k → Laws h → (b : Joined L R) (i : ℕ) (r : Record) (a : Option Part) → Routed (k.streams b.left) i a → record_at k h b a ≡ Some r → (1 ≤ i) × (i ≤ (joined k h).streams b)
numbered_at k h l g b i r _ (in_left low) e =
    let is = l.numbered b.left i r e in
    let few = l.few b.left in
    (is.0, omega arith)
numbered_at k h l g b i r _ (in_right high low) e =
    let is = g.numbered b.right (i - k.streams b.left) r e in
    (omega arith, omega arith)
numbered_at k h l g b i r _ (past high out) e = none_some r e

ceilings_at : {L R : Type 0} (k : Kind L) (h : Kind R) → Laws k → Laws h → (b : Joined L R) (r : Record) (a : Option Part) → record_at k h b a ≡ Some r → Ceiling r.row (count_at k h b a) (ceiling_at k h b a)
ceilings_at k h l g b r (Some (Left i)) e = l.ceilings b.left i r e
ceilings_at k h l g b r (Some (Right i)) e = g.ceilings b.right i r e
ceilings_at k h l g b r None e = none_some r e

within_at : {L R : Type 0} (k : Kind L) (h : Kind R) → Laws k → Laws h → (b : Joined L R) (r : Record) (m : ℕ) (a : Option Part) → (joined k h).begun b → record_at k h b a ≡ Some r → opening_at k h b a m ≤ ceiling_at k h b a m
within_at k h l g b r m (Some (Left i)) on e = l.within b.left i r m on.0 e
within_at k h l g b r m (Some (Right i)) on e = g.within b.right i r m on.1 e
within_at k h l g b r m None on e = none_some r e

ticked_at : {L R : Type 0} (k : Kind L) (h : Kind R) → Laws k → Laws h → (b c : Joined L R) (r : Record) (m : ℕ) (a : Option Part) → record_at k h b a ≡ Some r → (joined k h).ticks b c → opening_at k h c a m ≤ opening_at k h b a (m + 1)
ticked_at k h l g b c r m (Some (Left i)) e t = l.ticked b.left c.left i r m e t.0
ticked_at k h l g b c r m (Some (Right i)) e t = g.ticked b.right c.right i r m e t.1
ticked_at k h l g b c r m None e t = none_some r e

-- Accepting leaves both parts with their streams.
accept_keeps_at : {L R : Type 0} (k : Kind L) (h : Kind R) → Laws k → Laws h → (b c : Joined L R) (a : Option Part) → accepts_at k h b a c → Same k b.left c.left × Same h b.right c.right
accept_keeps_at k h l g b c (Some (Left i)) t = (l.accept_keeps b.left c.left i t.0, same_if_equal h b.right c.right t.1)
accept_keeps_at k h l g b c (Some (Right i)) t = (same_if_equal k b.left c.left t.1, g.accept_keeps b.right c.right i t.0)
accept_keeps_at k h l g b c None t = absurd t

accept_begun_at : {L R : Type 0} (k : Kind L) (h : Kind R) → Laws k → Laws h → (b c : Joined L R) (a : Option Part) → (joined k h).begun b → accepts_at k h b a c → (joined k h).begun c
accept_begun_at k h l g b c (Some (Left i)) on t =
    (l.accept_begun b.left c.left i on.0 t.0, subst (λ s. h.begun s) (sym t.1) on.1)
accept_begun_at k h l g b c (Some (Right i)) on t =
    (subst (λ s. k.begun s) (sym t.1) on.0, g.accept_begun b.right c.right i on.1 t.0)
accept_begun_at k h l g b c None on t = absurd t

accepted_at : {L R : Type 0} (k : Kind L) (h : Kind R) → Laws k → Laws h → (b c : Joined L R) (r : Record) (m : ℕ) (a : Option Part) → record_at k h b a ≡ Some r → 0 < opening_at k h b a 0 → accepts_at k h b a c → opening_at k h c a m + 1 ≤ opening_at k h b a m
accepted_at k h l g b c r m (Some (Left i)) e free t = l.accepted b.left c.left i r m e free t.0
accepted_at k h l g b c r m (Some (Right i)) e free t = g.accepted b.right c.right i r m e free t.0
accepted_at k h l g b c r m None e free t = none_some r e

-- A stream of the other part is as it was.
others_at : {L R : Type 0} (k : Kind L) (h : Kind R) → Laws k → Laws h → (b c : Joined L R) (i j : ℕ) (r : Record) (m : ℕ) (p q : Option Part) → Routed (k.streams b.left) i p → Routed (k.streams b.left) j q → record_at k h b q ≡ Some r → (j ≢ i) → accepts_at k h b p c → opening_at k h c q m ≤ opening_at k h b q m
others_at k h l g b c i j r m _ _ (in_left x) (in_left y) e apart t = l.others b.left c.left i j r m e apart t.0
others_at k h l g b c i j r m _ _ (in_left x) (in_right y z) e apart t = omega (arith, ap (λ s. h.opening s (j - k.streams b.left) m) t.1)
others_at k h l g b c i j r m _ _ (in_left x) (past y z) e apart t = none_some r e
others_at k h l g b c i j r m _ _ (in_right x v) (in_left y) e apart t = omega (arith, ap (λ s. k.opening s j m) t.1)
others_at k h l g b c i j r m _ _ (in_right x v) (in_right y z) e apart t =
    g.others b.right c.right (i - k.streams b.left) (j - k.streams b.left) r m e (λ same. apart (omega arith)) t.0
others_at k h l g b c i j r m _ _ (in_right x v) (past y z) e apart t = none_some r e
others_at k h l g b c i j r m _ _ (past x v) y e apart t = absurd t

-- After an act that keeps the left part's streams, a stream is where it was, and so its opening.
opening_stays : {L R : Type 0} (k : Kind L) (h : Kind R) (b c : Joined L R) (i m : ℕ) → Same k b.left c.left → (joined k h).opening c i m ≡ opening_at k h c (place k b i) m
opening_stays k h b c i m same = ap (λ a. opening_at k h c a m) (stays k b c i same.streams)

pub joined_lawful : {L R : Type 0} (k : Kind L) (h : Kind R) → Laws k → Laws h → Laws (joined k h)
joined_lawful k h l g = record {
  few = λ b. omega arith;
  listed = λ b i some most. listed_at k h l g b i (place k b i) (where_routed (k.streams b.left) i) some most;
  numbered = λ b i r e. numbered_at k h l g b i r (place k b i) (where_routed (k.streams b.left) i) e;
  ceilings = λ b i r e. ceilings_at k h l g b r (place k b i) e;
  begin_keeps = λ b c moment t. same_parts k h b c (l.begin_keeps b.left c.left moment t.0) (g.begin_keeps b.right c.right moment t.1);
  tick_keeps = λ b c t. same_parts k h b c (l.tick_keeps b.left c.left t.0) (g.tick_keeps b.right c.right t.1);
  accept_keeps = λ b c i t. let same = accept_keeps_at k h l g b c (place k b i) t in same_parts k h b c same.0 same.1;
  begin_begins = λ b c moment t. (l.begin_begins b.left c.left moment t.0, g.begin_begins b.right c.right moment t.1);
  tick_begun = λ b c on t. (l.tick_begun b.left c.left on.0 t.0, g.tick_begun b.right c.right on.1 t.1);
  accept_begun = λ b c i on t. accept_begun_at k h l g b c (place k b i) on t;
  within = λ b i r m on e. within_at k h l g b r m (place k b i) on e;
  ticked = λ b c i r m e t. omega (arith, opening_stays k h b c i m (l.tick_keeps b.left c.left t.0), ticked_at k h l g b c r m (place k b i) e t);
  accepted = λ b c i r m e free t. omega (arith, opening_stays k h b c i m (accept_keeps_at k h l g b c (place k b i) t).0, accepted_at k h l g b c r m (place k b i) e free t);
  others = λ b c i j r m e apart t. omega (arith, opening_stays k h b c j m (accept_keeps_at k h l g b c (place k b i) t).0, others_at k h l g b c i j r m (place k b i) (place k b j) (where_routed (k.streams b.left) i) (where_routed (k.streams b.left) j) e apart t);
}
