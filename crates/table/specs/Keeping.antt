-- What the acts on a table keep: its streams, so their ceilings.

use Rattle.std.specs.Prelude.{◌≡◌, ℕ, ◌-◌, ◌<◌, List, map, length, Some, None, Ok, Option, slice_set, refl}
use Rattle.std.proofs.Common.{arith, sym, ap, ◌∙◌}
use Rattle.bank.specs.Accepting.{Accepted}
use Rattle.bank.specs.Kinds.{Kind}
use Rattle.std.proofs.lemmas.List.{length-map, length-set}
use Rattle.std.specs.Option.{option_map}
use Rattle.std.specs.List.{slice_get}
use Rattle.stream.specs.declared.limits.Record.{Record}
use Rattle.table.specs.Tables.{state_of, record_of, amount, ceiling_of, waiting, ticked, closed, Closes, Rewaited}
use Rattle.table.specs.Waits.{every}
use Rattle.table.specs.declared.shared.State.{State}
use Rattle.table.specs.TablesLemmas.{none_not_some, state_at, state_numbered, state_unnumbered, record_of_ticked, record_of_set}

-- the same streams, as far as they are told of, however long each waits
pub record Keeps {S R : Type 0} (recorded : S → R) (xs ys : List (State S)) : Type 0 where
  pub size : length ys ≡ length xs
  pub records : (i : ℕ) → record_of recorded ys i ≡ record_of recorded xs i

pub ceiling_kept : {S : Type 0} (recorded : S → Record) (xs ys : List (State S)) → Keeps recorded xs ys → (i m : ℕ) → ceiling_of recorded ys i m ≡ ceiling_of recorded xs i m
ceiling_kept recorded xs ys keeps i m = ap (λ o. amount o (λ r. every r.row.gap m)) (keeps.records i)

module _ {S R : Type 0} (recorded : S → R) where
  pub ticking_keeps : (wait_after : S → ℕ → ℕ) (xs ys : List (State S)) → ys ≡ map (ticked wait_after) xs → Keeps recorded xs ys
  ticking_keeps wait_after xs ys e = record {
    size = ap length e ∙ length-map xs (ticked wait_after);
    records = λ i. ap (λ zs. record_of recorded zs i) e ∙ record_of_ticked recorded wait_after xs i;
  }

  pub closing_keeps : (gapped : S → Record) (xs ys : List (State S)) (i : ℕ) → Closes gapped xs i ys → Keeps recorded xs ys
  closing_keeps gapped xs ys i (s, is, e) = record {
    size = ap length e ∙ length-set xs (i - 1) (closed gapped s);
    records = λ j. ap (λ zs. record_of recorded zs j) e ∙ record_of_set recorded (gapped s.stream).row.gap xs i j s is;
  }

  pub rewaiting_keeps : (W : ℕ → S → ℕ → Type 0) (xs ys : List (State S)) → Rewaited W xs ys → Keeps recorded xs ys
  rewaiting_keeps W xs ys rewaited = record {
    size = rewaited.size;
    records = λ i. kept i (state_of xs i) refl;
  }
    where
      kept : (i : ℕ) (o : Option (State S)) → state_of xs i ≡ o → record_of recorded ys i ≡ record_of recorded xs i
      kept i None is = ap (option_map (λ s. recorded s.stream)) (state_unnumbered xs ys i rewaited.size is ∙ sym is)
      kept i (Some s) is = ap (option_map (λ s. recorded s.stream)) (rewaited.waits i s is).1 ∙ sym (ap (option_map (λ s. recorded s.stream)) is)

-- a wait that is set to the gap closes the stream
pub gap_closes : {S : Type 0} (recorded : S → Record) (xs ys : List (State S)) (i wait : ℕ) (s : State S) → state_of xs i ≡ Some s → wait ≡ (recorded s.stream).row.gap → ((t : State S) → slice_get xs (i - 1) ≡ Some t → ys ≡ slice_set xs (i - 1) (waiting wait t)) → Closes recorded xs i ys
gap_closes recorded xs ys i wait s is e set_to =
    let at = state_numbered xs i s is in
    (s, is, set_to s (sym (state_at xs i at.0) ∙ is) ∙ ap (λ w. slice_set xs (i - 1) (waiting w s)) e)

-- a stream that exists and is open is accepted
pub open_accepted : {B : Type 0} (k : Kind B) (b c : B) (i : ℕ) (r : Record) → k.records b i ≡ Some r → 0 < k.opening b i 0 → k.accepts b i c → Accepted k b i (Ok tt) c
open_accepted k b c i r found free accepts = record {
  absent = λ none. absurd (none_not_some r (sym none ∙ found));
  shut = λ r found shut. let z : ⊥ = omega arith in absurd z;
  taken = λ r found open_now. (refl, accepts);
}
