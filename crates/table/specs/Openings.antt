-- What holds of the ceilings and the openings of a table, and what an act does to an opening.

use Rattle.std.specs.Prelude.{◌≡◌, ℕ, ◌+◌, ◌<◌, ◌≤◌, List, map, Some, None, Option, ◌≢◌}
use Rattle.std.proofs.Common.{arith, sym, ap, subst, ◌∙◌}
use Rattle.bank.specs.Ceilings.{Ceiling}
use Rattle.std.specs.Option.{option_map}
use Rattle.stream.specs.declared.limits.Record.{Record}
use Rattle.table.specs.Tables.{state_of, record_of, amount, ceiling_of, opening_of, ticked, closed, Closes}
use Rattle.table.specs.Waits.{every, after}
use Rattle.table.specs.declared.shared.State.{State}
use Rattle.table.specs.TablesLemmas.{state_of_map, state_of_set_same, state_of_set_other}
use Rattle.table.specs.WaitsLemmas.{every_is_ceiling, waiting_opens_no_more, release_closes_for_gap, open_waits_for_nothing, open_after_wait}

-- the opening of a state, if there is one
abbrev opens : {S : Type 0} → (S → Record) → Option (State S) → ℕ → ℕ
opens recorded o m = amount o (λ s. after s.wait (recorded s.stream).row.gap m)

module _ {S : Type 0} (recorded : S → Record) where
  pub ceiling_lawful : (xs : List (State S)) (i : ℕ) (r : Record) → record_of recorded xs i ≡ Some r → Ceiling r.row 1 (ceiling_of recorded xs i)
  ceiling_lawful xs i r e =
      let P : Option Record → Type 0 = λ o. Ceiling r.row 1 (λ m. amount o (λ r. every r.row.gap m)) in
      subst P (sym e) (every_is_ceiling r.row r.within.0 r.within.1)

  opens_within : (o : Option (State S)) (m : ℕ) → opens recorded o m ≤ amount (option_map (λ s. recorded s.stream) o) (λ r. every r.row.gap m)
  opens_within None m = omega arith
  opens_within (Some s) m = waiting_opens_no_more s.wait (recorded s.stream).row.gap m (recorded s.stream).within.0.0

  pub opening_within_ceiling : (xs : List (State S)) (i m : ℕ) → opening_of recorded xs i m ≤ ceiling_of recorded xs i m
  opening_within_ceiling xs i m = opens_within (state_of xs i) m

  pub opening_at : (xs : List (State S)) (i m : ℕ) (s : State S) → state_of xs i ≡ Some s → opening_of recorded xs i m ≡ after s.wait (recorded s.stream).row.gap m
  opening_at xs i m s e = ap (λ o. opens recorded o m) e

  pub idle_is_open : (xs : List (State S)) (i : ℕ) (s : State S) → state_of xs i ≡ Some s → s.wait ≤ 0 → 0 < opening_of recorded xs i 0
  idle_is_open xs i s is idle = omega (arith, opening_at xs i 0 s is, open_after_wait s.wait (recorded s.stream).row.gap 0 idle)

  -- a tick that opens no state more than a moment later opens no stream more
  pub ticked_opens_no_more : (wait_after : S → ℕ → ℕ) → ((s : S) (wait m : ℕ) → after (wait_after s wait) (recorded s).row.gap m ≤ after wait (recorded s).row.gap (m + 1)) → (xs ys : List (State S)) (i m : ℕ) → ys ≡ map (ticked wait_after) xs → opening_of recorded ys i m ≤ opening_of recorded xs i (m + 1)
  ticked_opens_no_more wait_after no_more xs ys i m e =
      let P : Option (State S) → Type 0 = λ o. opens recorded o m ≤ opening_of recorded xs i (m + 1) in
      subst P (sym (ap (λ zs. state_of zs i) e ∙ state_of_map (ticked wait_after) xs i)) (each (state_of xs i))
    where
      each : (o : Option (State S)) → opens recorded (option_map (ticked wait_after) o) m ≤ opens recorded o (m + 1)
      each None = omega arith
      each (Some s) = no_more s.stream s.wait m

  pub closing_takes_one : (xs ys : List (State S)) (i m : ℕ) → Closes recorded xs i ys → 0 < opening_of recorded xs i 0 → opening_of recorded ys i m + 1 ≤ opening_of recorded xs i m
  closing_takes_one xs ys i m (s, is, e) free =
      let gap = (recorded s.stream).row.gap in
      let open_now : 0 < after s.wait gap 0 = omega (arith, opening_at xs i 0 s is) in
      let before : opening_of recorded xs i m ≡ after 0 gap m = opening_at xs i m s is ∙ ap (λ w. after w gap m) (open_waits_for_nothing s.wait gap open_now) in
      let later : opening_of recorded ys i m ≡ after gap gap m = ap (λ zs. opening_of recorded zs i m) e ∙ ap (λ o. opens recorded o m) (state_of_set_same xs i s (closed recorded s) is) in
      omega (arith, release_closes_for_gap gap m (recorded s.stream).within.0.0)

  pub closing_leaves_others : (xs ys : List (State S)) (i j m : ℕ) → Closes recorded xs i ys → (j ≢ i) → opening_of recorded ys j m ≡ opening_of recorded xs j m
  closing_leaves_others xs ys i j m (s, is, e) other =
      ap (λ zs. opening_of recorded zs j m) e ∙ ap (λ o. opens recorded o m) (state_of_set_other xs i j s (closed recorded s) is other)
