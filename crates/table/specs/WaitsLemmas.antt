-- What holds of m / gap + 1 and of the same after a wait.

use Rattle.std.specs.Prelude.{◌≡◌, ℕ, ◌+◌, ◌-◌, ◌*◌, ◌/◌, ◌<◌, ◌≤◌, Bool, cond}
use Rattle.std.proofs.Math.Nat.{add-div_right, div-eq_of_lt}
use Rattle.std.proofs.Common.{le-div_iff_mul-le, div-mul-le_self, arith, ⊎_elim, sym, ap, subst}
use Rattle.bank.specs.Ceilings.{Ceiling, back}
use Rattle.bank.proofs.Backs.{back_before, back_after}
use Rattle.std.proofs.lemmas.Bool.{cases_lt, cases_eq, eq-eqb, ne_eqb}
use Rattle.stream.specs.Limits.{GapFits, DeadlineFits}
use Rattle.stream.specs.declared.Row.{Row}
use Rattle.table.specs.Phases.{next_wait}
use Rattle.table.specs.Waits.{every, after}

pub one_within_gap : (gap m : ℕ) → m < gap → every gap m ≡ 1
one_within_gap gap m h = omega (arith, div-eq_of_lt h)

pub every_rises : (gap m n : ℕ) → 0 < gap → m ≤ n → every gap m ≤ every gap n
every_rises gap m n pos h =
    let le : m / gap * gap ≤ n = omega (arith, div-mul-le_self m gap) in
    let q : m / gap ≤ n / gap = (le-div_iff_mul-le pos).1 le in
    omega arith

pub every_repeats : (gap m : ℕ) → 0 < gap → every gap (m + gap) ≡ every gap m + 1
every_repeats gap m pos = omega (arith, add-div_right m pos)

-- a gap later there is one release more, also before moment 0 as far as a gap goes back
pub back_repeats : (gap early x : ℕ) → 0 < gap → early ≤ gap → back (every gap) (x + gap) early ≡ back (every gap) x early + 1
back_repeats gap early x pos h =
    ⊎_elim
    (λ (below : x < early).
    let one = one_within_gap gap (x + gap - early) (omega arith) in
    omega (arith, back_before (every gap) x early below, back_after (every gap) (x + gap) early (omega arith)))
    (λ (from : early ≤ x).
    let same : x + gap - early ≡ x - early + gap = omega arith in
    omega (arith, every_repeats gap (x - early) pos, ap (every gap) same, back_after (every gap) x early from, back_after (every gap) (x + gap) early (omega arith)))
    (cases_lt x early)

pub every_is_ceiling : (row : Row) → GapFits row → DeadlineFits row → Ceiling row 1 (every row.gap)
every_is_ceiling row gap deadline = record {
  single = λ m h. one_within_gap row.gap m (omega arith);
  rises = λ m n h. every_rises row.gap m n gap.0 h;
  repeats = λ x. back_repeats row.gap row.deadline x gap.0 deadline.1;
  some = omega arith;
  few = gap.0;
}

pub waiting_opens_no_more : (wait gap m : ℕ) → 0 < gap → after wait gap m ≤ every gap m
waiting_opens_no_more wait gap m pos =
    ⊎_elim
    (λ (below : m < wait). omega (arith, back_before (every gap) m wait below))
    (λ (from : wait ≤ m). omega (arith, back_after (every gap) m wait from, every_rises gap (m - wait) m pos (omega arith)))
    (cases_lt m wait)

-- a tick that shortens the wait leaves the moment of opening where it is; an open stream opens no more than a moment later
pub tick_opens_no_more : (wait gap m : ℕ) → 0 < gap → after (wait - 1) gap m ≤ after wait gap (m + 1)
tick_opens_no_more wait gap m pos =
    ⊎_elim
    (λ (below : m < wait - 1). omega (arith, back_before (every gap) m (wait - 1) below))
    (λ (from : wait - 1 ≤ m).
    omega (arith, back_after (every gap) m (wait - 1) from, back_after (every gap) (m + 1) wait (omega arith), every_rises gap (m - (wait - 1)) (m + 1 - wait) pos (omega arith)))
    (cases_lt m (wait - 1))

-- on a raster an open stream opens again a gap later
pub turn_opens_no_more : (wait gap m : ℕ) → 0 < gap → after (next_wait wait gap) gap m ≤ after wait gap (m + 1)
turn_opens_no_more wait gap m pos =
    let P : ℕ → Type 0 = λ next. after next gap m ≤ after wait gap (m + 1) in
    ⊎_elim
    (λ (open_now : wait ≡ 0).
    let next : next_wait wait gap ≡ gap - 1 = ap (λ (b : Bool). cond b (gap - 1) (wait - 1)) (eq-eqb wait 0 open_now) in
    let no_more : after (gap - 1) gap m ≤ after wait gap (m + 1) = omega (arith, waiting_opens_no_more (gap - 1) gap m pos, every_rises gap m (m + 1 - wait) pos (omega arith), back_after (every gap) (m + 1) wait (omega arith)) in
    subst P (sym next) no_more)
    (λ (waits : wait ≡ 0 → ⊥).
    let next : next_wait wait gap ≡ wait - 1 = ap (λ (b : Bool). cond b (gap - 1) (wait - 1)) (ne_eqb wait 0 waits) in
    subst P (sym next) (tick_opens_no_more wait gap m pos))
    (cases_eq wait 0)

pub release_closes_for_gap : (gap m : ℕ) → 0 < gap → after gap gap m + 1 ≤ after 0 gap m
release_closes_for_gap gap m pos =
    ⊎_elim
    (λ (below : m < gap). omega (arith, back_before (every gap) m gap below, back_after (every gap) m 0 (omega arith)))
    (λ (from : gap ≤ m).
    let same : m - gap + gap ≡ m - 0 = omega arith in
    omega (arith, back_after (every gap) m gap from, back_after (every gap) m 0 (omega arith), every_repeats gap (m - gap) pos, ap (every gap) same))
    (cases_lt m gap)

-- a stream that may be released at once is not waiting
pub open_waits_for_nothing : (wait gap : ℕ) → 0 < after wait gap 0 → wait ≡ 0
open_waits_for_nothing wait gap h =
    ⊎_elim
    (λ (below : 0 < wait). omega (arith, back_before (every gap) 0 wait below))
    (λ (from : wait ≤ 0). omega arith)
    (cases_lt 0 wait)

pub open_after_wait : (wait gap m : ℕ) → wait ≤ m → 0 < after wait gap m
open_after_wait wait gap m h = omega (arith, back_after (every gap) m wait h)
