-- When a call is not refused: every test on its way was passed.

use Rattle.std.proofs.Common.{◌≡◌, ℕ, ◌<◌, ◌≤◌, false, ◌&&◌, ◌||◌, eqb, ltb, is_some, Some, None, ◌∙◌, arith}
use Rattle.std.proofs.lemmas.Bool.{cond-false, le-ltb, ne_eqb, or_from}
use Rattle.stream.specs.declared.limits.Record.{Record}
use Rattle.turns.specs.Jobs.{job_of, background}
use Rattle.turns.specs.Steps.{is_shut, in_overrun, barred, release_refusal}
use Rattle.turns.specs.declared.State.{State}

pub release_granted : (s : State) (i : ℕ) (r : Record) (opening : ℕ) → is_shut s.verdict ≡ false → i ≤ 32 → is_some s.turn ≡ false → (background r.row.class && in_overrun s.mode) ≡ false → is_some (job_of s.jobs i) ≡ false → 0 < opening → release_refusal s i (Some r) opening ≡ None
release_granted s i r opening not_shut place no_turn allowed free opens =
    cond-false (is_shut s.verdict) (Some 23) (barred s i (Some r) opening) not_shut
    ∙ cond-false (ltb 32 i) (Some 14) _ (le-ltb 32 i place)
    ∙ cond-false (is_some s.turn) (Some 15) _ no_turn
    ∙ cond-false (background r.row.class && in_overrun s.mode) (Some 16) _ allowed
    ∙ cond-false (is_some (job_of s.jobs i) || eqb opening 0) (Some 17) None (or_from (is_some (job_of s.jobs i)) (eqb opening 0) free (ne_eqb opening 0 (λ e. let z : ⊥ = omega arith in z)))
