-- What holds of a moment's phase.

use Rattle.std.proofs.Common.{◌≡◌, ℕ, ◌+◌, ◌-◌, ◌%◌, ◌<◌, ◌≤◌, sym, ap, ◌∙◌, ⊎_elim, mod-eq_of_lt, arith}
use native.Mathlib.Nat.{mod-add-mod, mod-eq-sub-mod, add-mod_right}
use Rattle.std.proofs.lemmas.Bool.{cases_lt}
use Rattle.table.specs.Phases.{Until}

-- a phase that is still to come in this turn of the raster
pub until_this_turn : (moment gap phase : ℕ) → phase < gap → moment % gap ≤ phase → Until moment gap phase (phase - moment % gap)
until_this_turn moment gap phase h from =
    let meet : moment % gap + (phase - moment % gap) ≡ phase = omega arith in (
      sym (mod-add-mod moment gap (phase - moment % gap)) ∙ ap (λ n. n % gap) meet ∙ mod-eq_of_lt h,
      λ less below hit.
          let short : moment % gap + less < gap = omega arith in
          let here : moment % gap + less ≡ phase = sym (mod-eq_of_lt short) ∙ mod-add-mod moment gap less ∙ hit in
          let z : ⊥ = omega arith in
          absurd z,
    )

-- a phase that comes in the next turn
pub until_next_turn : (moment gap phase : ℕ) → phase < gap → phase < moment % gap → Until moment gap phase (phase + gap - moment % gap)
until_next_turn moment gap phase h past =
    let meet : moment % gap + (phase + gap - moment % gap) ≡ phase + gap = omega arith in (
      sym (mod-add-mod moment gap (phase + gap - moment % gap)) ∙ ap (λ n. n % gap) meet ∙ add-mod_right phase gap ∙ mod-eq_of_lt h,
      λ less below hit.
          let at : (moment % gap + less) % gap ≡ phase = mod-add-mod moment gap less ∙ hit in
          ⊎_elim
          (λ (short : moment % gap + less < gap).
          let here : moment % gap + less ≡ phase = sym (mod-eq_of_lt short) ∙ at in
          let z : ⊥ = omega arith in
          absurd z)
          (λ (long : gap ≤ moment % gap + less).
          let short : moment % gap + less - gap < gap = omega arith in
          let here : moment % gap + less - gap ≡ phase = sym (mod-eq_of_lt short) ∙ sym (mod-eq-sub-mod long) ∙ at in
          let z : ⊥ = omega arith in
          absurd z)
          (cases_lt (moment % gap + less) gap),
    )
