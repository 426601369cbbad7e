use Rattle.std.proofs.Common.{◌<◌, ◌≤◌, Err, sym, ap, ◌∙◌, ⊎_elim}
use borrow.Author.Tests.{clash}
use Rattle.std.proofs.lemmas.Bool.{cases_lt}
use Rattle.turns.specs.Steps.{fresh, last_moment}
use Rattle.engine.specs.Sound.{Sound}
use Rattle.engine.proofs.Soundness.{fields, sound_fresh}
use Rattle.engine.proofs.state.Engine.start.Goals as goal

pub invariant_of-result : goal.invariant_of-result
invariant_of-result g c =
    let started = c.begin-state.ensures.started in
    let moment = c.args.moment in
    let kept : Sound c.begin-state.result =
    ⊎_elim
    (λ (late : last_moment < moment). let (same, (e, told, numbered), is) = started.late late in fields _ c.begin-state.result (is ∙ ap (fresh moment) told) (sound_fresh moment (Err e) (λ z. absurd (clash (sym z)))))
    (λ (early : moment ≤ last_moment). let is = (started.begun early).2 in fields _ c.begin-state.result is (sound_fresh moment _ (λ _. early)))
    (cases_lt last_moment moment) in
    record { sound = kept }
