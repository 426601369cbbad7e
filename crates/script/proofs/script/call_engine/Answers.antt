use Rattle.std.proofs.Common.{◌≡◌, rules}
use Rattle.script.specs.Performing.{telling}
use Rattle.text.specs.declared.answer.Answer.TheVariants.{Ran}
use Rattle.script.proofs.script.call_engine.Goals as goal

-- the turn's own refusal is handed on
pub returns-in_err-take_turn-in-Turn : goal.returns-in_err-take_turn-in-Turn
returns-in_err-take_turn-in-Turn g c =
    let same : c.from_residual-in_err-take_turn-in-Turn.result ≡ telling Ran c.take_turn.result = search rules in
    rw c.in-Turn.is (c.take_turn.result, c.take_turn.ensures, same)
