use Rattle.std.proofs.Common.{sym, ◌∙◌}
use Rattle.plan.proofs.Placing.{handed_on}
use Rattle.script.specs.Checks.{unfit, tested}
use Rattle.script.proofs.verdicts.check_plan.Goals as goal

pub returns-in_err-streams_only : goal.returns-in_err-streams_only
returns-in_err-streams_only c =
    let planned = simp (c.new-reader.ensures.text, c.new-reader.ensures.line, c.new-tables.ensures) at c.read_plan.ensures in
    rw (handed_on c.from_residual.result c.in_err-streams_only.field-0.0 c.from_residual.ensures.1) (unfit planned (sym c.streams_only.ensures ∙ c.in_err-streams_only.was))

pub returns : goal.returns
returns c =
    let planned = simp (c.new-reader.ensures.text, c.new-reader.ensures.line, c.new-tables.ensures, ← c.into_bank.ensures) at c.read_plan.ensures in
    tested c.into_bank.result planned (sym c.streams_only.ensures ∙ c.in_ok-streams_only.was) c.admit.ensures.decided
