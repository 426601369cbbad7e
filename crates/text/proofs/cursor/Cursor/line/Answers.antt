use Rattle.std.proofs.Common.{rules}
use Rattle.text.proofs.Exits.{exits}
use Rattle.text.proofs.Lining.{raster_phase}
use Rattle.text.proofs.cursor.Cursor.line.Goals as goal

pub returns-in_err-phase-in-Some-R : goal.returns-in_err-phase-in-Some-R
returns-in_err-phase-in-Some-R c =
    exits c.args.self.now c.row-in-Some-R.new.self _ c.from_residual-in_err-phase-in-Some-R.result c.from_residual-in_err-phase-in-Some-R.ensures.1 (search rules)
    (λ k. raster_phase _ _ k c.in_ok-word.ensures.0 (search rules) c.in_ok-word-in-Some-R.ensures.0 c.in_ok-row-in-Some-R.row c.in_ok-row-in-Some-R.ensures.0) c.in_err-phase-in-Some-R.ensures
