use Rattle.std.proofs.Common.{refl}
use Rattle.std.proofs.lemmas.Result.{err_from_is_err_and}
use Rattle.table.specs.Tables.{states_of}
use Rattle.table.proofs.Shorts.{factor_outside}
use Rattle.table.proofs.timetable.Timetable.shorten.Goals as goal

pub returns-in_err-factor : goal.returns-in_err-factor
returns-in_err-factor g c =
    let p = err_from_is_err_and c.from_residual.result c.from_residual.ensures.1 in
    rw (p.1, p.2, c.in_err-factor.ensures.0) (factor_outside g.S.Timed.recorded c.args.factor (states_of c.args.self.now.table) c.in_err-factor.ensures.1, refl)
