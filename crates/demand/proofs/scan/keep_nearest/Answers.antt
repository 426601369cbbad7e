use Rattle.std.proofs.Common.{Option, sym, subst}
use Rattle.stream.specs.declared.Point.{Point}
use Rattle.least.specs.Firsts.{FirstLeast}
use Rattle.least.specs.Orders.{point_below}
use Rattle.demand.specs.Verdicts.{candidates}
use Rattle.demand.proofs.Nearest.{nearest_stays}
use Rattle.demand.proofs.scan.keep_nearest.Goals as goal

pub returns-in-Some-clause-later : goal.returns-in-Some-clause-later
returns-in-Some-clause-later c _ =
    let P : Option Point → Type 0 = λ o. FirstLeast point_below (candidates o c.args.normal c.args.overrun) o in
    subst P (sym c.in-Some.is) (nearest_stays c.in-Some.best c.args.normal c.args.overrun (sym c.if-closer.ensures) (sym c.if-closer-2.ensures))

pub returns-in-Some-2-clause-later : goal.returns-in-Some-2-clause-later
returns-in-Some-2-clause-later c _ =
    let P : Option Point → Type 0 = λ o. FirstLeast point_below (candidates o c.args.normal c.args.overrun) c.least-in-Some-2.result in
    subst P (sym c.in-Some-2.is) c.least-in-Some-2.ensures
