use Rattle.std.proofs.Common.{◌+◌, ◌-◌, ◌∙◌, arith, below_more}
use Rattle.stream.specs.declared.Phase.TheVariants.{Normal, Overrun}
use Rattle.demand.specs.Demands.{Fits}
use Rattle.demand.specs.Verdicts.{Passes}
use Rattle.demand.proofs.Nearest.{nearest_upto}
use Rattle.demand.proofs.scan.scan.Goals as goal

pub loop-length-preserved : goal.loop-length-preserved
loop-length-preserved g c =
    let k = g.B.Bank.kind in
    let b = c.args.bank.now in
    let t = c.loop-length.length in
    let i = c.loop-length.invariant in
    let normals = c.in_ok-normal.ensures in
    let overruns = c.in_ok-overrun.ensures in
    let normal : Passes k b Normal t c.in_ok-normal.normal = rw (i.1, i.2) at normals.cases in
    let overrun : Passes k b Overrun t c.in_ok-overrun.overrun = rw (i.4, i.5) at overruns.cases in (
      below_more (λ s. Fits k b s) t i.0 (normal.fits, overrun.fits),
      normals.onward.bank ∙ i.1,
      normals.onward.phase ∙ i.2,
      normals.onward.upto,
      overruns.onward.bank ∙ i.4,
      overruns.onward.phase ∙ i.5,
      overruns.onward.upto,
      nearest_upto k b t (t + 1 - 1) c.loop-length.nearest c.in_ok-normal.normal c.in_ok-overrun.overrun c.keep_nearest.new.nearest (omega arith) normal.is overrun.is i.7 c.keep_nearest.ensures.first c.keep_nearest.ensures.later,
    )
