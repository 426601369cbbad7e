use Rattle.std.proofs.Common.{◌≡◌}
use Rattle.stream.specs.declared.Phase.TheVariants.{Overrun}
use Rattle.demand.specs.Following.{Upto}
use Rattle.demand.proofs.overrun_demand_after.Given as goal

abbrev pub invariant-loop-before : goal.invariant-loop-before
invariant-loop-before g l = (l.streams.bank.now ≡ l.bank) × (l.streams.phase ≡ Overrun) × Upto g.B.Bank.kind l.streams l.before
