use Rattle.std.proofs.Common.{◌≡◌, ◌-◌, ◌*◌, ◌^◌, ◌≤◌}
use Rattle.stream.specs.declared.Phase.TheVariants.{Normal}
use Rattle.demand.specs.Demands.{total, asks}
use Rattle.demand.proofs.normal.normal_demand_alone.Given as goal

abbrev pub invariant-loop-stream : goal.invariant-loop-stream
invariant-loop-stream g l = (l.sum ≡ total (l.stream - 1) (asks g.B.Bank.kind l.bank Normal l.length)) × (l.sum ≤ 2 ^ 37 * l.stream)
