use Rattle.std.proofs.Common.{◌≡◌, ◌-◌, ◌*◌, ◌^◌, ◌≤◌}
use Rattle.demand.specs.Demands.{total}
use Rattle.demand.specs.Loads.{load_of}
use Rattle.demand.proofs.loads.load.Given as goal

abbrev pub invariant-loop-stream : goal.invariant-loop-stream
invariant-loop-stream g l = (l.sum ≡ total (l.stream - 1) (load_of g.B.Bank.kind l.bank)) × (l.sum ≤ 2 ^ 42 * l.stream)
