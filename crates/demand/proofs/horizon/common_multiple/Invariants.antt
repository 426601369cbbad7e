use Rattle.std.proofs.Common.{◌≤◌}
use Rattle.demand.proofs.Multiples.{LeastMultiple}
use Rattle.demand.proofs.horizon.common_multiple.Given as goal

abbrev pub invariant-loop-stream : goal.invariant-loop-stream
invariant-loop-stream g l = LeastMultiple g.B.Bank.kind l.bank l.stream l.h × (l.h ≤ 1000000)
