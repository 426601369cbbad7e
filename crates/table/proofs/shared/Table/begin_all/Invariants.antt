use Rattle.table.proofs.Partly.{Partly, Rewaits}
use Rattle.table.proofs.shared.Table.begin_all.Given as goal

abbrev pub invariant-loop-state : goal.invariant-loop-state
invariant-loop-state g l = Partly (Rewaits (g.S.Timed.first_wait l.moment)) l.state-index l.initial.state-items l.state-items
