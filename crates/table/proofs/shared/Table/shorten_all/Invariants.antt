use Rattle.table.proofs.Partly.{Partly}
use Rattle.table.proofs.Shorts.{Shortens}
use Rattle.table.proofs.shared.Table.shorten_all.Given as goal

abbrev pub invariant-loop-state : goal.invariant-loop-state
invariant-loop-state g l = Partly (Shortens g.S.Timed.recorded g.S.Timed.alike l.factor.count) l.state-index l.initial.state-items l.state-items
