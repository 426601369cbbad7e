use Rattle.std.proofs.Common.{◌≡◌, ◌++◌, map, take, drop}
use Rattle.table.specs.Tables.{SameSize, states_of, ticked}
use Rattle.table.proofs.shared.Table.tick_all.Given as goal

abbrev pub invariant-loop-at : goal.invariant-loop-at
invariant-loop-at g l =
    let states = states_of l.initial.self in
    SameSize l.initial.self l.self × (states_of l.self ≡ map (ticked g.S.Timed.wait_after) (take l.at states) ++ drop l.at states)
