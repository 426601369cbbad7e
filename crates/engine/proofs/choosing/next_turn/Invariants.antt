use Rattle.std.proofs.Common.{◌≤◌, length}
use Rattle.engine.proofs.Keying.{Collected}
use Rattle.engine.proofs.choosing.next_turn.Given as goal

abbrev pub invariant-loop-at : goal.invariant-loop-at
invariant-loop-at l = (length l.keys.items ≤ l.at) × Collected l.state.mode l.state.jobs l.at l.keys.items
