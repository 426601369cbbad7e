-- What an engine reports: its tally, and how many jobs wait.

use Rattle.turns.specs.Jobs.{waiting}
use Rattle.turns.specs.declared.Counts.{Counts}
use Rattle.turns.specs.declared.State.{State}

abbrev pub counts_of : State → Counts
counts_of s = record { accepted = s.tally.accepted; finished = s.tally.finished; cut = s.tally.cut; dropped = s.tally.dropped; waiting = waiting s.jobs }
