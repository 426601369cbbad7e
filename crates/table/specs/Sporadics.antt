-- The bank of streams that stay closed for a gap after each release, and else are open.

use Rattle.std.specs.Prelude.{List}
use Rattle.bank.specs.Kinds.{Kind}
use Rattle.stream.specs.declared.limits.Record.{Record}
use Rattle.table.specs.Tabled.{timetabled}
use Rattle.table.specs.Tables.{RecordState, states_of}
use Rattle.table.specs.Waits.{one_less, open_at_once}
use Rattle.table.specs.declared.timetable.Timetable.{Timetable}

abbrev pub Sporadic : Type 0
Sporadic = Timetable Record

abbrev pub states_in : Sporadic → List RecordState
states_in b = states_of b.table

-- its letter is S
abbrev pub sporadic : Kind Sporadic
sporadic = timetabled 83 (λ r. r) open_at_once one_less
