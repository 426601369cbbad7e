-- The bank of streams that are open only at the moments of a raster, those with their phase, and there for one release.

use Rattle.std.specs.Prelude.{ℕ, List, map}
use Rattle.bank.specs.Kinds.{Kind}
use Rattle.table.specs.Phases.{next_on_raster, open_on_raster}
use Rattle.table.specs.Tabled.{timetabled}
use Rattle.table.specs.Tables.{RecordState, states_of}
use Rattle.table.specs.declared.phasing.OnRaster.{OnRaster}
use Rattle.table.specs.declared.shared.State.{State}
use Rattle.table.specs.declared.timetable.Timetable.{Timetable}

abbrev pub Raster : Type 0
Raster = Timetable OnRaster

-- a state but for its phase
abbrev pub unphased : State OnRaster → RecordState
unphased s = record { stream = s.stream.record; wait = s.wait }

abbrev pub raster_states : Raster → List RecordState
raster_states b = map unphased (states_of b.table)

-- the phases of streams 1, 2 and so on
abbrev pub phases_in : Raster → List ℕ
phases_in b = map (λ s. s.stream.phase) (states_of b.table)

-- its letter is R
abbrev pub raster : Kind Raster
raster = timetabled 82 (λ s. s.record) open_on_raster next_on_raster
