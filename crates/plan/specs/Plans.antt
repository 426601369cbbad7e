-- How a plan is read: stream lines, each looked at whole and tested before the next is looked at, up to a go line or the end of the text.

use Rattle.std.specs.Prelude.{◌≡◌, ℕ, ◌+◌, ◌<◌, ◌≤◌, List, [], ◌∷◌, ◌++◌, length, Some, None, Ok, Err, Option, Result, ◌≢◌}
use Rattle.stream.specs.Faults.{whole_line}
use Rattle.stream.specs.Making.{Made}
use Rattle.stream.specs.Refusals.{number}
use Rattle.stream.specs.declared.Fault.{Fault}
use Rattle.stream.specs.declared.Layer.TheVariants.{Plan}
use Rattle.stream.specs.declared.Refusal.{Refusal}
use Rattle.stream.specs.declared.Row.{Row}
use Rattle.stream.specs.declared.limits.Record.{Record}
use Rattle.bank.specs.Kinds.{Kind}
use Rattle.join.specs.Joins.{joined}
use Rattle.join.specs.declared.Joined.{Joined}
use Rattle.table.specs.Rasters.{raster, raster_states, phases_in, Raster as Raster'}
use Rattle.table.specs.Sporadics.{sporadic, states_in, Sporadic as Sporadic'}
use Rattle.table.specs.Tables.{fresh, RecordState as State}
use Rattle.text.specs.Lines.{render, Valid, LineForm}
use Rattle.text.specs.Reader.{Misshapen}
use Rattle.text.specs.declared.line.Line.{Line}
use Rattle.text.specs.declared.line.Line.TheVariants.{Sporadic, Raster, Go}
use Rattle.plan.specs.declared.reading.Start.{Start}
use Rattle.plan.specs.declared.tables.Tables.{Tables}

-- The streams of a plan as far as it is read: the sporadic ones, and those on a raster with their phases.
pub record Rows : Type 0 where
  pub spaced : List State
  pub aligned : List State
  pub phases : List ℕ

abbrev pub rows_in : Tables → Rows
rows_in t = record { spaced = states_in t.sporadic; aligned = raster_states t.raster; phases = phases_in t.raster }

-- the bank of a plan joins its tables
abbrev pub PlanBank : Type 0
PlanBank = Joined Sporadic' Raster'

abbrev pub plan_kind : Kind PlanBank
plan_kind = joined sporadic raster

abbrev pub tables_of : PlanBank → Tables
tables_of bank = record { sporadic = bank.left; raster = bank.right }

abbrev pub no_rows : Rows
no_rows = record { spaced = []; aligned = []; phases = [] }

abbrev pub size : Rows → ℕ
size rows = length rows.spaced + length rows.aligned

abbrev pub with_sporadic : Rows → Record → Rows
with_sporadic rows stream = record { spaced = rows.spaced ++ fresh stream ∷ []; aligned = rows.aligned; phases = rows.phases }

abbrev pub with_raster : Rows → Record → ℕ → Rows
with_raster rows stream phase = record { spaced = rows.spaced; aligned = rows.aligned ++ fresh stream ∷ []; phases = rows.phases ++ phase ∷ [] }

-- A sporadic stream: refused as the 33rd stream, after one on a raster, or by the first limit that it breaks, and then nothing changes; else it is added last.
pub data AddedSporadic (before : Rows) (row : Row) : Result (Unit {0}) Refusal → Rows → Type 0 where
  sporadic_full : {e : Refusal} → 32 ≤ size before → number e ≡ 2 → AddedSporadic before row (Err e) before
  sporadic_disordered : {e : Refusal} → size before < 32 → 0 < length before.aligned → number e ≡ 3 → AddedSporadic before row (Err e) before
  sporadic_unfit : {e : Refusal} → size before < 32 → length before.aligned ≡ 0 → Made row (Err e) → AddedSporadic before row (Err e) before
  sporadic_added : (stream : Record) → size before < 32 → length before.aligned ≡ 0 → stream.row ≡ row → AddedSporadic before row (Ok tt) (with_sporadic before stream)

-- A stream on a raster: refused as the 33rd stream, by the first limit that it breaks, or for its phase.
pub data AddedRaster (before : Rows) (row : Row) (phase : ℕ) : Result (Unit {0}) Refusal → Rows → Type 0 where
  raster_full : {e : Refusal} → 32 ≤ size before → number e ≡ 2 → AddedRaster before row phase (Err e) before
  raster_unfit : {e : Refusal} → size before < 32 → Made row (Err e) → AddedRaster before row phase (Err e) before
  raster_unphased : {e : Refusal} (stream : Record) → size before < 32 → stream.row ≡ row → row.gap ≤ phase → number e ≡ 8 → AddedRaster before row phase (Err e) before
  raster_added : (stream : Record) → size before < 32 → stream.row ≡ row → phase < row.gap → AddedRaster before row phase (Ok tt) (with_raster before stream phase)

-- what a stream line answers
abbrev pub Added : Rows → Line → Result (Unit {0}) Refusal → Rows → Type 0
Added before (Sporadic row) answer next = AddedSporadic before row answer next
Added before (Raster row phase) answer next = AddedRaster before row phase answer next
Added before (Go moment) answer next = ⊥

-- From a text, the number of its first line and the streams so far, to the answer (where it says go, if it does), what is left of the text, the number of its first line, and the streams. A refused stream line is told at its place.
pub data Planned : List ℕ → ℕ → Rows → Result (Option Start) Fault → List ℕ → ℕ → Rows → Type 0 where
  ended : {line : ℕ} {rows : Rows} → Planned [] line rows (Ok None) [] line rows
  go : {text rest : List ℕ} {line moment : ℕ} {rows : Rows} → Valid (Go moment) → text ≡ render (Go moment) ++ rest → Planned text line rows (Ok (Some (record { moment = moment; line = line }))) rest (line + 1) rows
  misshapen : {text : List ℕ} {line : ℕ} {rows : Rows} {fault : Fault} → (text ≢ []) → Misshapen LineForm text line fault → Planned text line rows (Err fault) text line rows
  refused : {text rest : List ℕ} {line : ℕ} {rows next : Rows} {e : Refusal} (stream : Line) → Valid stream → text ≡ render stream ++ rest → Added rows stream (Err e) next → Planned text line rows (Err (whole_line e Plan line)) rest (line + 1) next
  more : {text rest last : List ℕ} {line end : ℕ} {rows next final : Rows} {answer : Result (Option Start) Fault} (stream : Line) → Valid stream → text ≡ render stream ++ rest → Added rows stream (Ok tt) next → Planned rest (line + 1) next answer last end final → Planned text line rows answer last end final
