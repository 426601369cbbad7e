-- The ledger of a run. It never looks at the worker: it is fed the records of the streams, the calls, and of the answers only which calls were refused and whose turn a settle names.

use Rattle.std.specs.Prelude.{ℕ, ◌+◌, Bool, true, false, cond, ◌&&◌, List, [], ◌∷◌, ◌++◌, map, Some, None, count_by, Option, ◌==◌}
use Rattle.stream.specs.declared.Phase.{Phase}
use Rattle.stream.specs.declared.Phase.TheVariants.{Normal, Overrun}
use Rattle.stream.specs.declared.limits.Record.{Record}
use Rattle.turns.specs.Jobs.{background, ending}
use Rattle.turns.specs.Runs.{Call, release, pick, settle, calm, Heard, refused, granted, named}
use Rattle.turns.specs.declared.End.{End}
use Rattle.turns.specs.declared.End.TheVariants.{Going, Finished, Cut, Switch}
use Rattle.turns.specs.declared.Turn.{Turn}
use Rattle.turns.specs.declared.Turn.TheVariants.{Idle, Of}

pub data Status : Type 0 where
  waits : Status
  finished : Status
  cut : Status
  dropped : Status

-- a job: its stream, the turns since its release, the turns it had, and what became of it
pub record Entry : Type 0 where
  pub stream : ℕ
  pub age : ℕ
  pub units : ℕ
  pub status : Status

pub record Ledger : Type 0 where
  pub mode : Phase
  pub entries : List Entry

abbrev pub empty : Ledger
empty = record { mode = Normal; entries = [] }

abbrev pub is_waiting : Status → Bool
is_waiting waits = true
is_waiting finished = false
is_waiting cut = false
is_waiting dropped = false

abbrev pub is_finished : Status → Bool
is_finished waits = false
is_finished finished = true
is_finished cut = false
is_finished dropped = false

abbrev pub is_cut : Status → Bool
is_cut waits = false
is_cut finished = false
is_cut cut = true
is_cut dropped = false

abbrev pub is_dropped : Status → Bool
is_dropped waits = false
is_dropped finished = false
is_dropped cut = false
is_dropped dropped = true

-- how many entries are of a sort
abbrev pub sort : (Status → Bool) → List Entry → ℕ
sort p entries = count_by (λ e. p e.status) entries

-- the waiting job of a stream
abbrev pub waits_for : ℕ → Entry → Bool
waits_for i e = is_waiting e.status && e.stream == i

abbrev pub newcomer : ℕ → Entry
newcomer i = record { stream = i; age = 0; units = 0; status = waits }

abbrev pub older : Entry → Entry
older e = record { stream = e.stream; age = e.age + 1; units = e.units; status = e.status }

-- how the turn ends for the waiting job of stream i, by the ledger's own units and mode
abbrev pub end_in : Phase → Option Record → Bool → ℕ → List Entry → End
end_in mode None done i entries = Going
end_in mode (Some r) done i [] = Going
end_in mode (Some r) done i (e ∷ entries) = cond (waits_for i e) (ending mode r.row (e.units + 1) done) (end_in mode (Some r) done i entries)

abbrev pub status_after : End → Status
status_after Going = waits
status_after Finished = finished
status_after Cut = cut
status_after Switch = waits

-- the waiting job of stream i gets a unit, and the turn's end
abbrev pub served : ℕ → End → Entry → Entry
served i end e = cond (waits_for i e) (record { stream = e.stream; age = e.age; units = e.units + 1; status = status_after end }) e

abbrev pub of_background : Option Record → Bool
of_background None = false
of_background (Some r) = background r.row.class

-- a waiting background job is dropped
abbrev pub abandoned : (ℕ → Option Record) → Entry → Entry
abandoned records e = cond (is_waiting e.status && of_background (records e.stream)) (record { stream = e.stream; age = e.age; units = e.units; status = dropped }) e

abbrev pub mode_after : End → Phase → Phase
mode_after Going mode = mode
mode_after Finished mode = mode
mode_after Cut mode = mode
mode_after Switch mode = Overrun

abbrev pub left_after : (ℕ → Option Record) → End → List Entry → List Entry
left_after records Going entries = entries
left_after records Finished entries = entries
left_after records Cut entries = entries
left_after records Switch entries = map (abandoned records) entries

abbrev pub settled_in : (ℕ → Option Record) → Ledger → Turn → Bool → Ledger
settled_in records l Idle done = record { mode = l.mode; entries = map older l.entries }
settled_in records l (Of i) done = record {
  mode = mode_after (end_in l.mode (records i) done i l.entries) l.mode;
  entries = left_after records (end_in l.mode (records i) done i l.entries) (map (served i (end_in l.mode (records i) done i l.entries)) (map older l.entries));
}

-- what a call adds; one that is refused adds nothing, and neither does a pick
abbrev pub entered : (ℕ → Option Record) → Ledger → Call → Heard → Ledger
entered records l (release i) refused = l
entered records l (release i) granted = record { mode = l.mode; entries = l.entries ++ newcomer i ∷ [] }
entered records l (release i) (named turn) = l
entered records l pick answer = l
entered records l (settle slip done) refused = l
entered records l (settle slip done) granted = l
entered records l (settle slip done) (named turn) = settled_in records l turn done
entered records l calm refused = l
entered records l calm granted = record { mode = Normal; entries = l.entries }
entered records l calm (named turn) = l

-- the ledger after further calls
abbrev pub kept : (ℕ → Option Record) → Ledger → List (Call × Heard) → Ledger
kept records l [] = l
kept records l ((act, h) ∷ calls) = kept records (entered records l act h) calls
