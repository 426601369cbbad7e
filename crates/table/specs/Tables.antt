-- A table: the states of streams 1, 2 and so on, each a stream with the ticks for which it stays closed. What a stream is, is left open but for its record.

use Rattle.std.specs.Prelude.{◌≡◌, ℕ, ◌-◌, cond, List, length, Some, None, Option, ◌==◌, slice_set}
use Rattle.std.specs.Option.{option_map}
use Rattle.std.specs.List.{slice_get}
use Rattle.stream.specs.declared.limits.Record.{Record}
use Rattle.table.specs.Waits.{every, after}
use Rattle.table.specs.declared.shared.State.{State}
use Rattle.table.specs.declared.shared.Table.{Table}

-- a state of which only the record and the wait are told
abbrev pub RecordState : Type 0
RecordState = State Record

abbrev pub states_of : {S : Type 0} → Table S → List (State S)
states_of t = t.states.items

-- as many streams
abbrev pub SameSize : {S : Type 0} → Table S → Table S → Type 0
SameSize t u = length (states_of u) ≡ length (states_of t)

-- stream i, if it exists
abbrev pub state_of : {S : Type 0} → List (State S) → ℕ → Option (State S)
state_of states i = cond (i == 0) None (slice_get states (i - 1))

-- its record, or what else is told of a stream whatever its wait
abbrev pub record_of : {S R : Type 0} → (S → R) → List (State S) → ℕ → Option R
record_of recorded states i = option_map (λ s. recorded s.stream) (state_of states i)

-- a number told of a stream that exists, and 0 of one that does not
abbrev pub amount : {X : Type 0} → Option X → (X → ℕ) → ℕ
amount None f = 0
amount (Some x) f = f x

abbrev pub ceiling_of : {S : Type 0} → (S → Record) → List (State S) → ℕ → ℕ → ℕ
ceiling_of recorded states i m = amount (record_of recorded states i) (λ r. every r.row.gap m)

abbrev pub opening_of : {S : Type 0} → (S → Record) → List (State S) → ℕ → ℕ → ℕ
opening_of recorded states i m = amount (state_of states i) (λ s. after s.wait (recorded s.stream).row.gap m)

-- the same stream, closed for so many ticks
abbrev pub waiting : {S : Type 0} → ℕ → State S → State S
waiting ticks s = record { stream = s.stream; wait = ticks }

-- a tick later, as the stream goes on with its wait
abbrev pub ticked : {S : Type 0} → (S → ℕ → ℕ) → State S → State S
ticked wait_after s = waiting (wait_after s.stream s.wait) s

-- closed for its gap
abbrev pub closed : {S : Type 0} → (S → Record) → State S → State S
closed recorded s = waiting (recorded s.stream).row.gap s

-- stream i exists and is closed for its gap, and every other state is as before
abbrev pub Closes : {S : Type 0} → (S → Record) → List (State S) → ℕ → List (State S) → Type 0
Closes {S} recorded before i later = (s : State S) × (state_of before i ≡ Some s) × (later ≡ slice_set before (i - 1) (closed recorded s))

-- each stream i gets a wait of which W holds
pub record Rewaited {S : Type 0} (W : ℕ → S → ℕ → Type 0) (before later : List (State S)) : Type 0 where
  pub size : length later ≡ length before
  pub waits : (i : ℕ) (s : State S) → state_of before i ≡ Some s → (wait : ℕ) × (state_of later i ≡ Some (waiting wait s)) × W i s.stream wait

-- a stream as it comes into a table
abbrev pub fresh : {S : Type 0} → S → State S
fresh stream = record { stream = stream; wait = 0 }
