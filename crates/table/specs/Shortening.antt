-- Shortening: every critical stream gets a short deadline of so many thousandths of its deadline, unless one of them would be below its budget.

use Rattle.std.specs.Prelude.{◌≡◌, ℕ, ◌+◌, ◌*◌, ◌/◌, Bool, cond, List, length, position, Some, None, Ok, Err, Option, Result, nat_le, nat_lt}
use Rattle.std.specs.Option.{option_map}
use Rattle.stream.specs.declared.Class.{Class}
use Rattle.stream.specs.declared.Class.TheVariants.{Critical, Background}
use Rattle.stream.specs.declared.Row.{Row}
use Rattle.stream.specs.declared.limits.Record.{Record}
use Rattle.table.specs.Tables.{state_of, states_of}
use Rattle.table.specs.declared.shared.State.{State}
use Rattle.table.specs.declared.timetable.Timetable.{Timetable}
use Rattle.table.specs.declared.shortening.Shortfall.{Shortfall}
use Rattle.table.specs.declared.shortening.Shortfall.TheVariants.{Factor, Stream}

-- the short deadline at a factor; a background stream keeps its own
abbrev pub short_at : ℕ → Class → Row → ℕ
short_at factor Critical row = row.deadline * factor / 1000
short_at factor Background row = row.short

abbrev pub shortened : ℕ → Row → Row
shortened factor row = record { class = row.class; budget = row.budget; certain = row.certain; short = short_at factor row.class row; deadline = row.deadline; gap = row.gap }

-- the short deadline would be below the budget
abbrev pub too_short : ℕ → Row → Bool
too_short factor row = nat_lt (shortened factor row).short row.budget

-- what a shortfall is refused by: its number, and the stream that it names
abbrev pub told_of : Shortfall → ℕ × Option ℕ
told_of Factor = (13, None)
told_of (Stream i) = (7, Some i)

-- the first stream whose short deadline would be below its budget
abbrev pub first_short : {S : Type 0} → (S → Record) → ℕ → List (State S) → Option Shortfall
first_short recorded factor states = option_map (λ at. Stream (at + 1)) (position (λ s. too_short factor (recorded s.stream).row) states)

-- why the streams are not shortened, if they are not: the factor, and then the first stream that would fall short
abbrev pub shortfall_of : {S : Type 0} → (S → Record) → ℕ → List (State S) → Option (ℕ × Option ℕ)
shortfall_of recorded factor states = cond (nat_le 1 factor) (cond (nat_le factor 1000) (option_map told_of (first_short recorded factor states)) (Some (13, None))) (Some (13, None))

-- every row is shortened, and every stream opens as before: it is alike, and waits as long
pub record AllShortened {S : Type 0} (recorded : S → Record) (alike : S → S → Type 0) (factor : ℕ) (before later : List (State S)) : Type 0 where
  pub size : length later ≡ length before
  pub each : (i : ℕ) (s : State S) → state_of before i ≡ Some s → (t : State S) × (state_of later i ≡ Some t) × ((recorded t.stream).row ≡ shortened factor (recorded s.stream).row) × (t.wait ≡ s.wait) × alike s.stream t.stream

-- what shortening answers: why not, and then nothing changes; else all are shortened
abbrev pub Shortening : {S : Type 0} → (S → Record) → (S → S → Type 0) → ℕ → Timetable S → Result (Unit {0}) Shortfall → Timetable S → Type 0
Shortening recorded alike factor b (Err why) c = (shortfall_of recorded factor (states_of b.table) ≡ Some (told_of why)) × (c ≡ b)
Shortening recorded alike factor b (Ok _) c = (shortfall_of recorded factor (states_of b.table) ≡ None) × AllShortened recorded alike factor (states_of b.table) (states_of c.table)
