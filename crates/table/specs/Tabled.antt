-- A bank over a table: its streams, ceilings and openings are those of the table, whatever its acts are.

use Rattle.std.specs.Prelude.{◌≡◌, ℕ, map, length}
use Rattle.bank.specs.Kinds.{Kind}
use Rattle.stream.specs.declared.limits.Record.{Record}
use Rattle.table.specs.Tables.{states_of, record_of, ceiling_of, opening_of, Closes, Rewaited, ticked}
use Rattle.table.specs.declared.shared.Table.{Table}
use Rattle.table.specs.declared.timetable.Timetable.{Timetable}

abbrev pub tabled : {B S : Type 0} → ℕ → (S → Record) → (B → Table S) → (B → ℕ → B → Type 0) → (B → B → Type 0) → (B → ℕ → B → Type 0) → Kind B
tabled letter recorded table begins ticks accepts = record {
  letter = letter;
  streams = λ b. length (states_of (table b));
  records = λ b i. record_of recorded (states_of (table b)) i;
  count = λ b i. 1;
  ceiling = λ b i m. ceiling_of recorded (states_of (table b)) i m;
  opening = λ b i m. opening_of recorded (states_of (table b)) i m;
  -- its openings always mean something
  begun = λ b. Unit {0};
  begins = begins;
  ticks = ticks;
  accepts = accepts;
}

-- a table alone: it has no letter, and nothing begins or ticks it
abbrev pub still : {S : Type 0} → (S → Record) → Kind (Table S)
still recorded = tabled 0 recorded (λ t. t) (λ t moment u. ⊥) (λ t u. ⊥) (λ t i u. Closes recorded (states_of t) i (states_of u))

-- a timetable: its streams know how long they wait from a moment on, and what is left of a wait a tick later
abbrev pub timetabled : {S : Type 0} → ℕ → (S → Record) → (ℕ → S → ℕ → Type 0) → (S → ℕ → ℕ) → Kind (Timetable S)
timetabled letter recorded first_wait wait_after =
    tabled letter recorded (λ b. b.table)
    (λ b moment c. Rewaited (λ i s wait. first_wait moment s wait) (states_of b.table) (states_of c.table))
    (λ b c. states_of c.table ≡ map (ticked wait_after) (states_of b.table))
    (λ b i c. Closes recorded (states_of b.table) i (states_of c.table))
