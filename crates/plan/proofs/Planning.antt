-- A line of a plan, or its end, from what the reader says of it.

use Rattle.std.proofs.Common.{◌≡◌, ℕ, List, length, Some, None, Ok, Err, Option, Result, ap}
use Rattle.std.proofs.lemmas.List.{nil_from_length}
use Rattle.stream.specs.Faults.{whole_line}
use Rattle.stream.specs.declared.Fault.{Fault}
use Rattle.stream.specs.declared.Layer.TheVariants.{Plan}
use Rattle.stream.specs.declared.Refusal.{Refusal}
use Rattle.text.specs.Lines.{render, Valid, LineForm}
use Rattle.text.specs.Reader.{bytes_left, line_number, NoneRead, ReadBy}
use Rattle.text.specs.declared.line.Line.{Line}
use Rattle.text.specs.declared.line.Line.TheVariants.{Go}
use Rattle.text.specs.declared.reader.Reader.{Reader}
use Rattle.plan.specs.declared.reading.Start.{Start}
use Rattle.plan.specs.declared.tables.Tables.{Tables}
use Rattle.plan.specs.Plans.{Rows, rows_in, Added, Planned, ended, go, misshapen, refused, more}

abbrev pub LineRead : Reader → Line → Reader → Type 0
LineRead = ReadBy render Valid

-- a stream line was read, and this is what it was answered
pub record Read (before later : Reader) (rows : Rows) (answer : Result (Unit {0}) Refusal) (next : Rows) : Type 0 where
  pub stream : Line
  pub line : LineRead before stream later
  pub added : Added rows stream answer next

pub read_as : {before later : Reader} {rows : Rows} {line stream : Line} {answer given : Result (Unit {0}) Refusal} {next after : Tables} → LineRead before line later → line ≡ stream → answer ≡ given → next ≡ after → Added rows stream given (rows_in after) → Read before later rows answer (rows_in next)
read_as {stream = stream} read is answered left added = record { stream = stream; line = rw is at read; added = rw (answered, left) added }

module _ (before later : Reader) (rows : Rows) where
  pub plan_ended : length (bytes_left before) ≡ 0 → Planned (bytes_left before) (line_number before) rows (Ok None) (bytes_left before) (line_number before) rows
  plan_ended none = simp (nil_from_length (bytes_left before) none) ended

  pub plan_misshapen : (fault : Fault) → (length (bytes_left before) ≡ 0 → ⊥) → NoneRead LineForm before fault later → Planned (bytes_left before) (line_number before) rows (Err fault) (bytes_left later) (line_number later) rows
  plan_misshapen fault some off =
      rw off.same (misshapen (λ none. some (ap length none)) off.misshapen)

  pub plan_go : (moment : ℕ) → LineRead before (Go moment) later → Planned (bytes_left before) (line_number before) rows (Ok (Some (record { moment = moment; line = line_number before }))) (bytes_left later) (line_number later) rows
  plan_go moment read = simp read.next (go read.valid read.whole)

  pub plan_refused : (e : Refusal) {answer : Result (Unit {0}) Refusal} {next : Rows} → Read before later rows answer next → answer ≡ Err e → Planned (bytes_left before) (line_number before) rows (Err (whole_line e Plan (line_number before))) (bytes_left later) (line_number later) next
  plan_refused e read is = simp read.line.next (refused read.stream read.line.valid read.line.whole (rw is at read.added))

  pub plan_more : {added : Result (Unit {0}) Refusal} {next : Rows} → Read before later rows added next → added ≡ Ok tt → (answer : Result (Option Start) Fault) (last : List ℕ) (end : ℕ) (final : Rows) → Planned (bytes_left later) (line_number later) next answer last end final → Planned (bytes_left before) (line_number before) rows answer last end final
  plan_more read is answer last end final rest = more read.stream read.line.valid read.line.whole (rw is at read.added) (simp read.line.next at rest)
