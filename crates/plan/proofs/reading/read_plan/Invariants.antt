use Rattle.std.proofs.Common.{ℕ, List, length, Option, Result}
use Rattle.stream.specs.declared.Fault.{Fault}
use Rattle.text.specs.Reader.{bytes_left, line_number}
use Rattle.plan.specs.declared.reading.Start.{Start}
use Rattle.plan.specs.Plans.{Planned, Rows, rows_in}
use Rattle.plan.proofs.reading.read_plan.Given as goal

-- whatever the rest of the text is read as, the whole is
abbrev pub invariant-loop-reader : goal.invariant-loop-reader
invariant-loop-reader l =
    (answer : Result (Option Start) Fault) (rest : List ℕ) (end : ℕ) (final : Rows) →
    Planned (bytes_left l.reader) (line_number l.reader) (rows_in l.tables) answer rest end final →
    Planned (bytes_left l.initial.reader) (line_number l.initial.reader) (rows_in l.initial.tables) answer rest end final

abbrev pub decreases-loop-reader : goal.decreases-loop-reader
decreases-loop-reader l = length (bytes_left l.reader)
