use Rattle.std.proofs.Common.{ℕ, List, length}
use Rattle.text.specs.Reader.{bytes_left, line_number}
use Rattle.script.specs.Playing.{Wrote}
use Rattle.script.proofs.script.run_script.Given as goal

-- whatever the rest of the script writes behind what is written, the whole writes
abbrev pub invariant-loop-reader : goal.invariant-loop-reader
invariant-loop-reader g l =
    (after : List ℕ) (m : ℕ) →
    Wrote g.B.Bank.kind (bytes_left l.reader) (line_number l.reader) l.engine.bank l.engine.state l.buffer l.written after m →
    Wrote g.B.Bank.kind (bytes_left l.initial.reader) (line_number l.initial.reader) l.initial.engine.bank l.initial.engine.state l.initial.buffer l.initial.written after m

abbrev pub decreases-loop-reader : goal.decreases-loop-reader
decreases-loop-reader g l = length (bytes_left l.reader)
