-- Where a text is out of shape.

use Rattle.std.specs.Prelude.{ℕ}
use Rattle.stream.specs.declared.Fault.{Fault}
use Rattle.stream.specs.declared.Layer.TheVariants.{Text}
use Rattle.stream.specs.declared.Refusal.TheVariants.{OutOfShape}

-- Number 1 of layer T, at a line and a byte, both from 1.
abbrev pub out_of_shape : ℕ → ℕ → Fault
out_of_shape line byte = record { refusal = OutOfShape; layer = Text; line = line; byte = byte }
