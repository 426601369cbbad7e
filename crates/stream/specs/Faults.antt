-- A refusal at a whole line: its byte is 0.

use Rattle.std.specs.Prelude.{ℕ, Ok, Err, Result}
use Rattle.stream.specs.declared.Fault.{Fault}
use Rattle.stream.specs.declared.Layer.{Layer}
use Rattle.stream.specs.declared.Refusal.{Refusal}

abbrev pub whole_line : Refusal → Layer → ℕ → Fault
whole_line refusal layer line = record { refusal = refusal; layer = layer; line = line; byte = 0 }

abbrev pub placed : {X : Type 0} → Result X Refusal → Layer → ℕ → Result X Fault
placed (Ok x) layer line = Ok x
placed (Err e) layer line = Err (whole_line e layer line)
