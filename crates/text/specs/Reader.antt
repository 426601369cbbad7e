-- A reader of lines: what it has before it, and what it answers.

use Rattle.std.specs.Prelude.{◌≡◌, ℕ, ◌+◌, List, ◌++◌, length, Ok, Result}
use Rattle.stream.specs.Refusals.{number}
use Rattle.stream.specs.declared.Fault.{Fault}
use Rattle.text.specs.declared.reader.Reader.{Reader}
use Rattle.text.specs.Places.{out_of_shape}
use Rattle.text.specs.Words.{Halts}

-- The bytes that are left.
abbrev pub bytes_left : Reader → List ℕ
bytes_left r = r.rest.now

-- The number of the line that comes next, from 1.
abbrev pub line_number : Reader → ℕ
line_number r = r.line

-- A good value was read by its bytes, a line with its newline.
pub record ReadBy {V : Type 0} (bytes : V → List ℕ) (Good : V → Type 0) (before : Reader) (value : V) (after : Reader) : Type 0 where
  pub valid : Good value
  pub whole : bytes_left before ≡ bytes value ++ bytes_left after
  pub next : line_number after ≡ line_number before + 1

-- A text begins with no line of the form: its bytes up to the fault begin one, and with the byte at the fault they begin none, or there is no byte.
pub record Misshapen (form : List ℕ → Type 0) (text : List ℕ) (line : ℕ) (fault : Fault) : Type 0 where
  pub read : List ℕ
  pub unread : List ℕ
  pub whole : text ≡ read ++ unread
  pub place : fault ≡ out_of_shape line (length read + 1)
  pub told : number fault.refusal ≡ 1
  pub halts : Halts form read unread

-- No line of the form was read, and the reader stays.
pub record NoneRead (form : List ℕ → Type 0) (before : Reader) (fault : Fault) (after : Reader) : Type 0 where
  pub same : after ≡ before
  pub misshapen : Misshapen form (bytes_left before) (line_number before) fault

-- Every text that begins with the bytes of a good value is read as that value.
abbrev pub AllRead : {V E : Type 0} → (V → List ℕ) → (V → Type 0) → List ℕ → Result V E → Type 0
AllRead {V} bytes Good text answer = (value : V) (more : List ℕ) → Good value → text ≡ bytes value ++ more → answer ≡ Ok value
