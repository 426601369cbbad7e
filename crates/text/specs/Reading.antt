-- What is before a cursor, and what its parts read there.

use Rattle.std.specs.Prelude.{◌≡◌, ℕ, ◌+◌, ◌-◌, ◌≤◌, ◌⊎◌, List, ◌++◌, length, take, Ok, Err, decimal, Result, slice_index, slice_index_or}
use Rattle.std.specs.Str.Parse.{AllDigits}
use Rattle.std.specs.Int.{IsInRange}
use Rattle.stream.specs.declared.Fault.{Fault}
use Rattle.text.specs.declared.cursor.Cursor.{Cursor}
use Rattle.text.specs.Places.{out_of_shape}
use Rattle.text.specs.Reader.{bytes_left, line_number}
use Rattle.text.specs.Words.{Form, Leaves, Small}

abbrev pub ahead : Cursor → List ℕ
ahead c = c.rest.now

-- Out of shape at the next byte.
abbrev pub fault_at : Cursor → Fault
fault_at c = out_of_shape (line_number c.reader.now) (length (bytes_left c.reader.now) + 1 - length (ahead c))

-- How many bytes are left at the fault.
abbrev pub left_at : Cursor → Fault → ℕ
left_at c fault = length (bytes_left c.reader.now) + 1 - fault.byte

-- What is ahead leaves a form, and the fault stands where it does.
pub record Strays (form : List ℕ → Type 0) (c : Cursor) (fault : Fault) : Type 0 where
  pub leaves : Leaves form (ahead c) (left_at c fault)
  pub place : fault ≡ out_of_shape (line_number c.reader.now) fault.byte
  pub within : fault.byte ≤ length (bytes_left c.reader.now) + 1

-- A good value was read by its bytes, in the same reader's line; or what is ahead leaves the form of such values.
abbrev pub Reads : {V : Type 0} → (V → List ℕ) → (V → Type 0) → Cursor → Result V Fault → Cursor → Type 0
Reads bytes Good before (Ok v) after = (Good v × (ahead before ≡ bytes v ++ ahead after)) × (after.reader ≡ before.reader)
Reads bytes Good before (Err fault) after = Strays (Form bytes Good) before fault

-- A number and the bytes that close it.
abbrev pub closed : List ℕ → ℕ → List ℕ
closed close n = decimal n ++ close

-- The digits at the front of a text that are one number: 0 alone, or at most 13 of them, and as many as there are.
pub record Numeral (text : List ℕ) (len : ℕ) : Type 0 where
  pub within : len ≤ length text
  pub short : len ≤ 13
  pub digits : AllDigits 10 (take len text)
  pub lone : slice_index_or text 0 0 ≡ 48 → len ≤ 1
  pub full : IsInRange 48 57 (slice_index text len) → (len ≡ 13) ⊎ ((len ≡ 1) × (slice_index text 0 ≡ 48))

-- A number, with no digit after it that could be one more of its own.
pub record Counted (text : List ℕ) (n : ℕ) (after : List ℕ) : Type 0 where
  pub whole : text ≡ decimal n ++ after
  pub small : Small n
  pub full : IsInRange 48 57 (slice_index after 0) → (n ≡ 0) ⊎ (length (decimal n) ≡ 13)
