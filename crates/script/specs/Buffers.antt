-- What replay leaves in a buffer that the caller brings.

use Rattle.std.specs.Prelude.{◌≡◌, ℕ, ◌+◌, ◌*◌, ◌<◌, ◌≤◌, List, ◌++◌, length, drop, ℤ, pos, neg_ℤ, Ok, Err, count_by, Result, ◌==◌}
use Rattle.script.specs.Replays.{Replayed}
use Rattle.script.specs.declared.buffer.Unwritten.{Unwritten}
use Rattle.script.specs.declared.buffer.Unwritten.TheVariants.{TextTooLong, BufferTooShort}

abbrev pub newlines : List ℕ → ℕ
newlines text = count_by (λ byte. byte == 10) text

-- The room that the answers to a text have: 80 bytes for each of its newlines, and for two lines more.
abbrev pub room_for : List ℕ → ℕ
room_for text = 80 * (newlines text + 2)

-- No text above 65,536 bytes is replayed, and none is told its room.
abbrev pub RoomTold : List ℕ → Result ℕ Unwritten → Type 0
RoomTold text (Ok room) = (length text ≤ 65536) × (room ≡ room_for text)
RoomTold text (Err TextTooLong) = 65536 < length text
RoomTold text (Err BufferTooShort) = ⊥

-- From the text and the buffer before, to the answer and the buffer after. Where nothing is written, the first reason is told: a text above 65,536 bytes, then a buffer without room.
abbrev pub Filled : List ℕ → List ℕ → Result ℕ Unwritten → List ℕ → Type 0
Filled text before (Ok n) after =
    (length text ≤ 65536) × (room_for text ≤ length before)
    × ((written : List ℕ) × Replayed text written × (n ≡ length written) × (n ≤ room_for text) × (after ≡ written ++ drop n before))
Filled text before (Err TextTooLong) after = (65536 < length text) × (after ≡ before)
Filled text before (Err BufferTooShort) after = (length text ≤ 65536) × (length before < room_for text) × (after ≡ before)

-- As C is told why nothing was written.
abbrev pub unwritten_number : Unwritten → ℤ
unwritten_number TextTooLong = neg_ℤ (pos 22)
unwritten_number BufferTooShort = neg_ℤ (pos 21)

-- And as C is told an answer: how many bytes were written, or why none.
abbrev pub filled_number : Result ℕ Unwritten → ℤ
filled_number (Ok n) = pos n
filled_number (Err why) = unwritten_number why

abbrev pub FilledNumber : List ℕ → List ℕ → ℤ → List ℕ → Type 0
FilledNumber text before r after = (answer : Result ℕ Unwritten) × Filled text before answer after × (r ≡ filled_number answer)
