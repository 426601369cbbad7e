-- Answers as they are written.

use Rattle.std.specs.Prelude.{◌≡◌, ℕ, ◌+◌, ◌<◌, ◌≤◌, List, [], ◌∷◌, ◌++◌, length, drop}
use Rattle.text.specs.Shown.{answer_line}
use Rattle.text.specs.declared.answer.Answer.{Answer}

-- an answer in a line of its own
abbrev pub line_of : Answer → List ℕ
line_of answer = answer_line answer ++ 10 ∷ []

abbrev pub lines_of : List Answer → List ℕ
lines_of [] = []
lines_of (answer ∷ answers) = line_of answer ++ lines_of answers

-- In a buffer of whose bytes n are written, these bytes are written behind them, if they have room, so that m are written then; what comes after them stays.
abbrev pub Appended : List ℕ → ℕ → List ℕ → List ℕ → ℕ → Type 0
Appended before n bytes after m =
    (written rest : List ℕ) → before ≡ written ++ rest → n ≡ length written → length bytes ≤ length rest → (m ≡ n + length bytes) × (after ≡ written ++ (bytes ++ drop (length bytes) rest))

-- without room for them nothing is written
pub record Told (before : List ℕ) (n : ℕ) (bytes : List ℕ) (after : List ℕ) (m : ℕ) : Type 0 where
  pub appended : Appended before n bytes after m
  pub full : length before < n + length bytes → (m ≡ n) × (after ≡ before)
