-- A form of text is the set of its words, as bytes; and a text, read from its start, can leave a form.

use Rattle.std.specs.Prelude.{◌≡◌, ℕ, ◌^◌, ◌<◌, Bool, true, false, List, ◌∷◌, ◌++◌, length, codes, decimal}

-- The words are the bytes of the good values.
abbrev pub Form : {V : Type 0} → (V → List ℕ) → (V → Type 0) → List ℕ → Type 0
Form {V} bytes Good w = (v : V) × Good v × (w ≡ bytes v)

-- The one word is these bytes.
abbrev pub Exactly : List ℕ → List ℕ → Type 0
Exactly bytes w = w ≡ bytes

-- The bytes read begin a word and are not all of it. With the byte that comes next they begin none, or no byte comes.
pub record Halts (form : List ℕ → Type 0) (read unread : List ℕ) : Type 0 where
  pub due : (b : ℕ) × (w : List ℕ) × form (read ++ b ∷ w)
  pub dead : (c : ℕ) (more w : List ℕ) → unread ≡ c ∷ more → form (read ++ c ∷ w) → ⊥

-- The text leaves the form where so many bytes are left.
pub record Leaves (form : List ℕ → Type 0) (text : List ℕ) (left : ℕ) : Type 0 where
  pub read : List ℕ
  pub unread : List ℕ
  pub whole : text ≡ read ++ unread
  pub count : length unread ≡ left
  pub halts : Halts form read unread

-- A number of at most 13 digits.
abbrev pub Small : ℕ → Type 0
Small n = n < 10 ^ 13

-- A word and a number, to the end of their line.
abbrev pub numbered : List ℕ → ℕ → List ℕ
numbered word n = word ++ (decimal n ++ codes ")\n")

-- One of two words.
abbrev pub one_of : List ℕ → List ℕ → Bool → List ℕ
one_of one other true = one
one_of one other false = other
