-- Runs of acts, and how many releases of a stream they accept. A refused release changes nothing, so a run may hold any number of them.

use Rattle.std.specs.Prelude.{◌≡◌, ℕ, ◌+◌, ◌<◌, ◌≤◌, cond, List, [], ◌∷◌, Some, ◌==◌}
use Rattle.stream.specs.declared.limits.Record.{Record}
use Rattle.bank.specs.Kinds.{Kind}

pub data Act : Type 0 where
  ticks : Act
  accepts : ℕ → Act

pub data Run {S : Type 0} (k : Kind S) : S → List Act → S → Type 0 where
  done : {b : S} → Run k b [] b
  tick : {b c d : S} {acts : List Act} → k.ticks b c → Run k c acts d → Run k b (ticks ∷ acts) d
  accept : {b c d : S} {i : ℕ} {r : Record} {acts : List Act} → k.records b i ≡ Some r → 0 < k.opening b i 0 → k.accepts b i c → Run k c acts d → Run k b (accepts i ∷ acts) d

-- the releases of a stream that the acts accept
abbrev pub releases : ℕ → List Act → ℕ
releases i [] = 0
releases i (ticks ∷ acts) = releases i acts
releases i (accepts j ∷ acts) = cond (j == i) 1 0 + releases i acts

-- the moments that the acts lie in: one more than their ticks
abbrev pub moments : List Act → ℕ
moments [] = 1
moments (ticks ∷ acts) = 1 + moments acts
moments (accepts j ∷ acts) = moments acts

-- In any so many consecutive moments after begin, at most `most` releases of stream i are accepted.
abbrev pub AtMost : {S : Type 0} → Kind S → S → ℕ → ℕ → ℕ → Type 0
AtMost {S} k bank i span most =
    (moment : ℕ) (b c d : S) (before window : List Act) → k.begins bank moment b → Run k b before c → Run k c window d → moments window ≤ span → releases i window ≤ most

-- From this moment on, in any so many moments, at most `most` releases of stream i are accepted.
abbrev pub AtMostToCome : {S : Type 0} → Kind S → S → ℕ → ℕ → ℕ → Type 0
AtMostToCome {S} k b i span most =
    (c : S) (window : List Act) → Run k b window c → moments window ≤ span → releases i window ≤ most
