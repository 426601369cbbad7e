-- What a bank means. Moments and lengths are natural numbers; streams are numbered from 1.

use Rattle.std.specs.Prelude.{ℕ, Option}
use Rattle.stream.specs.declared.limits.Record.{Record}

pub record Kind (S : Type 0) : Type 1 where
  -- the one letter of the kind, by its character's number
  pub letter : ℕ
  -- how many streams there are
  pub streams : S → ℕ
  -- the record of a stream, if that stream exists
  pub records : S → ℕ → Option Record
  -- k: how many releases one gap adds to the ceiling
  pub count : S → ℕ → ℕ
  -- N(m): at most so many releases of a stream are accepted in any m + 1 consecutive moments
  pub ceiling : S → ℕ → ℕ → ℕ
  -- O(m): at most so many are still accepted from this moment to m moments later
  pub opening : S → ℕ → ℕ → ℕ
  -- the bank has begun, so that its openings mean something
  pub begun : S → Type 0
  -- the acts, each from the bank before to the bank after
  pub begins : S → ℕ → S → Type 0
  pub ticks : S → S → Type 0
  pub accepts : S → ℕ → S → Type 0
