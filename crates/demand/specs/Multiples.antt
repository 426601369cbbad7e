-- The next multiple that a gap divides: how the least common multiple grows from one stream to the next.

use Rattle.std.specs.Prelude.{◌≡◌, ℕ, ◌*◌, ◌%◌, ◌<◌, ◌≤◌, ◌≢◌}

-- x is the first of h, 2h, 3h .. that the gap divides
pub record NextMultiple (h gap x : ℕ) : Type 0 where
  pub times : ℕ
  pub some : 1 ≤ times
  pub is : x ≡ times * h
  pub divided : x % gap ≡ 0
  pub near : x ≤ 1000000
  pub first : (p : ℕ) → 1 ≤ p → p < times → (p * h) % gap ≢ 0
