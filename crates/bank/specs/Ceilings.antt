-- What the ceiling N of a stream keeps, over its numbers and its count k.

use Rattle.std.specs.Prelude.{◌≡◌, ℕ, ◌+◌, ◌-◌, ◌<◌, ◌≤◌, cond, nat_lt}
use Rattle.stream.specs.declared.Row.{Row}

-- f at t - v, and 0 where that is below 0
abbrev pub back : (ℕ → ℕ) → ℕ → ℕ → ℕ
back f t v = cond (nat_lt t v) 0 (f (t - v))

pub record Ceiling (row : Row) (k : ℕ) (N : ℕ → ℕ) : Type 0 where
  -- one release is accepted within a deadline
  pub single : (m : ℕ) → m < row.deadline → N m ≡ 1
  -- N never falls as m grows
  pub rises : (m n : ℕ) → m ≤ n → N m ≤ N n
  -- N(m + T) = N(m) + k for every m from -D up, here m = x - D
  pub repeats : (x : ℕ) → back N (x + row.gap) row.deadline ≡ back N x row.deadline + k
  -- k is from 1 to T
  pub some : 1 ≤ k
  pub few : k ≤ row.gap
