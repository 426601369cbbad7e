-- The horizon: the least common multiple of all gaps.

use Rattle.std.specs.Prelude.{◌≡◌, ℕ, ◌%◌, ◌≤◌, Some}
use Rattle.stream.specs.declared.limits.Record.{Record}
use Rattle.bank.specs.Kinds.{Kind}

-- every gap divides h, which is not 0
pub record Common {S : Type 0} (k : Kind S) (b : S) (h : ℕ) : Type 0 where
  pub some : 1 ≤ h
  pub divided : (i : ℕ) (r : Record) → k.records b i ≡ Some r → h % r.row.gap ≡ 0

pub record Horizon {S : Type 0} (k : Kind S) (b : S) (h : ℕ) : Type 0 where
  pub common : Common k b h
  pub least : (m : ℕ) → Common k b m → h ≤ m
