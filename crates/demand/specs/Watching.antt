-- What the test carries of a stream from length to length: the share that stays the same for a while, and the plateau of its ceiling.

use Rattle.std.specs.Prelude.{◌≡◌, ℕ, ◌+◌, ◌-◌, ◌^◌, ◌<◌, ◌≤◌, cond, ◌==◌}
use Rattle.stream.specs.declared.Class.TheVariants.{Critical}
use Rattle.stream.specs.declared.Phase.{Phase}
use Rattle.stream.specs.declared.Phase.TheVariants.{Normal, Overrun}
use Rattle.stream.specs.declared.Row.{Row}
use Rattle.demand.specs.declared.watch.Plateau.{Plateau}
use Rattle.demand.specs.declared.watch.Steady.{Steady}
use Rattle.demand.specs.declared.watch.Watch.{Watch}
use Rattle.demand.specs.Shares.{share_of, slack}

-- m lies on a plateau of N: N has one value, `level`, from `start` to m, and smaller ones before.
pub record Flat (N : ℕ → ℕ) (m start level : ℕ) : Type 0 where
  pub reaches : start ≤ m
  pub value : level ≡ N m
  pub same : N start ≡ N m
  pub lower : (p : ℕ) → p < start → N p < N m

-- The plateau of m is known, and that it goes on below its end. Both fit 64 bits with room to spare.
pub record On (N : ℕ → ℕ) (m : ℕ) (p : Plateau) : Type 0 where
  pub flat : Flat N m p.start p.level
  pub lasts : (q : ℕ) → m ≤ q → q < p.end → N q ≡ p.level
  pub ahead : m < p.end
  pub near : p.end ≤ 1065535
  pub small : p.level ≤ 1065535

-- what is remembered when the next m to ask for is `next`: nothing yet, or the plateau of the m before
pub record Seen (N : ℕ → ℕ) (next : ℕ) (p : Plateau) : Type 0 where
  pub unasked : next ≡ 0 → (p.level ≡ 0) × (p.end ≡ 0)
  pub asked : 0 < next → Flat N (next - 1) p.start p.level
  pub lasts : (q : ℕ) → next ≤ q → q < p.end → N q ≡ p.level
  pub near : p.end ≤ 1065535

-- the plateau at m, where N is `level`: the one before goes on, or a new one begins; where N has risen by all of k, it stays for a gap T
abbrev pub moved : Plateau → ℕ → ℕ → ℕ → ℕ → Plateau
moved p m level k T = record { start = cond (level == p.level) p.start m; level = level; end = m + cond (level - p.level == k) T 1 }

-- The same at a length: a stream is asked for the length less its short deadline, and in an overrun, if it is critical, less its slack.
pub record Watched (p : Phase) (r : Row) (N : ℕ → ℕ) (t : ℕ) (seen : Plateau) : Type 0 where
  pub normal : p ≡ Normal → Seen N (t - r.short) seen
  pub overrun : p ≡ Overrun → r.class ≡ Critical → Seen N (t - slack r) seen

-- The share f is steady from length t on, below an end. No share is wider than 37 bits.
pub record Holds (f : ℕ → ℕ) (t : ℕ) (s : Steady) : Type 0 where
  pub is : (q : ℕ) → t ≤ q → q < s.end → f q ≡ s.share
  pub small : s.share < 2 ^ 37

-- The share of a phase is steady, and meanwhile the plateau is what asking would make it.
pub record Kept (p : Phase) (r : Row) (N : ℕ → ℕ) (t : ℕ) (w : Watch) : Type 0 where
  pub watched : Watched p r N t w.plateau
  pub share : Holds (share_of p r N) t w.steady
  pub stays : (q : ℕ) → t ≤ q → q < w.steady.end → Watched p r N (q + 1) w.plateau

-- no share below an end
abbrev pub idle : Plateau → ℕ → Watch
idle p end = record { plateau = p; steady = record { share = 0; end = end } }
