-- How many releases of a stream are accepted at most, if it stays closed for a gap after each.

use Rattle.std.specs.Prelude.{◌≡◌, ℕ, ◌+◌, ◌-◌, ◌/◌}
use Rattle.bank.specs.Ceilings.{back}
use Rattle.stream.specs.declared.limits.Record.{Record}

-- N(m), in any m + 1 consecutive moments
abbrev pub every : ℕ → ℕ → ℕ
every gap m = m / gap + 1

-- O(m) = N(m - wait), from this moment to m moments later, if the stream stays closed for `wait` ticks more
abbrev pub after : ℕ → ℕ → ℕ → ℕ
after wait gap m = back (every gap) m wait

-- a sporadic stream is open from a begin on, and a tick takes one off its wait
abbrev pub open_at_once : ℕ → Record → ℕ → Type 0
open_at_once moment r wait = wait ≡ 0

abbrev pub one_less : Record → ℕ → ℕ
one_less r wait = wait - 1
