-- Streams on a raster: each is to be released at the moments that have its phase modulo its gap.

use Rattle.std.specs.Prelude.{◌≡◌, ℕ, ◌+◌, ◌-◌, ◌%◌, ◌<◌, cond, ◌==◌, ◌≢◌}
use Rattle.table.specs.declared.phasing.OnRaster.{OnRaster}

-- the least number of ticks after which the moment has this phase
abbrev pub Until : ℕ → ℕ → ℕ → ℕ → Type 0
Until moment gap phase wait = ((moment + wait) % gap ≡ phase) × ((less : ℕ) → less < wait → (moment + less) % gap ≢ phase)

-- the wait a tick later: at its end the next moment of the phase is a gap away
abbrev pub next_wait : ℕ → ℕ → ℕ
next_wait wait gap = cond (wait == 0) (gap - 1) (wait - 1)

-- a stream on a raster opens at the first moment of its phase, and then at each such moment
abbrev pub open_on_raster : ℕ → OnRaster → ℕ → Type 0
open_on_raster moment s wait = Until moment s.record.row.gap s.phase wait

abbrev pub next_on_raster : OnRaster → ℕ → ℕ
next_on_raster s wait = next_wait wait s.record.row.gap
