-- What one stream asks of the worker within a span of time of length t. N is the stream's ceiling.

use Rattle.std.specs.Prelude.{ℕ, zero, suc, ◌+◌, ◌-◌, ◌*◌, min, max}
use Rattle.bank.specs.Ceilings.{back}
use Rattle.stream.specs.declared.Class.{Class}
use Rattle.stream.specs.declared.Class.TheVariants.{Critical, Background}
use Rattle.stream.specs.declared.Phase.{Phase}
use Rattle.stream.specs.declared.Phase.TheVariants.{Normal, Overrun}
use Rattle.stream.specs.declared.Row.{Row}

-- In normal mode each job due by its short deadline asks for the normal budget.
unfoldable pub normal_share : Row → (ℕ → ℕ) → ℕ → ℕ
normal_share r N t = back N t r.short * r.budget

-- the greatest of f at the `count` numbers from `from` on; 0 where there are none
unfoldable pub greatest : (ℕ → ℕ) → ℕ → ℕ → ℕ
greatest f from zero = 0
greatest f from (suc count) = max (greatest f from count) (f (from + count))

-- the ticks between the short deadline and the deadline
abbrev pub slack : Row → ℕ
slack r = r.deadline - r.short

-- In an overrun, with n ticks left to a carried-over job: all jobs due ask for the certain budget, less what that job has done already. From the slack on that is at most the normal budget, and so at most what one job asks for: no difference stops at 0 but the inner one.
unfoldable pub carrying : Row → (ℕ → ℕ) → ℕ → ℕ → ℕ
carrying r N t n = N (t - n) * r.certain - (r.budget + slack r - n)

-- Background jobs are dropped when an overrun begins.
abbrev pub if_critical : Class → ℕ → ℕ
if_critical Critical x = x
if_critical Background x = 0

-- The worst n, from the slack to the smaller of t and the deadline; for t below the slack there is none.
unfoldable pub overrun_share : Row → (ℕ → ℕ) → ℕ → ℕ
overrun_share r N t = if_critical r.class (greatest (carrying r N t) (slack r) (min t r.deadline + 1 - slack r))

-- what a stream asks for in a phase
abbrev pub share_of : Phase → Row → (ℕ → ℕ) → ℕ → ℕ
share_of Normal = normal_share
share_of Overrun = overrun_share
