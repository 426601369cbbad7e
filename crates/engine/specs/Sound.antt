-- What the state of every engine keeps, so that no number of it can overflow and every turn that is out has a place.

use Rattle.std.specs.Prelude.{◌≡◌, ℕ, ◌+◌, ◌*◌, ◌<◌, ◌≤◌, false, Some}
use Rattle.turns.specs.Jobs.{job_of, waiting}
use Rattle.turns.specs.Steps.{last_moment, is_shut}
use Rattle.turns.specs.declared.Job.{Job}
use Rattle.turns.specs.declared.State.{State}
use Rattle.turns.specs.declared.Turn.{Turn}
use Rattle.turns.specs.declared.Turn.TheVariants.{Of}

-- an open engine is within the last moment, and before it while a turn is out
abbrev pub Early : State → Type 0
Early s = (is_shut s.verdict ≡ false → s.moment ≤ last_moment) × ((turn : Turn) → s.turn ≡ Some turn → s.moment < last_moment)

-- a turn is out only to a stream from 1 to 32
abbrev pub Placed : State → Type 0
Placed s = (i : ℕ) → s.turn ≡ Some (Of i) → (1 ≤ i) × (i ≤ 32)

-- a job has had at most one unit in each turn since its release
abbrev pub Worked : State → Type 0
Worked s = (i : ℕ) (j : Job) → job_of s.jobs i ≡ Some j → j.since + j.units ≤ s.moment

-- its deadlines are within the longest gap
abbrev pub Near : State → Type 0
Near s = (i : ℕ) (j : Job) → job_of s.jobs i ≡ Some j → (j.row.short ≤ 65535) × (j.row.deadline ≤ 65535)

-- each accepted job has ended or waits, and at most 32 end in a turn
abbrev pub Tallied : State → Type 0
Tallied s =
    (s.tally.accepted ≡ s.tally.finished + s.tally.cut + s.tally.dropped + waiting s.jobs)
    × (s.tally.finished + s.tally.cut + s.tally.dropped ≤ 32 * s.moment)

pub record Sound (s : State) : Type 0 where
  pub early : Early s
  pub placed : Placed s
  pub worked : Worked s
  pub near : Near s
  pub tallied : Tallied s
