-- The jobs of a worker: what a mode allows them, and how a turn ends for one.

use Rattle.std.specs.Prelude.{ℕ, ◌+◌, ◌-◌, Bool, true, false, cond, List, is_some, Some, None, count_by, Option, ◌==◌, nat_lt, slice_index_or, slice_set}
use Rattle.stream.specs.declared.Class.{Class}
use Rattle.stream.specs.declared.Class.TheVariants.{Critical, Background}
use Rattle.stream.specs.declared.Phase.{Phase}
use Rattle.stream.specs.declared.Phase.TheVariants.{Normal, Overrun}
use Rattle.stream.specs.declared.Row.{Row}
use Rattle.turns.specs.declared.End.{End}
use Rattle.turns.specs.declared.End.TheVariants.{Going, Finished, Cut, Switch}
use Rattle.turns.specs.declared.Job.{Job}

-- the ticks from its release to its deadline
abbrev pub term : Phase → Row → ℕ
term Normal r = r.short
term Overrun r = r.deadline

abbrev pub deadline_of : Phase → Job → ℕ
deadline_of mode j = j.since + term mode j.row

-- the job of a stream, if one waits; stream 1 is the first of the list, and is meant by 0 too, which no stream has
abbrev pub job_of : List (Option Job) → ℕ → Option Job
job_of jobs i = slice_index_or jobs (i - 1) None

abbrev pub put : List (Option Job) → ℕ → Option Job → List (Option Job)
put jobs i job = slice_set jobs (i - 1) job

-- a job that has just been released, and one that has had a turn more
abbrev pub released : Row → ℕ → Job
released row moment = record { row = row; since = moment; units = 0 }

abbrev pub worked : Job → Job
worked j = record { row = j.row; since = j.since; units = j.units + 1 }

abbrev pub waiting : List (Option Job) → ℕ
waiting jobs = count_by is_some jobs

abbrev pub background : Class → Bool
background Critical = false
background Background = true

abbrev pub is_background : Option Job → Bool
is_background None = false
is_background (Some j) = background j.row.class

-- what is left where background jobs are dropped
abbrev pub shed : Option Job → Option Job
shed None = None
shed (Some j) = cond (background j.row.class) None (Some j)

-- A job has used up its normal budget: a critical one that is certain of more begins an overrun.
abbrev pub at_budget : Class → Row → End
at_budget Critical r = cond (nat_lt r.budget r.certain) Switch Cut
at_budget Background r = Cut

abbrev pub unfinished : Phase → Row → ℕ → End
unfinished Normal r units = cond (units == r.budget) (at_budget r.class r) Going
unfinished Overrun r units = cond (units == r.certain) Cut Going

-- how a turn ends for a job that has now had so many units, by the mode and by whether the worker reports it done
abbrev pub ending : Phase → Row → ℕ → Bool → End
ending mode r units true = Finished
ending mode r units false = unfinished mode r units
