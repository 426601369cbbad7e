-- What each call makes of a worker and its bank, and what it answers. A refused call changes nothing.

use Rattle.std.specs.Prelude.{◌≡◌, ℕ, ◌+◌, ◌<◌, ◌≤◌, Bool, true, false, cond, ◌&&◌, ◌||◌, List, map, replicate, is_some, Some, None, Ok, Err, count_by, Option, Result, ◌==◌, nat_le, nat_lt}
use Rattle.stream.specs.declared.Phase.{Phase}
use Rattle.stream.specs.declared.Phase.TheVariants.{Normal, Overrun}
use Rattle.stream.specs.declared.Refusal.{Refusal}
use Rattle.stream.specs.Refusals.{number, RefusedBy}
use Rattle.stream.specs.declared.Verdict.{Verdict}
use Rattle.stream.specs.declared.limits.Record.{Record}
use Rattle.bank.specs.Kinds.{Kind}
use Rattle.demand.specs.Verdicts.{Decided}
use Rattle.least.specs.Orders.{pair_below}
use Rattle.turns.specs.Jobs.{deadline_of, job_of, put, released, worked, waiting, background, is_background, shed, ending}
use Rattle.turns.specs.declared.End.{End}
use Rattle.turns.specs.declared.End.TheVariants.{Going, Finished, Cut, Switch}
use Rattle.turns.specs.declared.Job.{Job}
use Rattle.turns.specs.declared.Settled.{Settled}
use Rattle.turns.specs.declared.Settled.TheVariants.{Idle as NoJob, Ran}
use Rattle.turns.specs.declared.State.{State}
use Rattle.turns.specs.declared.Turn.{Turn}
use Rattle.turns.specs.declared.Turn.TheVariants.{Idle, Of}

-- the last moment at which a worker starts, and from which no turn is handed out any more
abbrev pub last_moment : ℕ
last_moment = 1000000000000

-- Start

abbrev pub fresh : ℕ → Result Verdict Refusal → State
fresh moment verdict = record {
  moment = moment;
  mode = Normal;
  verdict = verdict;
  turn = None;
  jobs = replicate 32 None;
  tally = record { accepted = 0; finished = 0; cut = 0; dropped = 0 };
}

-- From a bank and a moment to the bank and the worker: too late a moment leaves the bank as it was; otherwise the bank begins and is judged, and if it is refused the worker is shut.
pub record Started {S : Type 0} (k : Kind S) (bank : S) (moment : ℕ) (b : S) (s : State) : Type 0 where
  pub late : last_moment < moment → (b ≡ bank) × RefusedBy 12 s.verdict × (s ≡ fresh moment s.verdict)
  pub begun : moment ≤ last_moment → k.begins bank moment b × Decided k b s.verdict × (s ≡ fresh moment s.verdict)

abbrev pub is_shut : Result Verdict Refusal → Bool
is_shut (Ok v) = false
is_shut (Err e) = true

-- Release

abbrev pub in_overrun : Phase → Bool
in_overrun Normal = false
in_overrun Overrun = true

-- The number by which a stream with this record and this opening is not released, if it is not. There are places for 32 streams; an admitted bank has no more.
abbrev pub barred : State → ℕ → Option Record → ℕ → Option ℕ
barred s i None opening = Some 14
barred s i (Some r) opening =
    cond (nat_lt 32 i) (Some 14)
    (cond (is_some s.turn) (Some 15)
    (cond (background r.row.class && in_overrun s.mode) (Some 16)
    (cond (is_some (job_of s.jobs i) || opening == 0) (Some 17) None)))

abbrev pub release_refusal : State → ℕ → Option Record → ℕ → Option ℕ
release_refusal s i found opening = cond (is_shut s.verdict) (Some 23) (barred s i found opening)

abbrev pub with_job : State → ℕ → Job → State
with_job s i j = record {
  moment = s.moment;
  mode = s.mode;
  verdict = s.verdict;
  turn = s.turn;
  jobs = put s.jobs i (Some j);
  tally = record { accepted = s.tally.accepted + 1; finished = s.tally.finished; cut = s.tally.cut; dropped = s.tally.dropped };
}

abbrev pub Released : {S : Type 0} → Kind S → S → State → ℕ → Result (Unit {0}) Refusal → S → State → Type 0
Released k b s i (Err e) c t = (release_refusal s i (k.records b i) (k.opening b i 0) ≡ Some (number e)) × (c ≡ b) × (t ≡ s)
Released k b s i (Ok _) c t =
    (r : Record) × (k.records b i ≡ Some r) × (release_refusal s i (Some r) (k.opening b i 0) ≡ None) × k.accepts b i c × (t ≡ with_job s i (released r.row s.moment))

-- Pick

abbrev pub pick_refusal : State → Option ℕ
pick_refusal s =
    cond (is_shut s.verdict) (Some 23)
    (cond (is_some s.turn) (Some 15)
    (cond (nat_le last_moment s.moment) (Some 24) None))

-- jobs are compared by their deadline, then by their stream's number
abbrev pub key : Phase → ℕ → Job → ℕ × ℕ
key mode i j = (deadline_of mode j, i)

-- who is next: the job with the least key, or nobody if no job waits
abbrev pub Next : State → Turn → Type 0
Next s Idle = (i : ℕ) → job_of s.jobs i ≡ None
Next s (Of i) =
    (1 ≤ i) × (j : Job) × (job_of s.jobs i ≡ Some j)
    × ((other : ℕ) (o : Job) → 1 ≤ other → job_of s.jobs other ≡ Some o → pair_below (key s.mode other o) (key s.mode i j) ≡ false)

abbrev pub with_turn : State → Turn → State
with_turn s turn = record { moment = s.moment; mode = s.mode; verdict = s.verdict; turn = Some turn; jobs = s.jobs; tally = s.tally }

-- A slip is void by a refusal, or it stands for the turn that is out.
abbrev pub Picked : State → Option Refusal → State → Type 0
Picked s (Some e) t = (pick_refusal s ≡ Some (number e)) × (t ≡ s)
Picked s None t = (pick_refusal s ≡ None) × (turn : Turn) × Next s turn × (t ≡ with_turn s turn)

-- Settle

abbrev pub settle_refusal : State → Option Refusal → Option ℕ
settle_refusal s slip = cond (is_some slip || (cond (is_some s.turn) false true)) (Some 18) None

-- a moment later, with no turn out
abbrev pub ticked : State → State
ticked s = record { moment = s.moment + 1; mode = s.mode; verdict = s.verdict; turn = None; jobs = s.jobs; tally = s.tally }

-- an overrun begins: every background job is dropped
abbrev pub overrun_begun : State → State
overrun_begun s = record {
  moment = s.moment;
  mode = Overrun;
  verdict = s.verdict;
  turn = s.turn;
  jobs = map shed s.jobs;
  tally = record { accepted = s.tally.accepted; finished = s.tally.finished; cut = s.tally.cut; dropped = s.tally.dropped + count_by is_background s.jobs };
}

-- stream i's job stays, as it is after its turn, or it has ended
abbrev pub ended : State → ℕ → Job → End → State
ended s i j Going = record { moment = s.moment; mode = s.mode; verdict = s.verdict; turn = s.turn; jobs = put s.jobs i (Some j); tally = s.tally }
ended s i j Finished = record {
  moment = s.moment;
  mode = s.mode;
  verdict = s.verdict;
  turn = s.turn;
  jobs = put s.jobs i None;
  tally = record { accepted = s.tally.accepted; finished = s.tally.finished + 1; cut = s.tally.cut; dropped = s.tally.dropped };
}
ended s i j Cut = record {
  moment = s.moment;
  mode = s.mode;
  verdict = s.verdict;
  turn = s.turn;
  jobs = put s.jobs i None;
  tally = record { accepted = s.tally.accepted; finished = s.tally.finished; cut = s.tally.cut + 1; dropped = s.tally.dropped };
}
ended s i j Switch = overrun_begun (record { moment = s.moment; mode = s.mode; verdict = s.verdict; turn = s.turn; jobs = put s.jobs i (Some j); tally = s.tally })

-- the job whose turn is out
abbrev pub numbered : ℕ → Option Job → Option (ℕ × Job)
numbered i None = None
numbered i (Some j) = Some (i, j)

abbrev pub runner : Option Turn → List (Option Job) → Option (ℕ × Job)
runner None jobs = None
runner (Some Idle) jobs = None
runner (Some (Of i)) jobs = numbered i (job_of jobs i)

abbrev pub end_of : Phase → Job → Bool → End
end_of mode j done = ending mode j.row (j.units + 1) done

abbrev pub after_turn : State → Option (ℕ × Job) → Bool → State
after_turn s None done = ticked s
after_turn s (Some (i, j)) done = ended (ticked s) i (worked j) (end_of s.mode j done)

abbrev pub told_of : State → Option (ℕ × Job) → Bool → Settled
told_of s None done = NoJob
told_of s (Some (i, j)) done = Ran i (end_of s.mode j done)

abbrev pub TurnSettled : {S : Type 0} → Kind S → S → State → Option Refusal → Bool → Result Settled Refusal → S → State → Type 0
TurnSettled k b s slip done (Err e) c t = (settle_refusal s slip ≡ Some (number e)) × (c ≡ b) × (t ≡ s)
TurnSettled k b s slip done (Ok answer) c t =
    (settle_refusal s slip ≡ None) × k.ticks b c × (answer ≡ told_of s (runner s.turn s.jobs) done) × (t ≡ after_turn s (runner s.turn s.jobs) done)

-- Calm

abbrev pub calm_refusal : State → Option ℕ
calm_refusal s =
    cond (is_shut s.verdict) (Some 23)
    (cond (is_some s.turn) (Some 15)
    (cond (in_overrun s.mode) (cond (waiting s.jobs == 0) None (Some 19)) (Some 20)))

abbrev pub calmed : State → State
calmed s = record { moment = s.moment; mode = Normal; verdict = s.verdict; turn = s.turn; jobs = s.jobs; tally = s.tally }

abbrev pub Calmed : State → Result (Unit {0}) Refusal → State → Type 0
Calmed s (Err e) t = (calm_refusal s ≡ Some (number e)) × (t ≡ s)
Calmed s (Ok _) t = (calm_refusal s ≡ None) × (t ≡ calmed s)
