-- The law of every run: no job is late, and none is lost.

use Rattle.std.specs.Prelude.{◌≡◌, ℕ, ◌+◌, ◌≤◌, ◌⊎◌, false, List, length, Some, Option}
use Rattle.std.specs.List.{AllByRecursion}
use Rattle.stream.specs.declared.Class.TheVariants.{Critical, Background}
use Rattle.stream.specs.declared.Phase.TheVariants.{Normal, Overrun}
use Rattle.stream.specs.declared.limits.Record.{Record}
use Rattle.bank.specs.Kinds.{Kind}
use Rattle.turns.specs.Jobs.{waiting}
use Rattle.turns.specs.Ledgers.{finished, dropped, Entry, Ledger, empty, sort, is_waiting, is_finished, is_cut, is_dropped, kept}
use Rattle.turns.specs.Runs.{Call, release, pick, settle, calm, Heard, Step, Run}
use Rattle.turns.specs.Steps.{Next, is_shut}
use Rattle.turns.specs.declared.State.{State}
use Rattle.turns.specs.declared.Turn.{Turn}

-- A job is of a stream that exists. Once it was accepted a deadline ago or longer, a critical one has finished or has had all its certain units, and a background one has finished or has had its budget, unless it was dropped. Only background jobs are dropped.
pub record InTime (records : ℕ → Option Record) (e : Entry) : Type 0 where
  pub record_of : Record
  pub found : records e.stream ≡ Some record_of
  pub critical : record_of.row.class ≡ Critical → record_of.row.deadline ≤ e.age → (e.status ≡ finished) ⊎ (e.units ≡ record_of.row.certain)
  pub background : record_of.row.class ≡ Background → record_of.row.deadline ≤ e.age → (e.status ≡ finished) ⊎ ((e.units ≡ record_of.row.budget) ⊎ (e.status ≡ dropped))
  pub drops : e.status ≡ dropped → record_of.row.class ≡ Background

-- the counts of the worker are the ledger's, and every accepted job is in one of them
pub record Counted (s : State) (l : Ledger) : Type 0 where
  pub accepted : s.tally.accepted ≡ length l.entries
  pub finishes : s.tally.finished ≡ sort is_finished l.entries
  pub cuts : s.tally.cut ≡ sort is_cut l.entries
  pub drops : s.tally.dropped ≡ sort is_dropped l.entries
  pub waiting_jobs : waiting s.jobs ≡ sort is_waiting l.entries
  pub none_lost : s.tally.accepted ≡ s.tally.finished + s.tally.cut + s.tally.dropped + waiting s.jobs

-- a settle that begins an overrun
abbrev pub BeginsOverrun : Call → State → State → Type 0
BeginsOverrun (settle slip done) s t = (s.mode ≡ Normal) × (t.mode ≡ Overrun)
BeginsOverrun (release i) s t = ⊥
BeginsOverrun pick s t = ⊥
BeginsOverrun calm s t = ⊥

pub record Kept {S : Type 0} (k : Kind S) (records : ℕ → Option Record) (b : S) (s : State) (l : Ledger) : Type 0 where
  pub mode : s.mode ≡ l.mode
  pub in_time : AllByRecursion (InTime records) l.entries
  pub counted : Counted s l
  -- a turn that is out is that of the job that goes next, which still waits
  pub turn_out : (turn : Turn) → s.turn ≡ Some turn → Next s turn
  -- an open worker has a place for the job of each stream
  pub places : is_shut s.verdict ≡ false → k.streams b ≤ 32
  -- whatever call comes next, jobs are dropped only by a settle that begins an overrun
  pub dropping : (c : S) (t : State) (call : Call) (h : Heard) → Step k b s call h c t → (t.tally.dropped ≡ s.tally.dropped) ⊎ BeginsOverrun call s t

-- of one worker as it was started: after every run, by the ledger of that run
abbrev pub NoneLate : {S : Type 0} → Kind S → S → State → Type 0
NoneLate {S} k b s =
    (calls : List (Call × Heard)) (c : S) (t : State) → Run k b s calls c t → Kept k (k.records b) c t (kept (k.records b) empty calls)
