-- The account of a script: its lines and their answers, heard as the calls of a run, and the ledger of that run.

use Rattle.std.specs.Prelude.{◌≡◌, ℕ, ◌+◌, List, length, [], ◌∷◌, ◌++◌, Some, None, Option}
use Rattle.stream.specs.declared.Refusal.{Refusal}
use Rattle.bank.specs.Kinds.{Kind}
use Rattle.turns.specs.Law.{Kept}
use Rattle.turns.specs.Ledgers.{Ledger, empty, sort, is_waiting, is_finished, is_cut, is_dropped, kept}
use Rattle.turns.specs.Runs.{Call as Act, release, pick, settle, calm, Heard, refused, granted, named, heard_slip, Run}
use Rattle.turns.specs.declared.Counts.{Counts}
use Rattle.turns.specs.declared.Settled.TheVariants.{Idle as NoJob, Ran as HadBy}
use Rattle.turns.specs.declared.State.{State}
use Rattle.turns.specs.declared.Turn.TheVariants.{Idle, Of}
use Rattle.text.specs.Calls.{call_bytes}
use Rattle.text.specs.declared.answer.Answer.{Answer}
use Rattle.text.specs.declared.answer.Answer.TheVariants.{Accepted, Refused, Took, Ran, Calm as CalmAt, Total}
use Rattle.text.specs.declared.call.Call.{Call}
use Rattle.text.specs.declared.call.Call.TheVariants.{Release, Turn, Calm}

abbrev pub heard_answer : Answer → Heard
heard_answer (Accepted verdict) = granted
heard_answer (Refused fault) = refused
heard_answer (Took i) = granted
heard_answer (Ran NoJob) = named Idle
heard_answer (Ran (HadBy i how)) = named (Of i)
heard_answer (CalmAt moment) = granted
heard_answer (Total counts) = granted

-- why the slip of a turn was void, if it was
abbrev pub void_by : Answer → Option Refusal
void_by (Accepted verdict) = None
void_by (Refused fault) = Some fault.refusal
void_by (Took i) = None
void_by (Ran settled) = None
void_by (CalmAt moment) = None
void_by (Total counts) = None

-- the calls that a line stands for, and what its answer lets one hear of them
abbrev pub heard_line : Call → Answer → List (Act × Heard)
heard_line (Release i) answer = (release i, heard_answer answer) ∷ []
heard_line (Turn done) answer = (pick, heard_slip (void_by answer)) ∷ (settle (void_by answer) done, heard_answer answer) ∷ []
heard_line Calm answer = (calm, heard_answer answer) ∷ []

-- From the text of a script and its answers alone: all that is heard, and the last answer, which is to no call.
pub data Logged : List ℕ → List Answer → List (Act × Heard) → Answer → Type 0 where
  last : {text : List ℕ} {answer : Answer} → Logged text (answer ∷ []) [] answer
  line : {text rest : List ℕ} {answer final : Answer} {answers : List Answer} {log : List (Act × Heard)} (call : Call) → text ≡ call_bytes call ++ rest → Logged rest answers log final → Logged text (answer ∷ answers) (heard_line call answer ++ log) final

-- Counts that are a ledger's: each accepted job is in one of them.
pub record Booked (l : Ledger) (n : Counts) : Type 0 where
  pub accepted : n.accepted ≡ length l.entries
  pub finished : n.finished ≡ sort is_finished l.entries
  pub cut : n.cut ≡ sort is_cut l.entries
  pub dropped : n.dropped ≡ sort is_dropped l.entries
  pub waiting : n.waiting ≡ sort is_waiting l.entries
  pub none_lost : n.accepted ≡ n.finished + n.cut + n.dropped + n.waiting

-- What is heard of a script is a run of the worker. By the ledger of it no job is late and none is lost, and the counts at the end are the ledger's.
pub record Accounted {S : Type 0} (k : Kind S) (b : S) (s : State) (text : List ℕ) (answers : List Answer) : Type 0 where
  pub log : List (Act × Heard)
  pub final : Answer
  pub bank : S
  pub worker : State
  pub logged : Logged text answers log final
  pub run : Run k b s log bank worker
  pub booked : (counts : Counts) → final ≡ Total counts → Booked (kept (k.records b) empty log) counts
  pub lawful : Kept k (k.records b) bank worker (kept (k.records b) empty log)
