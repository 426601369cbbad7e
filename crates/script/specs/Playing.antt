-- How a script is run after its go line: call by call, each answered in a line of its own, up to the end of the text or the first fault in it.

use Rattle.std.specs.Prelude.{◌≡◌, ℕ, ◌+◌, List, [], ◌∷◌, ◌++◌, ◌≢◌}
use Rattle.stream.specs.declared.Fault.{Fault}
use Rattle.bank.specs.Kinds.{Kind}
use Rattle.engine.specs.Reports.{counts_of}
use Rattle.turns.specs.declared.State.{State}
use Rattle.text.specs.Calls.{call_bytes, ValidCall, CallForm}
use Rattle.text.specs.declared.answer.Answer.{Answer}
use Rattle.text.specs.declared.answer.Answer.TheVariants.{Refused, Total}
use Rattle.text.specs.declared.call.Call.{Call}
use Rattle.script.specs.Performing.{Performed}
use Rattle.text.specs.Reader.{Misshapen}
use Rattle.plan.specs.Written.{Appended, lines_of}

-- From what is left of the text, the number of its first line, the bank and the worker, to the answers: the counts at the end of the text, or a fault and nothing more.
pub data Played {S : Type 0} (k : Kind S) : List ℕ → ℕ → S → State → List Answer → Type 0 where
  finished : {line : ℕ} {b : S} {s : State} → Played k [] line b s (Total (counts_of s) ∷ [])
  broken : {text : List ℕ} {line : ℕ} {b : S} {s : State} {fault : Fault} → (text ≢ []) → Misshapen CallForm text line fault → Played k text line b s (Refused fault ∷ [])
  called : {text rest : List ℕ} {line : ℕ} {b c : S} {s t : State} {answer : Answer} {answers : List Answer} (call : Call) → ValidCall call → text ≡ call_bytes call ++ rest → Performed k b s call line answer c t → Played k rest (line + 1) c t answers → Played k text line b s (answer ∷ answers)

-- behind the n bytes of a buffer that are written there come the lines of the answers
abbrev pub Wrote : {S : Type 0} → Kind S → List ℕ → ℕ → S → State → List ℕ → ℕ → List ℕ → ℕ → Type 0
Wrote k text line b s before n after m = (answers : List Answer) × Played k text line b s answers × Appended before n (lines_of answers) after m
