-- What replay writes for a text.

use Rattle.std.specs.Prelude.{◌≡◌, ℕ, ◌<◌, ◌≤◌, List, [], ◌∷◌, length}
use Rattle.stream.specs.declared.Fault.{Fault}
use Rattle.stream.specs.declared.Verdict.{Verdict}
use Rattle.text.specs.declared.answer.Answer.{Answer}
use Rattle.text.specs.declared.answer.Answer.TheVariants.{Accepted, Refused}
use Rattle.turns.specs.declared.State.{State}
use Rattle.plan.specs.Openings.{Opened, Unopened}
use Rattle.plan.specs.Plans.{PlanBank, no_rows, plan_kind}
use Rattle.plan.specs.Written.{Appended, lines_of}
use Rattle.script.specs.Accounts.{Accounted}
use Rattle.script.specs.Playing.{Played}

-- A plan that is refused is answered by its fault. One that is accepted is followed by the answers to the script, and its account is lawful.
pub data Answered (text : List ℕ) : List Answer → Type 0 where
  refused : {fault : Fault} {rest : List ℕ} {end : ℕ} → Unopened text 1 no_rows fault rest end → Answered text (Refused fault ∷ [])
  accepted : {verdict : Verdict} {b : PlanBank} {s : State} {rest : List ℕ} {end : ℕ} {answers : List Answer} → Opened text 1 no_rows verdict b s rest end → Played plan_kind rest end b s answers → Accounted plan_kind b s rest answers → Answered text (Accepted verdict ∷ answers)

abbrev pub Replayed : List ℕ → List ℕ → Type 0
Replayed text written = (answers : List Answer) × Answered text answers × (written ≡ lines_of answers)

-- the answers stand at the front of a buffer, if they have room
abbrev pub WroteAll : List ℕ → List ℕ → List ℕ → ℕ → Type 0
WroteAll text before after m = (answers : List Answer) × Answered text answers × Appended before 0 (lines_of answers) after m

-- nothing for a text above 65,536 bytes
abbrev pub ReplayedUpto : List ℕ → List ℕ → Type 0
ReplayedUpto text written = (length text ≤ 65536 → Replayed text written) × (65536 < length text → written ≡ [])
