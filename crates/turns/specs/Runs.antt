-- Runs of a worker: every list of calls, in any order and number, with any streams and slips, whatever is refused and whatever is reported.

use Rattle.std.specs.Prelude.{◌≡◌, ℕ, Bool, List, [], ◌∷◌, Some, None, Ok, Err, Option, Result}
use Rattle.stream.specs.declared.Refusal.{Refusal}
use Rattle.bank.specs.Kinds.{Kind}
use Rattle.turns.specs.Steps.{Released, Picked, TurnSettled, Calmed}
use Rattle.turns.specs.declared.Settled.{Settled}
use Rattle.turns.specs.declared.Settled.TheVariants.{Idle as NoJob, Ran}
use Rattle.turns.specs.declared.State.{State}
use Rattle.turns.specs.declared.Turn.{Turn}
use Rattle.turns.specs.declared.Turn.TheVariants.{Idle, Of}

-- A slip is known by the refusal that makes it void, if one does.
pub data Call : Type 0 where
  release : ℕ → Call
  pick : Call
  settle : (slip : Option Refusal) → (done : Bool) → Call
  calm : Call

-- what an onlooker hears of an answer: that the call was refused, that it was not, or whose turn was settled
pub data Heard : Type 0 where
  refused : Heard
  granted : Heard
  named : Turn → Heard

abbrev pub heard : Result (Unit {0}) Refusal → Heard
heard (Ok _) = granted
heard (Err e) = refused

abbrev pub heard_slip : Option Refusal → Heard
heard_slip None = granted
heard_slip (Some e) = refused

abbrev pub heard_turn : Result Settled Refusal → Heard
heard_turn (Ok NoJob) = named Idle
heard_turn (Ok (Ran i end)) = named (Of i)
heard_turn (Err e) = refused

-- one call, from bank and worker before to bank and worker after
abbrev pub Step : {S : Type 0} → Kind S → S → State → Call → Heard → S → State → Type 0
Step k b s (release i) h c t = (answer : Result (Unit {0}) Refusal) × Released k b s i answer c t × (h ≡ heard answer)
Step k b s pick h c t = (slip : Option Refusal) × Picked s slip t × (c ≡ b) × (h ≡ heard_slip slip)
Step k b s (settle slip done) h c t = (answer : Result Settled Refusal) × TurnSettled k b s slip done answer c t × (h ≡ heard_turn answer)
Step k b s calm h c t = (answer : Result (Unit {0}) Refusal) × Calmed s answer t × (c ≡ b) × (h ≡ heard answer)

pub data Run {S : Type 0} (k : Kind S) : S → State → List (Call × Heard) → S → State → Type 0 where
  still : {b : S} {s : State} → Run k b s [] b s
  step : {b c d : S} {s t u : State} {call : Call} {h : Heard} {calls : List (Call × Heard)} → Step k b s call h c t → Run k c t calls d u → Run k b s ((call, h) ∷ calls) d u
