-- What one line of a script does to a worker and its bank, and what is answered.

use Rattle.std.specs.Prelude.{◌≡◌, ℕ, Bool, Some, None, Ok, Err, Option, Result}
use Rattle.stream.specs.Faults.{whole_line}
use Rattle.stream.specs.declared.Layer.TheVariants.{Engine}
use Rattle.stream.specs.declared.Refusal.{Refusal}
use Rattle.bank.specs.Kinds.{Kind}
use Rattle.turns.specs.Steps.{Released, Picked, TurnSettled, Calmed}
use Rattle.turns.specs.declared.Settled.{Settled}
use Rattle.turns.specs.declared.State.{State}
use Rattle.text.specs.declared.answer.Answer.{Answer}
use Rattle.text.specs.declared.answer.Answer.TheVariants.{Refused, Took, Ran, Calm as CalmAt}
use Rattle.text.specs.declared.call.Call.{Call}
use Rattle.text.specs.declared.call.Call.TheVariants.{Release, Turn, Calm}

-- a call is refused at its line
abbrev pub refused_at : ℕ → Refusal → Answer
refused_at line e = Refused (whole_line e Engine line)

-- a call tells what it gave, unless it was refused
abbrev pub telling : {X : Type 0} → (X → Answer) → Result X Refusal → Result Answer Refusal
telling tell (Ok x) = Ok (tell x)
telling tell (Err e) = Err e

-- and its answer is that, or the refusal at its line
abbrev pub told : ℕ → Result Answer Refusal → Answer
told line (Ok answer) = answer
told line (Err e) = refused_at line e

-- what a turn gave: a void slip tells why it is void
abbrev pub turn_given : Option Refusal → Result Settled Refusal → Result Settled Refusal
turn_given (Some e) settled = Err e
turn_given None settled = settled

-- a turn is a pick, and the settle of its slip
abbrev pub TurnTaken : {S : Type 0} → Kind S → S → State → Bool → Result Settled Refusal → S → State → Type 0
TurnTaken k b s done r c t =
    (slip : Option Refusal) × (mid : State) × (settled : Result Settled Refusal) × Picked s slip mid × TurnSettled k b mid slip done settled c t × (r ≡ turn_given slip settled)

-- what a call gives
abbrev pub Given : {S : Type 0} → Kind S → S → State → Call → Result Answer Refusal → S → State → Type 0
Given k b s (Release i) r c t = (g : Result (Unit {0}) Refusal) × Released k b s i g c t × (r ≡ telling (λ (x : Unit {0}). Took i) g)
Given k b s (Turn done) r c t = (g : Result Settled Refusal) × TurnTaken k b s done g c t × (r ≡ telling Ran g)
Given k b s Calm r c t = (g : Result (Unit {0}) Refusal) × Calmed s g t × (c ≡ b) × (r ≡ telling (λ (x : Unit {0}). CalmAt t.moment) g)

abbrev pub Performed : {S : Type 0} → Kind S → S → State → Call → ℕ → Answer → S → State → Type 0
Performed k b s call line answer c t = (r : Result Answer Refusal) × Given k b s call r c t × (answer ≡ told line r)
