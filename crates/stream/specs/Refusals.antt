-- The number of each refusal and the letter of each layer, as users see them.

use Rattle.std.specs.Prelude.{◌≡◌, ℕ, Err, Result}
use Rattle.stream.specs.declared.Layer.{Layer}
use Rattle.stream.specs.declared.Layer.TheVariants.{Text, Plan, Demand, Engine}
use Rattle.stream.specs.declared.Refusal.{Refusal}
use Rattle.stream.specs.declared.Refusal.TheVariants.{OutOfShape, TooManyStreams, SporadicAfterRaster, GapOutOfLimits, DeadlineOutOfLimits, BudgetOutOfLimits, ShortDeadlineOutOfLimits, PhaseOutOfLimits, NoStream, HorizonTooFar, DemandExceeded, MomentTooLate, FactorOutOfLimits, NoSuchStream, TurnOut, BackgroundInOverrun, NotOpen, NoTurnToSettle, JobWaits, AlreadyNormal, Shut, LastMoment}

abbrev pub number : Refusal → ℕ
number OutOfShape = 1
number TooManyStreams = 2
number SporadicAfterRaster = 3
number GapOutOfLimits = 4
number DeadlineOutOfLimits = 5
number BudgetOutOfLimits = 6
number ShortDeadlineOutOfLimits = 7
number PhaseOutOfLimits = 8
number NoStream = 9
number HorizonTooFar = 10
number (DemandExceeded v) = 11
number MomentTooLate = 12
number FactorOutOfLimits = 13
number NoSuchStream = 14
number TurnOut = 15
number BackgroundInOverrun = 16
number NotOpen = 17
number NoTurnToSettle = 18
number JobWaits = 19
number AlreadyNormal = 20
number Shut = 23
number LastMoment = 24

-- an answer that is refused by a number
abbrev pub RefusedBy : {X : Type 0} → ℕ → Result X Refusal → Type 0
RefusedBy n answer = (e : Refusal) × (answer ≡ Err e) × (number e ≡ n)

-- T, P, D and E
abbrev pub letter : Layer → ℕ
letter Text = 84
letter Plan = 80
letter Demand = 68
letter Engine = 69
