-- Points, verdicts and faults as users see them.

use Rattle.std.specs.Prelude.{ℕ, List, [], ◌∷◌, ◌++◌, codes, decimal}
use Rattle.std.specs.Fmt.{signed_decimal}
use Rattle.stream.specs.Refusals.{number, letter}
use Rattle.stream.specs.declared.Fault.{Fault}
use Rattle.stream.specs.declared.Phase.{Phase}
use Rattle.stream.specs.declared.Phase.TheVariants.{Normal, Overrun}
use Rattle.stream.specs.declared.Point.{Point}
use Rattle.stream.specs.declared.Refusal.{Refusal}
use Rattle.stream.specs.declared.Refusal.TheVariants.{OutOfShape, TooManyStreams, SporadicAfterRaster, GapOutOfLimits, DeadlineOutOfLimits, BudgetOutOfLimits, ShortDeadlineOutOfLimits, PhaseOutOfLimits, NoStream, HorizonTooFar, DemandExceeded, MomentTooLate, FactorOutOfLimits, NoSuchStream, TurnOut, BackgroundInOverrun, NotOpen, NoTurnToSettle, JobWaits, AlreadyNormal, Shut, LastMoment}
use Rattle.stream.specs.declared.Verdict.{Verdict}

abbrev pub phase_word : Phase → List ℕ
phase_word Normal = codes "normal"
phase_word Overrun = codes "overrun"

-- (normal 6 -1)
abbrev pub point_line : Point → List ℕ
point_line p =
    codes "(" ++ (phase_word p.phase ++ (codes " " ++ (decimal p.length ++ (codes " " ++ (signed_decimal p.margin ++ codes ")")))))

-- 6 7 (normal 2 0)
abbrev pub verdict_line : Verdict → List ℕ
verdict_line v = decimal v.horizon ++ (codes " " ++ (decimal v.lengths ++ (codes " " ++ point_line v.point)))

-- Only a demand that is exceeded has a point to show.
abbrev pub decisive : Refusal → List ℕ
decisive OutOfShape = []
decisive TooManyStreams = []
decisive SporadicAfterRaster = []
decisive GapOutOfLimits = []
decisive DeadlineOutOfLimits = []
decisive BudgetOutOfLimits = []
decisive ShortDeadlineOutOfLimits = []
decisive PhaseOutOfLimits = []
decisive NoStream = []
decisive HorizonTooFar = []
decisive (DemandExceeded verdict) = codes " " ++ point_line verdict.point
decisive MomentTooLate = []
decisive FactorOutOfLimits = []
decisive NoSuchStream = []
decisive TurnOut = []
decisive BackgroundInOverrun = []
decisive NotOpen = []
decisive NoTurnToSettle = []
decisive JobWaits = []
decisive AlreadyNormal = []
decisive Shut = []
decisive LastMoment = []

-- 7 P (2 0), and 11 D (3 0) (normal 6 -1)
abbrev pub fault_line : Fault → List ℕ
fault_line f =
    decimal (number f.refusal) ++ (codes " " ++ ((letter f.layer ∷ []) ++ (codes " (" ++ (decimal f.line ++ (codes " " ++ (decimal f.byte ++ (codes ")" ++ decisive f.refusal)))))))
