-- What the test of a bank answers. It looks at the lengths from 0 to the horizon; the answer holds of all lengths.

use Rattle.std.specs.Prelude.{◌≡◌, ℕ, ◌+◌, ◌<◌, ◌≤◌, true, false, ◌↔◌, List, [], ◌∷◌, pos, ◌-ℤ◌, is_ok, Some, None, Ok, Err, Option, Result}
use Rattle.stream.specs.declared.Phase.{Phase}
use Rattle.stream.specs.declared.Phase.TheVariants.{Normal, Overrun}
use Rattle.stream.specs.declared.Point.{Point}
use Rattle.stream.specs.Refusals.{RefusedBy}
use Rattle.stream.specs.declared.Refusal.{Refusal}
use Rattle.stream.specs.declared.Refusal.TheVariants.{OutOfShape, TooManyStreams, SporadicAfterRaster, GapOutOfLimits, DeadlineOutOfLimits, BudgetOutOfLimits, ShortDeadlineOutOfLimits, PhaseOutOfLimits, NoStream, HorizonTooFar, DemandExceeded, MomentTooLate, FactorOutOfLimits, NoSuchStream, TurnOut, BackgroundInOverrun, NotOpen, NoTurnToSettle, JobWaits, AlreadyNormal, Shut, LastMoment}
use Rattle.stream.specs.declared.Verdict.{Verdict}
use Rattle.bank.specs.Kinds.{Kind}
use Rattle.least.specs.Orders.{point_below}
use Rattle.demand.specs.Demands.{demand, Fits, Feasible}
use Rattle.demand.specs.Horizons.{Common, Horizon}

-- the margin of a phase at a length
abbrev pub point_at : {S : Type 0} → Kind S → S → Phase → ℕ → Point
point_at k b p t = record { phase = p; length = t; margin = pos t -ℤ pos (demand k b p t) }

-- the least of all points of lengths 1 to h, by margin, then length, then normal before overrun
pub record Nearest {S : Type 0} (k : Kind S) (b : S) (h : ℕ) (point : Point) : Type 0 where
  pub from : 1 ≤ point.length
  pub upto : point.length ≤ h
  pub is : point ≡ point_at k b point.phase point.length
  pub least : (p : Phase) (t : ℕ) → 1 ≤ t → t ≤ h → point_below (point_at k b p t) point ≡ false

-- a horizon within a million, of 1 to 32 streams
pub record InReach {S : Type 0} (k : Kind S) (b : S) (h : ℕ) : Type 0 where
  pub some : 1 ≤ k.streams b
  pub few : k.streams b ≤ 32
  pub horizon : Horizon k b h
  pub near : h ≤ 1000000

-- accepted: every length up to the horizon was looked at, and neither demand exceeds any
pub record Accepts {S : Type 0} (k : Kind S) (b : S) (v : Verdict) : Type 0 where
  pub reach : InReach k b v.horizon
  pub fits : (t : ℕ) → t ≤ v.horizon → Fits k b t
  pub lengths : v.lengths ≡ v.horizon + 1
  pub nearest : Nearest k b v.horizon v.point

-- accepted at every length: neither demand exceeds any above the horizon either, and none is nearer to failing than the nearest up to it
pub record AcceptsAll {S : Type 0} (k : Kind S) (b : S) (v : Verdict) : Type 0 where
  pub looked : Accepts k b v
  pub feasible : Feasible k b
  pub none_nearer : (p : Phase) (t : ℕ) → 1 ≤ t → point_below (point_at k b p t) v.point ≡ false

-- the first length that a demand exceeds; normal is looked at first
abbrev pub ExceedsFirst : {S : Type 0} → Kind S → S → Phase → ℕ → Type 0
ExceedsFirst k b Normal t = t < demand k b Normal t
ExceedsFirst k b Overrun t = (demand k b Normal t ≤ t) × (t < demand k b Overrun t)

pub record Exceeds {S : Type 0} (k : Kind S) (b : S) (v : Verdict) : Type 0 where
  pub reach : InReach k b v.horizon
  pub upto : v.point.length ≤ v.horizon
  pub before : (t : ℕ) → t < v.point.length → Fits k b t
  pub here : ExceedsFirst k b v.point.phase v.point.length
  pub is : v.point ≡ point_at k b v.point.phase v.point.length
  pub lengths : v.lengths ≡ v.point.length + 1

-- every common multiple of the gaps is above a million
pub record Far {S : Type 0} (k : Kind S) (b : S) : Type 0 where
  pub some : 1 ≤ k.streams b
  pub few : k.streams b ≤ 32
  pub far : (m : ℕ) → Common k b m → 1000000 < m

-- what each refusal says; the test gives no other
abbrev pub Refuses : {S : Type 0} → Kind S → S → Refusal → Type 0
Refuses k b NoStream = k.streams b ≡ 0
Refuses k b TooManyStreams = 32 < k.streams b
Refuses k b HorizonTooFar = Far k b
Refuses k b (DemandExceeded v) = Exceeds k b v
Refuses k b OutOfShape = ⊥
Refuses k b SporadicAfterRaster = ⊥
Refuses k b GapOutOfLimits = ⊥
Refuses k b DeadlineOutOfLimits = ⊥
Refuses k b BudgetOutOfLimits = ⊥
Refuses k b ShortDeadlineOutOfLimits = ⊥
Refuses k b PhaseOutOfLimits = ⊥
Refuses k b MomentTooLate = ⊥
Refuses k b FactorOutOfLimits = ⊥
Refuses k b NoSuchStream = ⊥
Refuses k b TurnOut = ⊥
Refuses k b BackgroundInOverrun = ⊥
Refuses k b NotOpen = ⊥
Refuses k b NoTurnToSettle = ⊥
Refuses k b JobWaits = ⊥
Refuses k b AlreadyNormal = ⊥
Refuses k b Shut = ⊥
Refuses k b LastMoment = ⊥

-- what the test has seen, up to the horizon
abbrev pub Judged : {S : Type 0} → Kind S → S → Result Verdict Refusal → Type 0
Judged k b (Ok v) = Accepts k b v
Judged k b (Err e) = Refuses k b e

-- what the answer says of every length
abbrev pub Says : {S : Type 0} → Kind S → S → Result Verdict Refusal → Type 0
Says k b (Ok v) = AcceptsAll k b v
Says k b (Err e) = Refuses k b e

-- which answer a bank gets
pub record ExactlyWhen {S : Type 0} (k : Kind S) (b : S) (answer : Result Verdict Refusal) : Type 0 where
  pub none : k.streams b ≡ 0 → RefusedBy 9 answer
  pub many : 32 < k.streams b → RefusedBy 2 answer
  pub far : Far k b → RefusedBy 10 answer
  -- within reach it is accepted exactly if no demand exceeds any length at all
  pub within : (h : ℕ) → InReach k b h → (is_ok answer ≡ true) ↔ Feasible k b
  pub exceeded : (h : ℕ) → InReach k b h → (Feasible k b → ⊥) → RefusedBy 11 answer
  -- no other answer says what is true of the bank
  pub only : (other : Result Verdict Refusal) → Says k b other → other ≡ answer

-- what the answer says, and that it is the right one
pub record Decided {S : Type 0} (k : Kind S) (b : S) (answer : Result Verdict Refusal) : Type 0 where
  pub says : Says k b answer
  pub exactly : ExactlyWhen k b answer

-- the demand of a phase fits, and this is its point
pub record Passes {S : Type 0} (k : Kind S) (b : S) (p : Phase) (t : ℕ) (point : Point) : Type 0 where
  pub fits : demand k b p t ≤ t
  pub is : point ≡ point_at k b p t

-- why the test stops at a length
abbrev pub Stops : {S : Type 0} → Kind S → S → ℕ → Phase → ℕ → Refusal → Type 0
Stops k b h p t e = (t < demand k b p t) × (e ≡ DemandExceeded (record { horizon = h; lengths = t + 1; point = point_at k b p t }))

-- the points that the next one is chosen from
abbrev pub candidates : Option Point → Point → Point → List Point
candidates None normal overrun = normal ∷ overrun ∷ []
candidates (Some best) normal overrun = best ∷ normal ∷ overrun ∷ []

-- a demand is told within the lengths and the number of streams that are judged
pub record DemandTold {S : Type 0} (k : Kind S) (b : S) (p : Phase) (t : ℕ) (answer : Option ℕ) : Type 0 where
  pub told : k.streams b ≤ 32 → t ≤ 1000000 → answer ≡ Some (demand k b p t)
  pub many : 32 < k.streams b → answer ≡ None
  pub far : 1000000 < t → answer ≡ None
