-- From what the scan has seen to what the answer says of all lengths, and why no other answer would be right.

use Rattle.std.proofs.Common.{◌≡◌, ℕ, ◌<◌, true, is_ok, Ok, Err, Result, sym, refl, ap, arith, MatchResult}
use Rattle.std.proofs.lemmas.Bool.{false≢true}
use Rattle.stream.specs.Refusals.{RefusedBy}
use Rattle.stream.specs.declared.Refusal.{Refusal}
use Rattle.stream.specs.declared.Refusal.TheVariants.{OutOfShape, TooManyStreams, SporadicAfterRaster, GapOutOfLimits, DeadlineOutOfLimits, BudgetOutOfLimits, ShortDeadlineOutOfLimits, PhaseOutOfLimits, NoStream, HorizonTooFar, DemandExceeded, MomentTooLate, FactorOutOfLimits, NoSuchStream, TurnOut, BackgroundInOverrun, NotOpen, NoTurnToSettle, JobWaits, AlreadyNormal, Shut, LastMoment}
use Rattle.stream.specs.declared.Verdict.{Verdict}
use Rattle.bank.specs.Kinds.{Kind}
use Rattle.bank.specs.Laws.{Laws}
use Rattle.demand.specs.Demands.{Feasible}
use Rattle.demand.specs.Verdicts.{InReach, Accepts, Exceeds, Far, Refuses, Says, Decided}
use Rattle.demand.proofs.Beyond.{accepts_all}
use Rattle.demand.proofs.Uniqueness.{exceeded, not_far, one_accepted, one_exceeded}

-- the four refusals that there are
data Reason {S : Type 0} (k : Kind S) (b : S) : Refusal → Type 0 where
  no_stream : k.streams b ≡ 0 → Reason k b NoStream
  too_many : 32 < k.streams b → Reason k b TooManyStreams
  too_far : Far k b → Reason k b HorizonTooFar
  exceeds : (v : Verdict) → Exceeds k b v → Reason k b (DemandExceeded v)

reason : {S : Type 0} (k : Kind S) (b : S) (e : Refusal) → Refuses k b e → Reason k b e
reason k b NoStream r = no_stream r
reason k b TooManyStreams r = too_many r
reason k b HorizonTooFar r = too_far r
reason k b (DemandExceeded v) r = exceeds v r
reason k b OutOfShape r = absurd r
reason k b SporadicAfterRaster r = absurd r
reason k b GapOutOfLimits r = absurd r
reason k b DeadlineOutOfLimits r = absurd r
reason k b BudgetOutOfLimits r = absurd r
reason k b ShortDeadlineOutOfLimits r = absurd r
reason k b PhaseOutOfLimits r = absurd r
reason k b MomentTooLate r = absurd r
reason k b FactorOutOfLimits r = absurd r
reason k b NoSuchStream r = absurd r
reason k b TurnOut r = absurd r
reason k b BackgroundInOverrun r = absurd r
reason k b NotOpen r = absurd r
reason k b NoTurnToSettle r = absurd r
reason k b JobWaits r = absurd r
reason k b AlreadyNormal r = absurd r
reason k b Shut r = absurd r
reason k b LastMoment r = absurd r

module _ {S : Type 0} (k : Kind S) (b : S) where
  one_reason : (e f : Refusal) → Reason k b e → Reason k b f → e ≡ f
  one_reason e f (no_stream z) (no_stream w) = refl
  one_reason e f (too_many l) (too_many m) = refl
  one_reason e f (too_far x) (too_far y) = refl
  one_reason e f (exceeds v x) (exceeds w y) = ap DemandExceeded (one_exceeded k b v w x y)
  one_reason e f (no_stream z) (too_many m) = let n : ⊥ = omega arith in absurd n
  one_reason e f (no_stream z) (too_far y) = let n : ⊥ = omega arith in absurd n
  one_reason e f (no_stream z) (exceeds w y) = let n : ⊥ = omega arith in absurd n
  one_reason e f (too_many l) (no_stream w) = let n : ⊥ = omega arith in absurd n
  one_reason e f (too_many l) (too_far y) = let n : ⊥ = omega arith in absurd n
  one_reason e f (too_many l) (exceeds w y) = let n : ⊥ = omega arith in absurd n
  one_reason e f (too_far x) (no_stream w) = let n : ⊥ = omega arith in absurd n
  one_reason e f (too_far x) (too_many m) = let n : ⊥ = omega arith in absurd n
  one_reason e f (too_far x) (exceeds w y) = absurd (not_far k b w.horizon y.reach x)
  one_reason e f (exceeds v x) (no_stream w) = let n : ⊥ = omega arith in absurd n
  one_reason e f (exceeds v x) (too_many m) = let n : ⊥ = omega arith in absurd n
  one_reason e f (exceeds v x) (too_far y) = absurd (not_far k b v.horizon x.reach y)

  -- a feasible bank within reach is not refused
  not_refused : (h : ℕ) → InReach k b h → Feasible k b → (e : Refusal) → Reason k b e → ⊥
  not_refused h reach fits e (no_stream z) = omega arith
  not_refused h reach fits e (too_many l) = omega arith
  not_refused h reach fits e (too_far f) = not_far k b h reach f
  not_refused h reach fits e (exceeds v x) = exceeded k b v.point.phase v.point.length x.here (fits v.point.length)

  only_answer : (answer other : Result Verdict Refusal) → Says k b answer → Says k b other → other ≡ answer
  only_answer (Ok v) (Ok w) a c = ap Ok (one_accepted k b w v c a)
  only_answer (Ok v) (Err e) a r = absurd (not_refused v.horizon a.looked.reach a.feasible e (reason k b e r))
  only_answer (Err e) (Ok v) r a = absurd (not_refused v.horizon a.looked.reach a.feasible e (reason k b e r))
  only_answer (Err e) (Err f) r s = ap Err (one_reason f e (reason k b f s) (reason k b e r))

  ok_feasible : (answer : Result Verdict Refusal) → Says k b answer → is_ok answer ≡ true → Feasible k b
  ok_feasible (Ok v) a ok = a.feasible
  ok_feasible (Err e) r ok = absurd (false≢true ok)

  feasible_ok : (h : ℕ) → InReach k b h → Feasible k b → (answer : Result Verdict Refusal) → Says k b answer → is_ok answer ≡ true
  feasible_ok h reach fits (Ok v) a = refl
  feasible_ok h reach fits (Err e) r = absurd (not_refused h reach fits e (reason k b e r))

  -- one within reach that is not feasible is refused by 11
  by_demand : (h : ℕ) → InReach k b h → (e : Refusal) → Reason k b e → RefusedBy {X = Verdict} 11 (Err e)
  by_demand h reach e (no_stream z) = let n : ⊥ = omega arith in absurd n
  by_demand h reach e (too_many l) = let n : ⊥ = omega arith in absurd n
  by_demand h reach e (too_far f) = absurd (not_far k b h reach f)
  by_demand h reach e (exceeds v x) = (DemandExceeded v, refl, refl)

  infeasible_refused : (h : ℕ) → InReach k b h → (Feasible k b → ⊥) → (answer : Result Verdict Refusal) → Says k b answer → RefusedBy 11 answer
  infeasible_refused h reach bad (Ok v) a = absurd (bad a.feasible)
  infeasible_refused h reach bad (Err e) r = by_demand h reach e (reason k b e r)

  pub judged : (answer : Result Verdict Refusal) → Says k b answer → Decided k b answer
  judged answer says = record {
    says = says;
    exactly = record {
      none = λ z. (NoStream, sym (only_answer answer (Err NoStream) says z), refl);
      many = λ l. (TooManyStreams, sym (only_answer answer (Err TooManyStreams) says l), refl);
      far = λ f. (HorizonTooFar, sym (only_answer answer (Err HorizonTooFar) says f), refl);
      within = λ h reach. (ok_feasible answer says, λ fits. feasible_ok h reach fits answer says);
      exceeded = λ h reach bad. infeasible_refused h reach bad answer says;
      only = λ other s. only_answer answer other says s;
    };
  }

  pub scanned : Laws k → (answer : Result Verdict Refusal) → MatchResult answer (λ v. Accepts k b v) (λ e. Refuses k b e) → Decided k b answer
  scanned laws (Ok v) looked = judged (Ok v) (accepts_all k b (laws.ceilings b) v looked)
  scanned laws (Err e) refuses = judged (Err e) refuses
