-- What every call keeps: no stretch of time is burdened with more than its length, and each waiting job is within its allowance.

use Rattle.std.proofs.Common.{◌≡◌, ℕ, ◌+◌, ◌-◌, ◌<◌, ◌≤◌, List, length, Some, None, Option, refl, ap, subst, ⊎_elim, arith}
use Rattle.std.proofs.lemmas.Bool.{cases_lt}
use Rattle.stream.specs.declared.Phase.{Phase}
use Rattle.stream.specs.declared.limits.Record.{Record}
use Rattle.bank.specs.Ceilings.{Ceiling}
use Rattle.demand.specs.Demands.{total, share}
use Rattle.turns.specs.Jobs.{deadline_of, job_of}
use Rattle.turns.specs.Steps.{Next}
use Rattle.turns.specs.declared.Job.{Job}
use Rattle.turns.specs.declared.State.{State}
use Rattle.turns.specs.declared.Turn.{Turn}
use Rattle.turns.proofs.Ends.{allowance}
use Rattle.turns.proofs.Burdens.{owed, coming, burden, owed_due, coming_demanded}
use Rattle.turns.proofs.Sums.{total_le, total_term}

-- what a run does not change: the streams with their records and ceilings, admitted
pub record Plan : Type 0 where
  pub streams : ℕ
  pub records : ℕ → Option Record
  pub count : ℕ → ℕ
  pub ceiling : ℕ → ℕ → ℕ
  pub few : streams ≤ 32
  pub numbered : (i : ℕ) (r : Record) → records i ≡ Some r → (1 ≤ i) × (i ≤ streams)
  pub ceilings : (i : ℕ) (r : Record) → records i ≡ Some r → Ceiling r.row (count i) (ceiling i)
  pub feasible : (p : Phase) (t : ℕ) → total streams (λ i. share (records i) p (ceiling i) t) ≤ t

-- the openings at a moment are within the ceilings
abbrev pub Inside : Plan → (ℕ → ℕ → ℕ) → Type 0
Inside p O = (i : ℕ) (r : Record) (m : ℕ) → p.records i ≡ Some r → O i m ≤ p.ceiling i m

-- the openings a tick later
abbrev pub Later : Plan → (ℕ → ℕ → ℕ) → (ℕ → ℕ → ℕ) → Type 0
Later p O P = (i : ℕ) (r : Record) (m : ℕ) → p.records i ≡ Some r → P i m ≤ O i (m + 1)

abbrev pub burden_at : Option Record → Phase → (ℕ → ℕ) → ℕ → ℕ → Option Job → ℕ
burden_at None mode O now t slot = 0
burden_at (Some r) mode O now t slot = burden mode r.row O now t slot

abbrev pub burden_of : Plan → (ℕ → ℕ → ℕ) → Phase → ℕ → List (Option Job) → ℕ → ℕ → ℕ
burden_of p O mode now jobs t i = burden_at (p.records i) mode (O i) now t (job_of jobs i)

-- no stretch of time from now on is burdened with more than its length
abbrev pub Bearable : Plan → (ℕ → ℕ → ℕ) → Phase → ℕ → List (Option Job) → Type 0
Bearable p O mode now jobs = (t : ℕ) → total p.streams (burden_of p O mode now jobs t) ≤ t

-- a waiting job: it has its stream's numbers, it has turns left, and its own release is not among those that its stream can still have
pub record Held (r : Record) (N O : ℕ → ℕ) (mode : Phase) (now : ℕ) (j : Job) : Type 0 where
  pub row : j.row ≡ r.row
  pub since : j.since ≤ now
  pub more : j.units < allowance mode r.row
  pub opens : (m : ℕ) → O m + 1 ≤ N (m + (now - j.since))

abbrev pub SlotOk : Option Record → (ℕ → ℕ) → (ℕ → ℕ) → Phase → ℕ → Option Job → Type 0
SlotOk found N O mode now None = Unit {0}
SlotOk found N O mode now (Some j) = (r : Record) × (found ≡ Some r) × Held r N O mode now j

abbrev pub SlotsOk : Plan → (ℕ → ℕ → ℕ) → Phase → ℕ → List (Option Job) → Type 0
SlotsOk p O mode now jobs = (i : ℕ) → 1 ≤ i → i ≤ 32 → SlotOk (p.records i) (p.ceiling i) (O i) mode now (job_of jobs i)

abbrev pub TurnOk : State → Option Turn → Type 0
TurnOk s None = Unit {0}
TurnOk s (Some turn) = Next s turn

pub record Sane (p : Plan) (O : ℕ → ℕ → ℕ) (s : State) : Type 0 where
  pub room : length s.jobs ≡ 32
  pub slots : SlotsOk p O s.mode s.moment s.jobs
  pub bears : Bearable p O s.mode s.moment s.jobs
  pub turn : TurnOk s s.turn

-- Where no waiting job is due within t, the openings alone count, and they are within the demand.
pub quiet_bears : (p : Plan) (O : ℕ → ℕ → ℕ) (mode : Phase) (now : ℕ) (jobs : List (Option Job)) (t : ℕ) → Inside p O → ((i : ℕ) → 1 ≤ i → i ≤ 32 → owed mode now t (job_of jobs i) ≡ 0) → total p.streams (burden_of p O mode now jobs t) ≤ t
quiet_bears p O mode now jobs t inside none =
    let few = p.few in
    let all = total_le p.streams (burden_of p O mode now jobs t) (λ i. share (p.records i) mode (p.ceiling i) t) (λ i a b. one i (p.records i) refl (none i a (omega arith))) in
    let fits = p.feasible mode t in
    omega arith
  where
    one : (i : ℕ) (found : Option Record) → p.records i ≡ found → owed mode now t (job_of jobs i) ≡ 0 → burden_at found mode (O i) now t (job_of jobs i) ≤ share found mode (p.ceiling i) t
    one i None e z = omega arith
    one i (Some r) e z = let within = coming_demanded mode r (p.ceiling i) (O i) t (λ m. inside i r m e) in omega arith

-- what is owed to a stream's job within t is at most t
pub owed_within : (p : Plan) (O : ℕ → ℕ → ℕ) (mode : Phase) (now : ℕ) (jobs : List (Option Job)) → Bearable p O mode now jobs → (i : ℕ) (r : Record) → p.records i ≡ Some r → (t : ℕ) → owed mode now t (job_of jobs i) ≤ t
owed_within p O mode now jobs bears i r e t =
    let range = p.numbered i r e in
    let term = total_term p.streams (burden_of p O mode now jobs t) i range.0 range.1 in
    let all = bears t in
    let here : burden_at (p.records i) mode (O i) now t (job_of jobs i) ≡ owed mode now t (job_of jobs i) + coming mode r.row (O i) t = ap (λ (f : Option Record). burden_at f mode (O i) now t (job_of jobs i)) e in
    omega arith

-- A job that has turns left is not at its deadline yet, and what it is owed fits before it.
module _ (p : Plan) (O : ℕ → ℕ → ℕ) (mode : Phase) (now : ℕ) (jobs : List (Option Job)) (bears : Bearable p O mode now jobs) (i : ℕ) (r : Record) (e : p.records i ≡ Some r) (j : Job) (is : job_of jobs i ≡ Some j) (same : j.row ≡ r.row) where
  owed_to : (t : ℕ) → owed mode now t (Some j) ≤ t
  owed_to t = subst (λ (x : Option Job). owed mode now t x ≤ t) is (owed_within p O mode now jobs bears i r e t)

  pub before_deadline : j.units < allowance mode r.row → now < deadline_of mode j
  before_deadline more =
      ⊎_elim
      (λ (l : now < deadline_of mode j). l)
      (λ (l : deadline_of mode j ≤ now).
      let due = owed_due mode now 0 j (omega arith) in
      let none = owed_to 0 in
      let left : allowance mode j.row ≡ allowance mode r.row = ap (allowance mode) same in
      let z : ⊥ = omega arith in absurd z)
      (cases_lt now (deadline_of mode j))

  pub owed_in_time : now ≤ deadline_of mode j → allowance mode r.row - j.units ≤ deadline_of mode j - now
  owed_in_time early =
      let due = owed_due mode now (deadline_of mode j - now) j (omega arith) in
      let some = owed_to (deadline_of mode j - now) in
      let left : allowance mode j.row ≡ allowance mode r.row = ap (allowance mode) same in
      omega arith
