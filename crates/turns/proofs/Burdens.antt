-- What one stream burdens the worker with: what is owed to its waiting job, if it is due, and what its openings let come and be due. One lemma for each call.

use Rattle.std.proofs.Common.{◌≡◌, ℕ, ◌+◌, ◌-◌, ◌*◌, ◌<◌, ◌≤◌, min, cond, leb, Some, None, Option, refl, ap, ⊎_elim, mul-le-mul_right, add-mul, one-mul, mul-zero, zero-mul, arith}
use Rattle.std.proofs.lemmas.Bool.{cases_lt, cond-true, cond-false, le-leb, lt-leb}
use Rattle.stream.specs.Limits.{Within}
use Rattle.stream.specs.declared.Class.{Class}
use Rattle.stream.specs.declared.Class.TheVariants.{Critical, Background}
use Rattle.stream.specs.declared.Phase.{Phase}
use Rattle.stream.specs.declared.Phase.TheVariants.{Normal, Overrun}
use Rattle.stream.specs.declared.Row.{Row}
use Rattle.stream.specs.declared.limits.Record.{Record}
use Rattle.bank.specs.Ceilings.{back, Ceiling}
use Rattle.bank.proofs.Backs.{back_before, back_after}
use Rattle.demand.specs.Demands.{share}
use Rattle.demand.specs.Shares.{normal_share, overrun_share, greatest, carrying, slack, if_critical}
use Rattle.demand.proofs.Plateaus.{greatest_reaches}
use Rattle.turns.specs.Jobs.{term, deadline_of, worked, released}
use Rattle.turns.specs.declared.Job.{Job}
use Rattle.turns.proofs.Ends.{allowance}

-- the turns still owed to a job that is due t ticks from now
abbrev pub owed : Phase → ℕ → ℕ → Option Job → ℕ
owed mode now t None = 0
owed mode now t (Some j) = cond (leb (deadline_of mode j) (now + t)) (allowance mode j.row - j.units) 0

-- the turns that releases still to come can claim within t ticks
abbrev pub coming : Phase → Row → (ℕ → ℕ) → ℕ → ℕ
coming mode row O t = back O t (term mode row) * allowance mode row

abbrev pub burden : Phase → Row → (ℕ → ℕ) → ℕ → ℕ → Option Job → ℕ
burden mode row O now t slot = owed mode now t slot + coming mode row O t

pub owed_due : (mode : Phase) (now t : ℕ) (j : Job) → deadline_of mode j ≤ now + t → owed mode now t (Some j) ≡ allowance mode j.row - j.units
owed_due mode now t j h = cond-true _ _ 0 (le-leb (deadline_of mode j) (now + t) h)

pub owed_later : (mode : Phase) (now t : ℕ) (j : Job) → now + t < deadline_of mode j → owed mode now t (Some j) ≡ 0
owed_later mode now t j h = cond-false _ (allowance mode j.row - j.units) 0 (lt-leb (deadline_of mode j) (now + t) h)

-- what a later question gives is at least what an earlier one does, if the function falls no faster than time passes
back_within : (O P : ℕ → ℕ) (t u v : ℕ) → ((m : ℕ) → m ≤ u → O m ≤ P (m + (u - t))) → t ≤ u → back O t v ≤ back P u v
back_within O P t u v h l =
    ⊎_elim
    (λ (early : t < v). let none = back_before O t v early in omega arith)
    (λ (late : v ≤ t).
    let here : t - v + (u - t) ≡ u - v = omega arith in
    let le = h (t - v) (omega arith) in
    omega (arith, back_after O t v late, back_after P u v (omega arith), ap P here))
    (cases_lt t v)

pub coming_less : (mode : Phase) (row : Row) (O P : ℕ → ℕ) (t : ℕ) → ((m : ℕ) → O m ≤ P m) → coming mode row O t ≤ coming mode row P t
coming_less mode row O P t h = mul-le-mul_right (allowance mode row) (back_within O P t t (term mode row) (λ m _. let e : m + (t - t) ≡ m = omega arith in let le = h m in omega (arith, ap P e)) (omega arith))

-- a tick: what could come from this moment on could come from the one before, a tick later
pub coming_ticked : (mode : Phase) (row : Row) (O P : ℕ → ℕ) (t : ℕ) → ((m : ℕ) → O m ≤ P (m + 1)) → coming mode row O t ≤ coming mode row P (t + 1)
coming_ticked mode row O P t h = mul-le-mul_right (allowance mode row) (back_within O P t (t + 1) (term mode row) (λ m _. let e : m + (t + 1 - t) ≡ m + 1 = omega arith in let le = h m in omega (arith, ap P e)) (omega arith))

-- a release: the new job is paid for by the fall of the opening
pub burden_released : (mode : Phase) (row : Row) (O P : ℕ → ℕ) (now t : ℕ) → ((m : ℕ) → O m + 1 ≤ P m) → burden mode row O now t (Some (released row now)) ≤ burden mode row P now t None
burden_released mode row O P now t h =
    let v : ℕ = term mode row in
    let a : ℕ = allowance mode row in
    ⊎_elim
    (λ (early : t < v).
    let z = owed_later mode now t (released row now) (omega arith) in
    omega (arith, ap (λ (x : ℕ). x * a) (back_before O t v early), zero-mul a))
    (λ (late : v ≤ t).
    let z = owed_due mode now t (released row now) (omega arith) in
    let fall : (O (t - v) + 1) * a ≤ P (t - v) * a = mul-le-mul_right a (h (t - v)) in
    omega (arith, add-mul (O (t - v)) 1 a, one-mul a, ap (λ (x : ℕ). x * a) (back_after O t v late), ap (λ (x : ℕ). x * a) (back_after P t v late)))
    (cases_lt t v)

-- a tick leaves what is owed
pub owed_ticked : (mode : Phase) (now t : ℕ) (slot : Option Job) → owed mode (now + 1) t slot ≡ owed mode now (t + 1) slot
owed_ticked mode now t None = refl
owed_ticked mode now t (Some j) = let e : now + 1 + t ≡ now + (t + 1) = omega arith in ap (λ (x : ℕ). cond (leb (deadline_of mode j) x) (allowance mode j.row - j.units) 0) e

-- a turn of a job that is due takes one off what is owed
pub owed_worked : (mode : Phase) (now t : ℕ) (j : Job) → j.units < allowance mode j.row → deadline_of mode j ≤ now + t → owed mode now t (Some (worked j)) + 1 ≤ owed mode now t (Some j)
owed_worked mode now t j more due = omega (arith, owed_due mode now t j due, owed_due mode now t (worked j) due)

-- With a whole deadline left, a carried-over job has done nothing, so all jobs that can be due are in the share.
coming_shared : (row : Row) (N : ℕ → ℕ) (t : ℕ) → Within row → (c : Class) → row.class ≡ c → coming Overrun row N t ≤ overrun_share row N t
unfolding overrun_share carrying
coming_shared row N t w Background e = let none = w.2.3 e in omega (arith, ap (λ (x : ℕ). back N t row.deadline * x) none, mul-zero (back N t row.deadline))
coming_shared row N t w Critical e =
    ⊎_elim
    (λ (early : t < row.deadline). omega (arith, ap (λ (x : ℕ). x * row.certain) (back_before N t row.deadline early), zero-mul row.certain))
    (λ (late : row.deadline ≤ t).
    let shorts = w.3.0 e in
    let j : ℕ = row.short in
    let in_range : j < min t row.deadline + 1 - slack row = omega arith in
    let reached = greatest_reaches (carrying row N t) (slack row) (min t row.deadline + 1 - slack row) j in_range in
    let at : slack row + j ≡ row.deadline = omega arith in
    let value : carrying row N t (slack row + j) ≡ N (t - row.deadline) * row.certain - (row.budget + slack row - row.deadline) = ap (λ (n : ℕ). carrying row N t n) at in
    let is : if_critical row.class (greatest (carrying row N t) (slack row) (min t row.deadline + 1 - slack row)) ≡ greatest (carrying row N t) (slack row) (min t row.deadline + 1 - slack row) = ap (λ (c : Class). if_critical c (greatest (carrying row N t) (slack row) (min t row.deadline + 1 - slack row))) e in
    omega (arith, ap (λ (x : ℕ). x * row.certain) (back_after N t row.deadline late)))
    (cases_lt t row.deadline)

-- where nothing is owed, the burden is within the demand
pub coming_demanded : (mode : Phase) (r : Record) (N O : ℕ → ℕ) (t : ℕ) → ((m : ℕ) → O m ≤ N m) → coming mode r.row O t ≤ share (Some r) mode N t
unfolding normal_share
coming_demanded Normal r N O t h = coming_less Normal r.row O N t h
coming_demanded Overrun r N O t h = let le = coming_less Overrun r.row O N t h in let more = coming_shared r.row N t r.within r.row.class refl in omega arith

-- The switch: a job that is carried over, with n ticks left to its deadline, has done so much that what it is still owed, with all that can come, is within the share.
pub burden_carried : (row : Row) (k : ℕ) (N O : ℕ → ℕ) (now t : ℕ) (j : Job) → Within row → row.class ≡ Critical → Ceiling row k N → j.row ≡ row → j.since ≤ now → now ≤ j.since + row.short → j.units ≤ row.budget → row.budget - j.units ≤ j.since + row.short - now → ((m : ℕ) → O m + 1 ≤ N (m + (now - j.since))) → burden Overrun row O now t (Some j) ≤ overrun_share row N t
unfolding overrun_share carrying
burden_carried row k N O now t j w e law same since short few done opens =
    let budgets = w.2.2 e in
    let shorts = w.3.0 e in
    let D : ℕ = row.deadline in
    let C : ℕ = row.certain in
    let n : ℕ = j.since + D - now in
    let row_deadline : j.row.deadline ≡ D = ap (λ (r : Row). r.deadline) same in
    let row_certain : j.row.certain ≡ C = ap (λ (r : Row). r.certain) same in
    let is : if_critical row.class (greatest (carrying row N t) (slack row) (min t D + 1 - slack row)) ≡ greatest (carrying row N t) (slack row) (min t D + 1 - slack row) = ap (λ (c : Class). if_critical c (greatest (carrying row N t) (slack row) (min t D + 1 - slack row))) e in
    ⊎_elim
    (λ (later : t < n).
    let none = owed_later Overrun now t j (omega arith) in
    omega (arith, ap (λ (x : ℕ). x * C) (back_before O t D (omega arith)), zero-mul C))
    (λ (due : n ≤ t).
    let left = owed_due Overrun now t j (omega arith) in
    let at : slack row + (n - slack row) ≡ n = omega arith in
    let reached = greatest_reaches (carrying row N t) (slack row) (min t D + 1 - slack row) (n - slack row) (omega arith) in
    let value : carrying row N t (slack row + (n - slack row)) ≡ N (t - n) * C - (row.budget + slack row - n) = ap (λ (x : ℕ). carrying row N t x) at in
    let all : (back O t D + 1) * C ≤ N (t - n) * C = mul-le-mul_right C (one_more n refl due) in
    omega (arith, add-mul (back O t D) 1 C, one-mul C))
    (cases_lt t n)
  where
    one_more : (n : ℕ) → n ≡ j.since + row.deadline - now → n ≤ t → back O t row.deadline + 1 ≤ N (t - n)
    one_more n is due =
        ⊎_elim
        (λ (early : t < row.deadline).
        let one = law.single (t - n) (omega arith) in
        omega (arith, back_before O t row.deadline early))
        (λ (late : row.deadline ≤ t).
        let here : t - row.deadline + (now - j.since) ≡ t - n = omega arith in
        let le = opens (t - row.deadline) in
        omega (arith, back_after O t row.deadline late, ap N here))
        (cases_lt t row.deadline)
