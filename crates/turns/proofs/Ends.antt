-- What each end of a turn says of the mode and of the units that the job has had.

use Rattle.std.proofs.Common.{◌≡◌, ℕ, ◌<◌, Bool, true, false, cond, eqb, ltb, sym, refl, ap, ◌∙◌, subst, arith}
use borrow.Author.Tests.{clash}
use Rattle.std.proofs.lemmas.Bool.{eqb-true, eqb-false, ltb-true, ltb-false}
use Rattle.stream.specs.Limits.{Within}
use Rattle.stream.specs.declared.Class.{Class}
use Rattle.stream.specs.declared.Class.TheVariants.{Critical, Background}
use Rattle.stream.specs.declared.Phase.{Phase}
use Rattle.stream.specs.declared.Phase.TheVariants.{Normal, Overrun}
use Rattle.stream.specs.declared.Row.{Row}
use Rattle.turns.specs.Jobs.{at_budget, background, ending}
use Rattle.turns.specs.declared.End.{End}
use Rattle.turns.specs.declared.End.TheVariants.{Going, Finished, Cut, Switch}

-- the turns that a job may take
abbrev pub allowance : Phase → Row → ℕ
allowance Normal r = r.budget
allowance Overrun r = r.certain

-- what an end says; a job that is cut has had what it was owed
abbrev pub Says : Phase → Row → ℕ → End → Type 0
Says mode r units Going = units ≡ allowance mode r → ⊥
Says mode r units Finished = Unit {0}
Says mode r units Cut = (units ≡ allowance mode r) × (r.class ≡ Critical → units ≡ r.certain)
Says mode r units Switch = (mode ≡ Normal) × (r.class ≡ Critical) × (units ≡ r.budget) × (r.budget < r.certain)

says_at_budget : (r : Row) (units : ℕ) → Within r → units ≡ r.budget → (c : Class) → r.class ≡ c → (more : Bool) → ltb r.budget r.certain ≡ more → Says Normal r units (at_budget c r)
says_at_budget r units w e Background is more t = (e, λ z. let q : Background ≡ Critical = sym is ∙ z in absurd (clash (sym (ap background q))))
says_at_budget r units w e Critical is true t = subst (λ (b : Bool). Says Normal r units (cond b Switch Cut)) (sym t) (refl, is, e, ltb-true r.budget r.certain t)
says_at_budget r units w e Critical is false t =
    let all = w.2.2 is in
    let most = ltb-false r.budget r.certain t in
    subst (λ (b : Bool). Says Normal r units (cond b Switch Cut)) (sym t) (e, λ _. omega arith)

says_unfinished : (mode : Phase) (r : Row) (units : ℕ) → Within r → (spent : Bool) → eqb units (allowance mode r) ≡ spent → Says mode r units (ending mode r units false)
says_unfinished Normal r units w true e = subst (λ (b : Bool). Says Normal r units (cond b (at_budget r.class r) Going)) (sym e) (says_at_budget r units w (eqb-true units r.budget e) r.class refl (ltb r.budget r.certain) refl)
says_unfinished Normal r units w false e = subst (λ (b : Bool). Says Normal r units (cond b (at_budget r.class r) Going)) (sym e) (eqb-false units r.budget e)
says_unfinished Overrun r units w true e = let is = eqb-true units r.certain e in subst (λ (b : Bool). Says Overrun r units (cond b Cut Going)) (sym e) (is, λ _. is)
says_unfinished Overrun r units w false e = subst (λ (b : Bool). Says Overrun r units (cond b Cut Going)) (sym e) (eqb-false units r.certain e)

pub end_says : (mode : Phase) (r : Row) (units : ℕ) (done : Bool) → Within r → Says mode r units (ending mode r units done)
end_says mode r units true w = tt
end_says mode r units false w = says_unfinished mode r units w (eqb units (allowance mode r)) refl
