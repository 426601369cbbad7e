-- The overrun share by the plateau of N on which t - (D - V) lies: no other n has to be tried.

use Rattle.std.proofs.Common.{◌≡◌, ℕ, zero, suc, ◌+◌, ◌-◌, ◌*◌, ◌<◌, ◌≤◌, min, sym, refl, ap, ◌∙◌, subst, ⊎_elim, mul-le-mul_right, add-mul, one-mul, add-one, arith}
use Rattle.std.proofs.lemmas.Bool.{cases_lt, cases_eq}
use Rattle.stream.specs.Limits.{Within}
use Rattle.stream.specs.declared.Class.{Class}
use Rattle.stream.specs.declared.Class.TheVariants.{Critical, Background}
use Rattle.stream.specs.declared.Row.{Row}
use Rattle.bank.specs.Ceilings.{Ceiling}
use Rattle.demand.specs.Watching.{Flat}
use Rattle.demand.specs.Shares.{greatest, slack, carrying, if_critical, overrun_share}

pub greatest_bounded : (f : ℕ → ℕ) (from count x : ℕ) → ((j : ℕ) → j < count → f (from + j) ≤ x) → greatest f from count ≤ x
unfolding greatest
greatest_bounded f from zero x h = omega arith
greatest_bounded f from (suc count) x h =
    let rest = greatest_bounded f from count x (λ j l. h j (omega arith)) in
    let last = h count (omega arith) in
    omega arith

pub greatest_reaches : (f : ℕ → ℕ) (from count j : ℕ) → j < count → f (from + j) ≤ greatest f from count
unfolding greatest
greatest_reaches f from zero j h = let z : ⊥ = omega arith in absurd z
greatest_reaches f from (suc count) j h =
    ⊎_elim
    (λ (l : j < count). let rest = greatest_reaches f from count j l in omega arith)
    (λ (l : count ≤ j). let e : j ≡ count = omega arith in omega (arith, ap (λ (x : ℕ). f (from + x)) e))
    (cases_lt j count)

carrying_at : (r : Row) (N : ℕ → ℕ) (t j : ℕ) → slack r ≤ t → carrying r N t (slack r + j) ≡ N (t - slack r - j) * r.certain - (r.budget - j)
unfolding carrying
carrying_at r N t j late =
    let from : t - (slack r + j) ≡ t - slack r - j = omega arith in
    let less : r.budget + slack r - (slack r + j) ≡ r.budget - j = omega arith in
    ap (λ (u : ℕ). N u * r.certain - (r.budget + slack r - (slack r + j))) from ∙ ap (λ (v : ℕ). N (t - slack r - j) * r.certain - v) less

module _ (r : Row) (N : ℕ → ℕ) (w : Within r) (critical : r.class ≡ Critical) (rises : (m n : ℕ) → m ≤ n → N m ≤ N n) (t start level : ℕ) (late : slack r ≤ t) (p : Flat N (t - slack r) start level) where
  -- on the plateau the deduction only falls with n; beyond it a whole certain budget is lost
  none_above : (j : ℕ) → j < min t r.deadline + 1 - slack r → N (t - slack r - j) * r.certain - (r.budget - j) ≤ N (t - slack r) * r.certain - (r.budget - (t - slack r - start))
  none_above j h =
      let m : ℕ = t - slack r in
      ⊎_elim
      (λ (on : m - start < j).
      let under : N (m - j) < N m = p.lower (m - j) (omega arith) in
      let step : (N (m - j) + 1) * r.certain ≤ N m * r.certain = mul-le-mul_right r.certain (omega arith) in
      let budgets = w.2.2 critical in
      omega (arith, add-mul (N (m - j)) 1 r.certain, one-mul r.certain))
      (λ (off : j ≤ m - start).
      let up : N (m - j) * r.certain ≤ N m * r.certain = mul-le-mul_right r.certain (rises (m - j) m (omega arith)) in
      omega arith)
      (cases_lt (m - start) j)

  one_reaches : N (t - slack r) * r.certain - (r.budget - (t - slack r - start)) ≤ greatest (carrying r N t) (slack r) (min t r.deadline + 1 - slack r)
  one_reaches =
      let m : ℕ = t - slack r in
      let j : ℕ = min (m - start) r.short in
      let shorts = w.3.0 critical in
      let reach = p.reaches in
      let in_range : j < min t r.deadline + 1 - slack r = omega arith in
      let found = greatest_reaches (carrying r N t) (slack r) (min t r.deadline + 1 - slack r) j in_range in
      let low = rises start (m - j) (omega arith) in
      let high = rises (m - j) m (omega arith) in
      let level_there : N (m - j) ≡ N m = omega (arith, p.same) in
      omega (arith, carrying_at r N t j late, ap (λ (n : ℕ). n * r.certain) level_there)

  -- the closed form of the share
  pub plateau_share : overrun_share r N t ≡ level * r.certain - (r.budget - (t - slack r - start))
  unfolding overrun_share
  plateau_share =
      let bound = greatest_bounded (carrying r N t) (slack r) (min t r.deadline + 1 - slack r) (N (t - slack r) * r.certain - (r.budget - (t - slack r - start))) (λ j h. let a = none_above j h in omega (arith, carrying_at r N t j late)) in
      let reached = one_reaches in
      let is : if_critical r.class (greatest (carrying r N t) (slack r) (min t r.deadline + 1 - slack r)) ≡ greatest (carrying r N t) (slack r) (min t r.deadline + 1 - slack r) = ap (λ (c : Class). if_critical c (greatest (carrying r N t) (slack r) (min t r.deadline + 1 - slack r))) critical in
      let value : level * r.certain ≡ N (t - slack r) * r.certain = ap (λ (n : ℕ). n * r.certain) p.value in
      omega arith

greatest_of_none : (c : Class) (f : ℕ → ℕ) (from : ℕ) → if_critical c (greatest f from 0) ≡ 0
unfolding greatest
greatest_of_none Critical f from = refl
greatest_of_none Background f from = refl

-- below the slack there is no n to try
pub share_before_slack : (r : Row) (N : ℕ → ℕ) (t : ℕ) → t < slack r → overrun_share r N t ≡ 0
unfolding overrun_share
share_before_slack r N t early =
    let none : min t r.deadline + 1 - slack r ≡ 0 = omega arith in
    ap (λ (n : ℕ). if_critical r.class (greatest (carrying r N t) (slack r) n)) none ∙ greatest_of_none r.class (carrying r N t) (slack r)

pub share_of_background : (r : Row) (N : ℕ → ℕ) (t : ℕ) → r.class ≡ Background → overrun_share r N t ≡ 0
unfolding overrun_share
share_of_background r N t b = ap (λ (c : Class). if_critical c (greatest (carrying r N t) (slack r) (min t r.deadline + 1 - slack r))) b

-- one length on: the plateau goes on where N stays, and begins anew where N has risen
pub plateau_first : (N : ℕ → ℕ) → Flat N 0 0 (N 0)
plateau_first N = record { reaches = omega arith; value = refl; same = refl; lower = λ q l. let z : ⊥ = omega arith in absurd z }

pub plateau_stays : {r : Row} {k : ℕ} {N : ℕ → ℕ} → Ceiling r k N → (m start level : ℕ) → Flat N m start level → level ≡ N (m + 1) → Flat N (m + 1) start level
plateau_stays {r} {k} {N} law m start level p e =
    let reach = p.reaches in
    record { reaches = omega arith; value = e; same = p.same ∙ sym p.value ∙ e; lower = λ q l. let under = p.lower q l in omega (arith, p.value) }

pub plateau_rises : {r : Row} {k : ℕ} {N : ℕ → ℕ} → Ceiling r k N → (m start level : ℕ) → Flat N m start level → (level ≡ N (m + 1) → ⊥) → Flat N (m + 1) (m + 1) (N (m + 1))
plateau_rises {r} {k} {N} law m start level p ne =
    let up = law.rises m (m + 1) (omega arith) in
    let more : N m < N (m + 1) = let v = p.value in omega (arith, ne) in
    record { reaches = omega arith; value = refl; same = refl; lower = λ q l. let low = law.rises q m (omega arith) in omega arith }

-- every m lies on a plateau
pub plateau_of : {r : Row} {k : ℕ} {N : ℕ → ℕ} → Ceiling r k N → (m : ℕ) → (start : ℕ) × Flat N m start (N m)
plateau_of {r} {k} {N} law zero = (0, plateau_first N)
plateau_of {r} {k} {N} law (suc m) =
    let before = plateau_of law m in
    let next : m + 1 ≡ suc m = add-one m in
    let On : ℕ → Type 0 = λ n. (start : ℕ) × Flat N n start (N n) in
    subst On next (⊎_elim
    (λ (same : N m ≡ N (m + 1)).
    let stays = plateau_stays law m before.0 (N m) before.1 same in
    (before.0, subst (λ (level : ℕ). Flat N (m + 1) before.0 level) same stays))
    (λ (other : N m ≡ N (m + 1) → ⊥). (m + 1, plateau_rises law m before.0 (N m) before.1 other))
    (cases_eq (N m) (N (m + 1))))
