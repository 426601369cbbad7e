-- How large a ceiling, a share and a demand can be: everything fits 64 bits with room to spare.

use Rattle.std.proofs.Common.{◌≡◌, ℕ, zero, suc, ◌+◌, ◌-◌, ◌*◌, ◌/◌, ◌%◌, ◌^◌, ◌<◌, ◌≤◌, sym, refl, ap, ◌∙◌, ⊎_elim, add-mul, mul-le-mul, one-mul, zero-mul, arith}
use native.Mathlib.Nat.{mod-add-div'}
use Rattle.std.proofs.lemmas.Bool.{cases_lt}
use Rattle.stream.specs.Limits.{Within}
use Rattle.stream.specs.declared.Class.{Class}
use Rattle.stream.specs.declared.Class.TheVariants.{Critical, Background}
use Rattle.stream.specs.declared.Row.{Row}
use Rattle.bank.specs.Ceilings.{back, Ceiling}
use Rattle.bank.proofs.Backs.{back_before, back_after}

-- one gap later the ceiling has grown by k
pub ceiling_repeats : {r : Row} {k : ℕ} {N : ℕ → ℕ} → Ceiling r k N → Within r → (m : ℕ) → N (m + r.gap) ≡ N m + k
ceiling_repeats {r} {k} {N} law w m =
    let D : ℕ = r.deadline in
    let limits = w.1 in
    let at : m + D + r.gap - D ≡ m + r.gap = omega arith in
    let here : m + D - D ≡ m = omega arith in
    sym (ap N at) ∙ sym (back_after N (m + D + r.gap) D (omega arith)) ∙ law.repeats (m + D) ∙ ap (λ (x : ℕ). x + k) (back_after N (m + D) D (omega arith) ∙ ap N here)

-- within the first gap it is at most k
pub ceiling_first : {r : Row} {k : ℕ} {N : ℕ → ℕ} → Ceiling r k N → Within r → (m : ℕ) → m < r.gap → N m ≤ k
ceiling_first {r} {k} {N} law w m h =
    let D : ℕ = r.deadline in
    let limits = w.1 in
    let end : N (D - 1 + r.gap - D) ≡ 0 + k = sym (back_after N (D - 1 + r.gap) D (omega arith)) ∙ law.repeats (D - 1) ∙ ap (λ (x : ℕ). x + k) (back_before N (D - 1) D (omega arith)) in
    omega (arith, law.rises m (D - 1 + r.gap - D) (omega arith))

ceiling_gaps : {r : Row} {k : ℕ} {N : ℕ → ℕ} → Ceiling r k N → Within r → (q m : ℕ) → m < r.gap → N (m + q * r.gap) ≤ q * r.gap + r.gap
ceiling_gaps {r} {k} {N} law w zero m h =
    let first = ceiling_first law w m h in
    let few = law.few in
    let here : m + 0 * r.gap ≡ m = omega (arith, zero-mul r.gap) in
    omega (arith, zero-mul r.gap, ap N here)
ceiling_gaps {r} {k} {N} law w (suc q) m h =
    let rest = ceiling_gaps law w q m h in
    let few = law.few in
    let next = ceiling_repeats law w (m + q * r.gap) in
    let more : suc q * r.gap ≡ q * r.gap + r.gap = omega (arith, add-mul q 1 r.gap, one-mul r.gap, ap (λ (n : ℕ). n * r.gap) (let e : suc q ≡ q + 1 = omega arith in e)) in
    let there : m + suc q * r.gap ≡ m + q * r.gap + r.gap = omega arith in
    omega (arith, ap N there)

pub ceiling_at_most : {r : Row} {k : ℕ} {N : ℕ → ℕ} → Ceiling r k N → Within r → (m : ℕ) → N m ≤ m + r.gap
ceiling_at_most {r} {k} {N} law w m =
    let T : ℕ = r.gap in
    let limits = w.0 in
    let parts = mod-add-div' m T in
    let bound = ceiling_gaps law w (m / T) (m % T) (omega arith) in
    omega (arith, ap N parts)

-- a ceiling that the test asks for, times a budget
pub product_fits : (n b : ℕ) → n ≤ 1065535 → b ≤ 65535 → n * b < 2 ^ 37
product_fits n b p q = omega (arith, mul-le-mul p q)

pub back_at_most : {r : Row} {k : ℕ} {N : ℕ → ℕ} → Ceiling r k N → Within r → (t v : ℕ) → t ≤ 1000000 → back N t v ≤ 1065535
back_at_most {r} {k} {N} law w t v h =
    let limits = w.0 in
    ⊎_elim
    (λ (early : t < v). omega (arith, back_before N t v early))
    (λ (late : v ≤ t). let most = ceiling_at_most law w (t - v) in omega (arith, back_after N t v late))
    (cases_lt t v)

-- the budgets are within the deadline, and so within the longest gap
pub budget_fits : {r : Row} → Within r → r.budget ≤ 65535
budget_fits w = let gap = w.0 in let deadline = w.1 in let budget = w.2 in omega arith

pub certain_fits : {r : Row} → Within r → r.class ≡ Critical → r.certain ≤ 65535
certain_fits w c = let gap = w.0 in let deadline = w.1 in let budget = w.2.2 c in omega arith

-- the short deadline is between the first turn and the deadline
pub short_fits : {r : Row} → Within r → (1 ≤ r.short) × (r.short ≤ r.deadline) × (r.deadline ≤ 65535)
short_fits {r} w = by_class r.class refl
  where
    by_class : (c : Class) → r.class ≡ c → (1 ≤ r.short) × (r.short ≤ r.deadline) × (r.deadline ≤ 65535)
    by_class Critical e = let gap = w.0 in let deadline = w.1 in let budget = w.2 in let s = w.3.0 e in (omega arith, omega arith, omega arith)
    by_class Background e = let gap = w.0 in let deadline = w.1 in let s = w.3.1 e in (omega arith, omega arith, omega arith)
