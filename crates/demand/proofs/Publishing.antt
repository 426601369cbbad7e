-- The published form of the overrun share, from the form by plateaus: those of m / T + 1 begin at the multiples of T.

use Rattle.std.proofs.Common.{◌≡◌, ℕ, zero, suc, ◌+◌, ◌-◌, ◌*◌, ◌/◌, ◌%◌, ◌<◌, ◌≤◌, cond, ltb, leb, ℤ, pos, negsuc, ◌+ℤ◌, ◌-ℤ◌, ◌*ℤ◌, ◌<ℤ◌, sym, refl, ap, ◌∙◌, subst, ⊎_elim, mul-le-mul_right, mod-eq_of_lt, suc-mul, div-lt_iff_lt-mul, add-mul, one-mul, le-div_iff_mul-le, zero-mul, div-mul-le_self, mul-div_cancel, arith}
use native.Mathlib.Nat.{mod-add-div', add-mul-mod_self_right, div-eq_of_lt-le}
use Rattle.std.proofs.lemmas.Int.{ints, clamps}
use Rattle.std.proofs.lemmas.Bool.{cases_lt, cond-true, cond-false, lt-ltb, le-ltb, le-leb, lt-leb}
use Rattle.stream.specs.Limits.{Within}
use Rattle.stream.specs.declared.Class.{Class}
use Rattle.stream.specs.declared.Class.TheVariants.{Critical, Background}
use Rattle.stream.specs.declared.Row.{Row}
use Rattle.demand.specs.Published.{ByPlateau, spaced, Floor, deducted, published, closed, AsPublished}
use Rattle.demand.specs.Shares.{slack, if_critical, overrun_share}
use Rattle.demand.specs.Watching.{Flat}
use Rattle.demand.proofs.Plateaus.{plateau_share, plateau_of, share_before_slack, share_of_background}
use Rattle.demand.proofs.Widths.{short_fits}

pub by_plateau : (r : Row) → Within r → ByPlateau r
by_plateau r w = record {
  background = share_of_background r;
  early = share_before_slack r;
  critical = λ k N law t start level critical late flat. plateau_share r N w critical law.rises t start level late flat;
  plateau = λ k N law m. plateau_of law m;
}

module _ (r : Row) (w : Within r) (critical : r.class ≡ Critical) where
  spaced_rises : (m n : ℕ) → m ≤ n → spaced r m ≤ spaced r n
  spaced_rises m n h =
      let limits = w.0 in
      let below : m / r.gap * r.gap ≤ n = omega (arith, div-mul-le_self m r.gap) in
      let q : m / r.gap ≤ n / r.gap = (le-div_iff_mul-le limits.0).1 below in
      omega arith

  spaced_flat : (m : ℕ) → Flat (spaced r) m (m / r.gap * r.gap) (spaced r m)
  spaced_flat m = record {
    reaches = div-mul-le_self m r.gap;
    value = refl;
    same = ap (λ (q : ℕ). q + 1) (mul-div_cancel (m / r.gap) w.0.0);
    lower = λ p l. let q : p / r.gap < m / r.gap = (div-lt_iff_lt-mul w.0.0).1 l in omega arith;
  }

  -- what is left of c at m is what the published form deducts at t
  left_is_deducted : (t : ℕ) → slack r ≤ t → r.budget - (t - slack r) % r.gap ≡ deducted r t
  left_is_deducted t late =
      let T : ℕ = r.gap in
      let q : ℕ = t / T in
      let gap = w.0 in
      let deadline = w.1 in
      let short = w.3.0 critical in
      let parts = mod-add-div' t T in
      let rest : t % T < T = omega arith in
      ⊎_elim
      (λ (before : t % T < slack r).
      let once : 1 ≤ q = ⊎_elim (λ (none : q < 1). let z : q * T ≡ 0 = (let e : q ≡ 0 = omega arith in ap (λ (x : ℕ). x * T) e ∙ omega (arith, one-mul T)) in let f : ⊥ = omega arith in absurd f) (λ (some : 1 ≤ q). some) (cases_lt q 1) in
      let turns : q * T ≡ (q - 1) * T + T = (let e : q ≡ q - 1 + 1 = omega arith in ap (λ (x : ℕ). x * T) e ∙ omega (arith, add-mul (q - 1) 1 T, one-mul T)) in
      let is : t - slack r ≡ t % T + T - slack r + (q - 1) * T = omega arith in
      let left : (t - slack r) % T ≡ t % T + T - slack r = ap (λ (x : ℕ). x % T) is ∙ add-mul-mod_self_right (t % T + T - slack r) (q - 1) T ∙ mod-eq_of_lt (omega arith) in
      omega (arith, cond-false (leb (slack r) (t % T)) (cond (ltb (t % T) r.deadline) (r.budget + slack r - t % T) 0) 0 (lt-leb (slack r) (t % T) before)))
      (λ (from : slack r ≤ t % T).
      let is : t - slack r ≡ t % T - slack r + q * T = omega arith in
      let left : (t - slack r) % T ≡ t % T - slack r = ap (λ (x : ℕ). x % T) is ∙ add-mul-mod_self_right (t % T - slack r) q T ∙ mod-eq_of_lt (omega arith) in
      let outer = cond-true (leb (slack r) (t % T)) (cond (ltb (t % T) r.deadline) (r.budget + slack r - t % T) 0) 0 (le-leb (slack r) (t % T) from) in
      ⊎_elim
      (λ (within : t % T < r.deadline). omega (arith, cond-true (ltb (t % T) r.deadline) (r.budget + slack r - t % T) 0 (lt-ltb (t % T) r.deadline within)))
      (λ (past : r.deadline ≤ t % T). omega (arith, cond-false (ltb (t % T) r.deadline) (r.budget + slack r - t % T) 0 (le-ltb (t % T) r.deadline past)))
      (cases_lt (t % T) r.deadline))
      (cases_lt (t % T) (slack r))

  -- the same with natural numbers, from the slack on
  pub spaced_share : (t : ℕ) → slack r ≤ t → (overrun_share r (spaced r) t ≡ spaced r (t - slack r) * r.certain - deducted r t) × (deducted r t ≤ spaced r (t - slack r) * r.certain)
  spaced_share t late =
      let m : ℕ = t - slack r in
      let closed = plateau_share r (spaced r) w critical spaced_rises t (m / r.gap * r.gap) (spaced r m) late (spaced_flat m) in
      let since : m - m / r.gap * r.gap ≡ m % r.gap = omega (arith, mod-add-div' m r.gap) in
      let left = left_is_deducted t late in
      let budgets = w.2.2 critical in
      let one : 1 * r.certain ≤ spaced r m * r.certain = mul-le-mul_right r.certain (omega arith) in
      (closed ∙ ap (λ (x : ℕ). spaced r m * r.certain - (r.budget - x)) since ∙ ap (λ (x : ℕ). spaced r m * r.certain - x) left, omega (arith, one-mul r.certain))

  -- before the slack nothing is deducted
  pub none_deducted : (t : ℕ) → t < slack r → deducted r t ≡ 0
  none_deducted t early =
      let gap = w.0 in
      let deadline = w.1 in
      let whole : t % r.gap ≡ t = mod-eq_of_lt (omega arith) in
      cond-false (leb (slack r) (t % r.gap)) (cond (ltb (t % r.gap) r.deadline) (r.budget + slack r - t % r.gap) 0) 0 (lt-leb (slack r) (t % r.gap) (omega arith))

  as_published : (t : ℕ) (q : ℤ) → Floor (pos t -ℤ pos (slack r)) r.gap q → pos (overrun_share r (spaced r) t) ≡ published r t q
  as_published t (pos n) f =
      let low = f.low in
      let high = f.high in
      let late : slack r ≤ t = omega (arith, ints) in
      let is : (t - slack r) / r.gap ≡ n = div-eq_of_lt-le r.gap (omega (arith, ints)) (omega (arith, ints)) in
      let share = spaced_share t late in
      let product = ap (λ (x : ℕ). (x + 1) * r.certain) is in
      omega (arith, ints, clamps)
  as_published t (negsuc zero) f =
      let high = f.high in
      let early : t < slack r = omega (arith, ints, zero-mul r.gap) in
      omega (arith, ints, clamps, share_before_slack r (spaced r) t early, none_deducted t early, zero-mul r.certain)
  as_published t (negsuc (suc n)) f =
      let gap = w.0 in
      let deadline = w.1 in
      let short = short_fits w in
      let next : negsuc (suc n) +ℤ pos 1 ≡ negsuc n = omega (arith, ints) in
      let Below : ℤ → Type 0 = λ z. (pos t -ℤ pos (slack r)) <ℤ (z *ℤ pos r.gap) in
      let high : Below (negsuc n) = subst Below next f.high in
      let z : ⊥ = omega (arith, ints, suc-mul n r.gap) in absurd z

pub published_share : (r : Row) → Within r → AsPublished r
published_share r w t q critical f = as_published r w critical t q f

pub closed_share : (r : Row) → Within r → (t : ℕ) → overrun_share r (spaced r) t ≡ closed r t
closed_share r w t = by_class r.class refl
  where
    by_class : (c : Class) → r.class ≡ c → overrun_share r (spaced r) t ≡ if_critical c (cond (ltb t (slack r)) 0 (spaced r (t - slack r) * r.certain - deducted r t))
    by_class Background e = share_of_background r (spaced r) t e
    by_class Critical e =
        ⊎_elim
        (λ (early : t < slack r). share_before_slack r (spaced r) t early ∙ sym (cond-true (ltb t (slack r)) 0 (spaced r (t - slack r) * r.certain - deducted r t) (lt-ltb t (slack r) early)))
        (λ (late : slack r ≤ t). (spaced_share r w e t late).0 ∙ sym (cond-false (ltb t (slack r)) 0 (spaced r (t - slack r) * r.certain - deducted r t) (le-ltb t (slack r) late)))
        (cases_lt t (slack r))
