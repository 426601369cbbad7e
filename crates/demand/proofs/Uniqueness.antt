-- A bank has one horizon, one nearest point and one first point that is exceeded, so each answer is the only one of its sort.

use Rattle.std.proofs.Common.{◌≡◌, ℕ, ◌<◌, ◌≤◌, Bool, false, not, ◌&&◌, ltb, sym, refl, ap, ◌∙◌, subst, ⊎_elim, arith}
use Rattle.std.proofs.lemmas.Bool.{cases_lt, ltb-false, or_parts, and_cases, not_from_false, both_ways}
use Rattle.stream.specs.declared.Phase.{Phase}
use Rattle.stream.specs.declared.Phase.TheVariants.{Normal, Overrun}
use Rattle.stream.specs.declared.Point.{Point}
use Rattle.stream.specs.declared.Verdict.{Verdict}
use Rattle.bank.specs.Kinds.{Kind}
use Rattle.least.specs.Orders.{lexical, by_margin, by_length, by_phase, stage, point_below}
use Rattle.demand.specs.Demands.{Fits}
use Rattle.demand.specs.Verdicts.{point_at, Nearest, InReach, AcceptsAll, ExceedsFirst, Exceeds, Far}

-- points that are not below one another have one length and one phase
after_tie : (first second : Point → Point → Bool) (p q : Point) → first q p ≡ false → lexical first second p q ≡ false → second p q ≡ false
after_tie first second p q tie e =
    let parts = or_parts (first p q) (not (first q p) && second p q) e in
    ⊎_elim
    (λ (no_tie : not (first q p) ≡ false). absurd (both_ways (not (first q p)) no_tie (not_from_false (first q p) tie)))
    (λ (below : second p q ≡ false). below)
    (and_cases (not (first q p)) (second p q) parts.1)

first_ties : (first second : Point → Point → Bool) (p q : Point) → lexical first second p q ≡ false → first p q ≡ false
first_ties first second p q e = (or_parts (first p q) (not (first q p) && second p q) e).0

same_phase : (p q : Phase) → ltb (stage p) (stage q) ≡ false → ltb (stage q) (stage p) ≡ false → p ≡ q
same_phase Normal Normal e f = refl
same_phase Overrun Overrun e f = refl
same_phase Normal Overrun e f = let z : ◌≡◌ {A = ℕ} 0 1 = cc in let w : ⊥ = omega arith in absurd w
same_phase Overrun Normal e f = let z : ◌≡◌ {A = ℕ} 0 1 = cc in let w : ⊥ = omega arith in absurd w

-- the same place
record Tied (p q : Point) : Type 0 where
  pub phase : p.phase ≡ q.phase
  pub length : p.length ≡ q.length

tied : (p q : Point) → point_below p q ≡ false → point_below q p ≡ false → Tied p q
tied p q e f =
    let rest : Point → Point → Bool = lexical by_length by_phase in
    let e2 = after_tie by_margin rest p q (first_ties by_margin rest q p f) e in
    let f2 = after_tie by_margin rest q p (first_ties by_margin rest p q e) f in
    let e1 = first_ties by_length by_phase p q e2 in
    let f1 = first_ties by_length by_phase q p f2 in
    let e3 = after_tie by_length by_phase p q f1 e2 in
    let f3 = after_tie by_length by_phase q p e1 f2 in
    record {
      phase = same_phase p.phase q.phase e3 f3;
      length = omega (arith, ltb-false p.length q.length e1, ltb-false q.length p.length f1);
    }

module _ {S : Type 0} (k : Kind S) (b : S) where
  pub exceeded : (p : Phase) (t : ℕ) → ExceedsFirst k b p t → Fits k b t → ⊥
  exceeded Normal t above fits = omega arith
  exceeded Overrun t above fits = omega arith

  pub not_far : (h : ℕ) → InReach k b h → Far k b → ⊥
  not_far h reach far = let past = far.far h reach.horizon.common in let near = reach.near in omega arith

  one_horizon : (h g : ℕ) → InReach k b h → InReach k b g → h ≡ g
  one_horizon h g p q = omega (arith, p.horizon.least g q.horizon.common, q.horizon.least h p.horizon.common)

  -- a place has one point
  one_point : (p q : Point) → p ≡ point_at k b p.phase p.length → q ≡ point_at k b q.phase q.length → Tied p q → p ≡ q
  one_point p q is too same = is ∙ ap (λ (x : Phase). point_at k b x p.length) same.phase ∙ ap (point_at k b q.phase) same.length ∙ sym too

  one_nearest : (h : ℕ) (p q : Point) → Nearest k b h p → Nearest k b h q → p ≡ q
  one_nearest h p q n o =
      let e : point_below p q ≡ false = ap (λ (x : Point). point_below x q) n.is ∙ o.least p.phase p.length n.from n.upto in
      let f : point_below q p ≡ false = ap (λ (x : Point). point_below x p) o.is ∙ n.least q.phase q.length o.from o.upto in
      one_point p q n.is o.is (tied p q e f)

  verdict_of : (v w : Verdict) → v.horizon ≡ w.horizon → v.lengths ≡ w.lengths → v.point ≡ w.point → v ≡ w
  verdict_of v w h n p =
      let of : ℕ → ℕ → Point → Verdict = λ h n p. record { horizon = h; lengths = n; point = p } in
      ap (λ (x : ℕ). of x v.lengths v.point) h ∙ ap (λ (x : ℕ). of w.horizon x v.point) n ∙ ap (of w.horizon w.lengths) p

  pub one_accepted : (v w : Verdict) → AcceptsAll k b v → AcceptsAll k b w → v ≡ w
  one_accepted v w a c =
      let h = one_horizon v.horizon w.horizon a.looked.reach c.looked.reach in
      verdict_of v w h (a.looked.lengths ∙ omega arith ∙ sym c.looked.lengths) (one_nearest w.horizon v.point w.point (subst (λ (x : ℕ). Nearest k b x v.point) h a.looked.nearest) c.looked.nearest)

  one_first : (p q : Phase) (t : ℕ) → ExceedsFirst k b p t → ExceedsFirst k b q t → p ≡ q
  one_first Normal Normal t e f = refl
  one_first Overrun Overrun t e f = refl
  one_first Normal Overrun t e f = let z : ⊥ = omega arith in absurd z
  one_first Overrun Normal t e f = let z : ⊥ = omega arith in absurd z

  not_before : (v w : Verdict) → Exceeds k b v → Exceeds k b w → v.point.length < w.point.length → ⊥
  not_before v w x y l = exceeded v.point.phase v.point.length x.here (y.before v.point.length l)

  pub one_exceeded : (v w : Verdict) → Exceeds k b v → Exceeds k b w → v ≡ w
  one_exceeded v w x y =
      let t : v.point.length ≡ w.point.length =
      ⊎_elim
      (λ (sooner : v.point.length < w.point.length). absurd (not_before v w x y sooner))
      (λ (later : w.point.length ≤ v.point.length).
      ⊎_elim
      (λ (before : w.point.length < v.point.length). absurd (not_before w v y x before))
      (λ (not_later : v.point.length ≤ w.point.length). omega arith)
      (cases_lt w.point.length v.point.length))
      (cases_lt v.point.length w.point.length) in
      let p = one_first v.point.phase w.point.phase w.point.length (subst (λ (n : ℕ). ExceedsFirst k b v.point.phase n) t x.here) y.here in
      verdict_of v w (one_horizon v.horizon w.horizon x.reach y.reach) (x.lengths ∙ omega arith ∙ sym y.lengths) (one_point v.point w.point x.is y.is (record { phase = p; length = t }))
