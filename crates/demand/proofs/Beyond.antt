-- No length above the horizon is worse: what is asked within a length and a horizon more is at most what is asked within each of the two.

use Rattle.std.proofs.Common.{◌≡◌, ℕ, zero, suc, ◌+◌, ◌-◌, ◌*◌, ◌/◌, ◌%◌, ◌<◌, ◌≤◌, Bool, true, false, not, ◌&&◌, ◌||◌, int_lt, nat_lt, pos, ◌-ℤ◌, min, Some, None, Option, sym, refl, ap, ◌∙◌, subst, ⊎_elim, mul-le-mul_right, suc-mul, add-mul, one-mul, zero-add, zero-mul, arith}
use native.Mathlib.Nat.{mod-add-div'}
use Rattle.std.proofs.lemmas.Bool.{false≢true, cases_lt, le-ltb, lt-ltb}
use Rattle.std.proofs.lemmas.Int.{ints}
use Rattle.stream.specs.Limits.{Within}
use Rattle.stream.specs.declared.Class.{Class}
use Rattle.stream.specs.declared.Class.TheVariants.{Critical, Background}
use Rattle.stream.specs.declared.Phase.{Phase}
use Rattle.stream.specs.declared.Phase.TheVariants.{Normal, Overrun}
use Rattle.stream.specs.declared.Point.{Point}
use Rattle.stream.specs.declared.Row.{Row}
use Rattle.stream.specs.declared.limits.Record.{Record}
use Rattle.stream.specs.declared.Verdict.{Verdict}
use Rattle.bank.specs.Ceilings.{back, Ceiling}
use Rattle.bank.specs.Kinds.{Kind}
use Rattle.bank.proofs.Backs.{back_before, back_after}
use Rattle.least.specs.Orders.{point_below}
use Rattle.least.specs.Rankings.{ranks_points}
use Rattle.demand.specs.Demands.{share, asks, demand, Fits, Feasible}
use Rattle.demand.specs.Horizons.{Common}
use Rattle.demand.specs.Shares.{normal_share, greatest, slack, carrying, if_critical, overrun_share}
use Rattle.demand.specs.Verdicts.{point_at, Nearest, Accepts, AcceptsAll}
use Rattle.demand.proofs.Plateaus.{greatest_bounded, greatest_reaches}
use Rattle.demand.proofs.Totals.{total_adds}
use Rattle.demand.proofs.Widths.{short_fits}

module _ {r : Row} {k : ℕ} {N : ℕ → ℕ} (law : Ceiling r k N) where
  back_moved : (t v : ℕ) → v ≤ r.deadline → back N (t + (r.deadline - v)) r.deadline ≡ back N t v
  back_moved t v h =
      ⊎_elim
      (λ (early : t < v). back_before N (t + (r.deadline - v)) r.deadline (omega arith) ∙ sym (back_before N t v early))
      (λ (late : v ≤ t).
      let same : t + (r.deadline - v) - r.deadline ≡ t - v = omega arith in
      back_after N (t + (r.deadline - v)) r.deadline (omega arith) ∙ ap N same ∙ sym (back_after N t v late))
      (cases_lt t v)

  gap_later : (t v : ℕ) → v ≤ r.deadline → back N (t + r.gap) v ≡ back N t v + k
  gap_later t v h =
      let same : t + r.gap + (r.deadline - v) ≡ t + (r.deadline - v) + r.gap = omega arith in
      sym (back_moved (t + r.gap) v h) ∙ ap (λ (x : ℕ). back N x r.deadline) same ∙ law.repeats (t + (r.deadline - v)) ∙ ap (λ (x : ℕ). x + k) (back_moved t v h)

  -- q gaps later a ceiling has grown by q k, also from below 0 as far as the deadline goes back
  pub gaps_later : (q t v : ℕ) → v ≤ r.deadline → back N (t + q * r.gap) v ≡ back N t v + q * k
  gaps_later zero t v h =
      let here : t + 0 * r.gap ≡ t = omega (arith, zero-mul r.gap) in
      ap (λ (x : ℕ). back N x v) here ∙ omega (arith, zero-mul k)
  gaps_later (suc q) t v h =
      let there : t + suc q * r.gap ≡ t + q * r.gap + r.gap = omega (arith, suc-mul q r.gap) in
      let rest = gaps_later q t v h in
      let next = gap_later (t + q * r.gap) v h in
      ap (λ (x : ℕ). back N x v) there ∙ omega (arith, suc-mul q k)

  pub gaps_whole : (q v : ℕ) → 1 ≤ v → v ≤ r.deadline → back N (q * r.gap) v ≡ q * k
  gaps_whole q v some h =
      ap (λ (x : ℕ). back N x v) (sym (zero-add (q * r.gap))) ∙ gaps_later q 0 v h ∙ omega (arith, back_before N 0 v some)

-- the worst n is no better than any other, and what bounds each n bounds the share
pub share_reaches : (r : Row) (N : ℕ → ℕ) (t n : ℕ) → r.class ≡ Critical → slack r ≤ n → n ≤ t → n ≤ r.deadline → carrying r N t n ≤ overrun_share r N t
unfolding overrun_share
share_reaches r N t n critical from upto within =
    let count : ℕ = min t r.deadline + 1 - slack r in
    let is : if_critical r.class (greatest (carrying r N t) (slack r) count) ≡ greatest (carrying r N t) (slack r) count = ap (λ (c : Class). if_critical c (greatest (carrying r N t) (slack r) count)) critical in
    let at : slack r + (n - slack r) ≡ n = omega arith in
    omega (arith, greatest_reaches (carrying r N t) (slack r) count (n - slack r) (omega arith), ap (carrying r N t) at)

pub share_bounded : (r : Row) (N : ℕ → ℕ) (t x : ℕ) → (r.class ≡ Critical → (n : ℕ) → slack r ≤ n → n ≤ t → n ≤ r.deadline → carrying r N t n ≤ x) → overrun_share r N t ≤ x
unfolding overrun_share
share_bounded r N t x h = by_class r.class refl
  where
    by_class : (c : Class) → r.class ≡ c → if_critical c (greatest (carrying r N t) (slack r) (min t r.deadline + 1 - slack r)) ≤ x
    by_class Background e = omega arith
    by_class Critical e = greatest_bounded (carrying r N t) (slack r) (min t r.deadline + 1 - slack r) x (λ j l. h e (slack r + j) (omega arith) (omega arith) (omega arith))

module _ (r : Row) (k : ℕ) (N : ℕ → ℕ) (w : Within r) (law : Ceiling r k N) where
  normal_adds : (q t : ℕ) → normal_share r N (t + q * r.gap) ≤ normal_share r N t + normal_share r N (q * r.gap)
  unfolding normal_share
  normal_adds q t =
      let short = short_fits w in
      let c : ℕ = r.budget in
      let later = ap (λ (n : ℕ). n * c) (gaps_later law q t r.short short.1) ∙ add-mul (back N t r.short) (q * k) c in
      let whole = ap (λ (n : ℕ). n * c) (gaps_whole law q r.short short.0 short.1) in
      omega (arith, later, whole)

  -- a job that the overrun finds with its whole deadline left has nothing deducted
  whole_gaps : (q : ℕ) → r.class ≡ Critical → 1 ≤ q → q * k * r.certain ≤ overrun_share r N (q * r.gap)
  unfolding carrying
  whole_gaps q critical some =
      let deadline = w.1 in
      let short = w.3.0 critical in
      let late : r.deadline ≤ q * r.gap = (let up = mul-le-mul_right r.gap some in omega (arith, one-mul r.gap)) in
      let level : N (q * r.gap - r.deadline) ≡ q * k = sym (back_after N (q * r.gap) r.deadline late) ∙ gaps_whole law q r.deadline deadline.0 (omega arith) in
      let product = ap (λ (n : ℕ). n * r.certain) level in
      omega (arith, share_reaches r N (q * r.gap) r.deadline critical (omega arith) late (omega arith))

  overrun_adds : (q t : ℕ) → 1 ≤ q → overrun_share r N (t + q * r.gap) ≤ overrun_share r N t + overrun_share r N (q * r.gap)
  unfolding carrying
  overrun_adds q t some = share_bounded r N (t + q * r.gap) (overrun_share r N t + overrun_share r N (q * r.gap)) each
    where
      each : r.class ≡ Critical → (n : ℕ) → slack r ≤ n → n ≤ t + q * r.gap → n ≤ r.deadline → carrying r N (t + q * r.gap) n ≤ overrun_share r N t + overrun_share r N (q * r.gap)
      each critical n from upto within =
          let C : ℕ = r.certain in
          let whole = whole_gaps q critical some in
          let grown : N (t + q * r.gap - n) ≡ back N t n + q * k = sym (back_after N (t + q * r.gap) n upto) ∙ gaps_later law q t n within in
          let product : N (t + q * r.gap - n) * C ≡ back N t n * C + q * k * C = ap (λ (x : ℕ). x * C) grown ∙ add-mul (back N t n) (q * k) C in
          ⊎_elim
          (λ (early : t < n).
          let none : back N t n * C ≡ 0 = ap (λ (x : ℕ). x * C) (back_before N t n early) ∙ zero-mul C in
          omega arith)
          (λ (late : n ≤ t).
          let same : back N t n * C ≡ N (t - n) * C = ap (λ (x : ℕ). x * C) (back_after N t n late) in
          omega (arith, share_reaches r N t n critical from late within))
          (cases_lt t n)

module _ {S : Type 0} (k : Kind S) (b : S) (ceilings : (i : ℕ) (r : Record) → k.records b i ≡ Some r → Ceiling r.row (k.count b i) (k.ceiling b i)) (h : ℕ) (common : Common k b h) where
  asks_add : (p : Phase) (t i : ℕ) → asks k b p (t + h) i ≤ asks k b p t i + asks k b p h i
  asks_add p t i = by_record (k.records b i) refl p
    where
      by_record : (o : Option Record) → k.records b i ≡ o → (p : Phase) → share o p (k.ceiling b i) (t + h) ≤ share o p (k.ceiling b i) t + share o p (k.ceiling b i) h
      by_record None e p = omega arith
      by_record (Some r) e p =
          let N : ℕ → ℕ = k.ceiling b i in
          let T : ℕ = r.row.gap in
          let law = ceilings i r e in
          let is : h / T * T ≡ h = omega (arith, mod-add-div' h T, common.divided i r e) in
          let some : 1 ≤ h / T =
          ⊎_elim
          (λ (none : h / T < 1). let z : h / T * T ≡ 0 = (let q : h / T ≡ 0 = omega arith in ap (λ (x : ℕ). x * T) q ∙ zero-mul T) in let f : ⊥ = omega (arith, common.some) in absurd f)
          (λ (once : 1 ≤ h / T). once)
          (cases_lt (h / T) 1) in
          let Adds : ℕ → Type 0 = λ x. share (Some r) p N (t + x) ≤ share (Some r) p N t + share (Some r) p N x in
          subst Adds is (elim p as (λ v. share (Some r) v N (t + h / T * T) ≤ share (Some r) v N t + share (Some r) v N (h / T * T)) [
            | Normal ↦ normal_adds r.row (k.count b i) N r.within law (h / T) t
            | Overrun ↦ overrun_adds r.row (k.count b i) N r.within law (h / T) t some
          ])

  demand_adds : (p : Phase) (t : ℕ) → demand k b p (t + h) ≤ demand k b p t + demand k b p h
  demand_adds p t = total_adds (k.streams b) (asks k b p (t + h)) (asks k b p t) (asks k b p h) (asks_add p t)

  fits_add : (t : ℕ) → Fits k b t → Fits k b h → Fits k b (t + h)
  fits_add t (n, o) (nh, oh) = (omega (arith, demand_adds Normal t), omega (arith, demand_adds Overrun t))

  fits_turns : ((t : ℕ) → t ≤ h → Fits k b t) → (j t : ℕ) → t ≤ h → Fits k b (t + j * h)
  fits_turns fits zero t l =
      let here : t ≡ t + 0 * h = omega (arith, zero-mul h) in
      subst (λ (x : ℕ). Fits k b x) here (fits t l)
  fits_turns fits (suc j) t l =
      let there : t + j * h + h ≡ t + suc j * h = omega (arith, suc-mul j h) in
      subst (λ (x : ℕ). Fits k b x) there (fits_add (t + j * h) (fits_turns fits j t l) (fits h (omega arith)))

  -- where every length up to a common multiple of the gaps fits, every length fits
  pub fits_beyond : ((t : ℕ) → t ≤ h → Fits k b t) → Feasible k b
  fits_beyond fits t =
      let some = common.some in
      subst (λ (x : ℕ). Fits k b x) (mod-add-div' t h) (fits_turns fits (t / h) (t % h) (omega arith))

  -- a length above the horizon has no less margin than the horizon
  later_margin : (p : Phase) (t : ℕ) → h < t → Fits k b (t - h) → int_lt (pos t -ℤ pos (demand k b p t)) (pos h -ℤ pos (demand k b p h)) ≡ false
  later_margin p t later fits =
      let at : t - h + h ≡ t = omega arith in
      let adds : demand k b p t ≤ demand k b p (t - h) + demand k b p h = subst (λ (x : ℕ). demand k b p x ≤ demand k b p (t - h) + demand k b p h) at (demand_adds p (t - h)) in
      let within : demand k b p (t - h) ≤ t - h = elim p as (λ v. demand k b v (t - h) ≤ t - h) [ Normal ↦ fits.0 | Overrun ↦ fits.1 ] in
      grind (arith, ints)

  later_not_below : (p : Phase) (t : ℕ) → h < t → Fits k b (t - h) → point_below (point_at k b p t) (point_at k b p h) ≡ false
  later_not_below p t later fits =
      by_order _ (int_lt (pos h -ℤ pos (demand k b p h)) (pos t -ℤ pos (demand k b p t))) (nat_lt t h) (nat_lt h t) _
      (later_margin p t later fits) (le-ltb t h (omega arith)) (lt-ltb h t later)
    where
      by_order : (below above shorter longer staged : Bool) → below ≡ false → shorter ≡ false → longer ≡ true → (below || (not above && (shorter || (not longer && staged)))) ≡ false
      by_order true above shorter longer staged e f g = e
      by_order false true shorter longer staged e f g = refl
      by_order false false true longer staged e f g = f
      by_order false false false true staged e f g = refl
      by_order false false false false staged e f g = absurd (false≢true g)

  -- so no length at all is nearer to failing than the nearest up to the horizon
  nearest_of_all : (point : Point) → Nearest k b h point → Feasible k b → (p : Phase) (t : ℕ) → 1 ≤ t → point_below (point_at k b p t) point ≡ false
  nearest_of_all point nearest feasible p t some =
      ⊎_elim
      (λ (later : h < t).
      ranks_points.chain (point_at k b p t) (point_at k b p h) point (later_not_below p t later (feasible (t - h))) (nearest.least p h common.some (omega arith)))
      (λ (within : t ≤ h). nearest.least p t some within)
      (cases_lt h t)

-- what was seen up to the horizon holds of every length
pub accepts_all : {S : Type 0} (k : Kind S) (b : S) → ((i : ℕ) (r : Record) → k.records b i ≡ Some r → Ceiling r.row (k.count b i) (k.ceiling b i)) → (v : Verdict) → Accepts k b v → AcceptsAll k b v
accepts_all k b ceilings v looked =
    let common = looked.reach.horizon.common in
    let feasible = fits_beyond k b ceilings v.horizon common looked.fits in
    record { looked = looked; feasible = feasible; none_nearer = nearest_of_all k b ceilings v.horizon common v.point looked.nearest feasible }
