-- The nearest point of the lengths so far, and one length more.

use Rattle.std.proofs.Common.{◌≡◌, ℕ, ◌+◌, ◌-◌, ◌<◌, ◌≤◌, Bool, true, false, not, ◌&&◌, ◌||◌, List, [], ◌∷◌, length, get_or, Some, None, Option, sym, refl, ap, ◌∙◌, subst, ⊎_elim, arith}
use lib.Signed.{lt_z}
use Rattle.std.proofs.lemmas.Bool.{cases_eq, cases_lt}
use Rattle.std.proofs.ByRecursion.{All-get_or}
use Rattle.stream.specs.declared.Phase.{Phase}
use Rattle.stream.specs.declared.Phase.TheVariants.{Normal, Overrun}
use Rattle.stream.specs.declared.Point.{Point}
use Rattle.bank.specs.Kinds.{Kind}
use Rattle.least.specs.Firsts.{FirstLeast}
use Rattle.least.specs.Orders.{lexical, by_margin, by_length, by_phase, point_below}
use Rattle.least.specs.Rankings.{ranks_points}
use Rattle.demand.specs.Verdicts.{point_at, Nearest, candidates}

-- the nearest point of lengths 1 to t, if there is one
abbrev pub NearestSoFar : {S : Type 0} → Kind S → S → ℕ → Option Point → Type 0
NearestSoFar k b t None = t ≡ 0
NearestSoFar k b t (Some point) = Nearest k b t point

-- a point of a length from 1 to t
pub record Point_upto {S : Type 0} (k : Kind S) (b : S) (t : ℕ) (p : Point) : Type 0 where
  pub from : 1 ≤ p.length
  pub upto : p.length ≤ t
  pub is : p ≡ point_at k b p.phase p.length

newest : {S : Type 0} (k : Kind S) (b : S) (t : ℕ) (phase : Phase) (p : Point) → p ≡ point_at k b phase (t + 1) → Point_upto k b (t + 1) p
newest k b t phase p e =
    let P : Point → Type 0 = λ q. Point_upto k b (t + 1) q in
    subst P (sym e) (record { from = omega arith; upto = omega arith; is = refl })

-- each point of the new length is one of the two that are new
of_new_length : {S : Type 0} (k : Kind S) (b : S) (t : ℕ) (n o p : Point) → n ≡ point_at k b Normal (t + 1) → o ≡ point_at k b Overrun (t + 1) → point_below n p ≡ false → point_below o p ≡ false → (phase : Phase) → point_below (point_at k b phase (t + 1)) p ≡ false
of_new_length k b t n o p en eo hn ho Normal = subst (λ (q : Point). point_below q p ≡ false) en hn
of_new_length k b t n o p en eo hn ho Overrun = subst (λ (q : Point). point_below q p ≡ false) eo ho

-- the least of the candidates is the nearest of all, where no old point is below it
chosen : {S : Type 0} (k : Kind S) (b : S) (t : ℕ) (n o p : Point) → n ≡ point_at k b Normal (t + 1) → o ≡ point_at k b Overrun (t + 1) → point_below n p ≡ false → point_below o p ≡ false → Point_upto k b (t + 1) p → ((phase : Phase) (s : ℕ) → 1 ≤ s → s ≤ t → point_below (point_at k b phase s) p ≡ false) → Nearest k b (t + 1) p
chosen k b t n o p en eo hn ho good old = record {
  from = good.from;
  upto = good.upto;
  is = good.is;
  least = λ phase s some upto.
      ⊎_elim
      (λ (early : s < t + 1). old phase s some (omega arith))
      (λ (late : t + 1 ≤ s). let e : t + 1 ≡ s = omega arith in subst (λ (x : ℕ). point_below (point_at k b phase x) p ≡ false) e (of_new_length k b t n o p en eo hn ho phase))
      (cases_lt s (t + 1));
}

-- where the least item stands, no item is below it
none_below : (items : List Point) (p : Point) → (l : FirstLeast point_below items (Some p)) → (i : ℕ) → i < length items → point_below (get_or items i p) p ≡ false
none_below items p l i h = subst (λ (q : Point). point_below (get_or items i p) q ≡ false) (sym l.2) (l.1.1 i p h)

not_both : (x : Bool) → (x ≡ true → x ≡ false) → x ≡ false
not_both true h = h refl
not_both false h = refl

or_left : (x y : Bool) → x ≡ true → (x || y) ≡ true
or_left true y e = refl
or_left false y e = cc

margin_decides : (p q : Point) → lt_z p.margin q.margin ≡ true → point_below p q ≡ true
margin_decides p q h = or_left (by_margin p q) (not (by_margin q p) && lexical by_length by_phase p q) h

-- a point with a greater margin is not below
pub nearest_stays : (best n o : Point) → lt_z best.margin n.margin ≡ true → lt_z best.margin o.margin ≡ true → FirstLeast point_below (best ∷ (n ∷ (o ∷ []))) (Some best)
nearest_stays best n o hn ho =
    let items : List Point = best ∷ (n ∷ (o ∷ [])) in
    let self : point_below best best ≡ false = not_both (point_below best best) (ranks_points.one_way best best) in
    let first : point_below n best ≡ false = ranks_points.one_way best n (margin_decides best n hn) in
    let second : point_below o best ≡ false = ranks_points.one_way best o (margin_decides best o ho) in
    (0, (omega arith, λ i d h. All-get_or (λ (p : Point). point_below p best ≡ false) items i d h (self, (first, (second, tt))), λ i d h. let z : ⊥ = omega arith in absurd z), refl)

pub nearest_more : {S : Type 0} (k : Kind S) (b : S) (t : ℕ) (best : Option Point) (n o : Point) (r : Option Point) → n ≡ point_at k b Normal (t + 1) → o ≡ point_at k b Overrun (t + 1) → NearestSoFar k b t best → FirstLeast point_below (candidates best n o) r → NearestSoFar k b (t + 1) r
nearest_more k b t None n o None en eo near l = omega arith
nearest_more k b t (Some best) n o None en eo near l = omega arith
nearest_more k b t None n o (Some p) en eo near l =
    let P : Point → Type 0 = λ q. Point_upto k b (t + 1) q in
    let good : P p = subst P (sym l.2) (All-get_or P (n ∷ (o ∷ [])) l.0 p l.1.0 (newest k b t Normal n en, (newest k b t Overrun o eo, tt))) in
    chosen k b t n o p en eo (none_below (n ∷ (o ∷ [])) p l 0 (omega arith)) (none_below (n ∷ (o ∷ [])) p l 1 (omega arith)) good
    (λ phase s some upto. let z : ⊥ = omega arith in absurd z)
nearest_more k b t (Some best) n o (Some p) en eo near l =
    let P : Point → Type 0 = λ q. Point_upto k b (t + 1) q in
    let first : P best = record { from = near.from; upto = (let u = near.upto in omega arith); is = near.is } in
    let good : P p = subst P (sym l.2) (All-get_or P (best ∷ (n ∷ (o ∷ []))) l.0 p l.1.0 (first, (newest k b t Normal n en, (newest k b t Overrun o eo, tt)))) in
    let under = none_below (best ∷ (n ∷ (o ∷ []))) p l 0 (omega arith) in
    chosen k b t n o p en eo (none_below (best ∷ (n ∷ (o ∷ []))) p l 1 (omega arith)) (none_below (best ∷ (n ∷ (o ∷ []))) p l 2 (omega arith)) good
    (λ phase s some upto. ranks_points.chain (point_at k b phase s) best p (near.least phase s some upto) under)

-- the same, from the lengths below t to those up to t; length 0 adds nothing
pub nearest_upto : {S : Type 0} (k : Kind S) (b : S) (t u : ℕ) (best : Option Point) (n o : Point) (r : Option Point) → u ≡ t → n ≡ point_at k b Normal t → o ≡ point_at k b Overrun t → NearestSoFar k b (t - 1) best → (t ≡ 0 → r ≡ best) → (0 < t → FirstLeast point_below (candidates best n o) r) → NearestSoFar k b u r
nearest_upto k b t u best n o r same en eo near first later =
    ⊎_elim
    (λ (none : t ≡ 0).
    let here : t - 1 ≡ u = omega arith in
    subst (λ (x : ℕ). NearestSoFar k b x r) here (subst (λ (p : Option Point). NearestSoFar k b (t - 1) p) (sym (first none)) near))
    (λ (some : t ≡ 0 → ⊥).
    let here : t ≡ t - 1 + 1 = omega arith in
    let there : t - 1 + 1 ≡ u = omega arith in
    subst (λ (x : ℕ). NearestSoFar k b x r) there (nearest_more k b (t - 1) best n o r (en ∙ ap (point_at k b Normal) here) (eo ∙ ap (point_at k b Overrun) here) near (later (omega arith))))
    (cases_eq t 0)
