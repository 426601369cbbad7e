-- Sums and counts over lists: term by term, and stream by stream.

use Rattle.std.proofs.Common.{◌≡◌, ℕ, zero, suc, ◌+◌, ◌-◌, ◌≤◌, Bool, true, false, cond, ◌&&◌, eqb, List, [], ◌∷◌, map, length, get_or, take, sum_by, count_by, sym, refl, ap, ◌∙◌, ⊎_elim, add-one, arith}
use Rattle.std.proofs.lemmas.List.{take_all}
use Rattle.std.proofs.lemmas.List.Sums.{sum_by-cons, sum_by_more}
use Rattle.std.proofs.lemmas.Bool.{cases_eq, cond_both, eq-eqb, ne_eqb}
use Rattle.std.specs.List.{AllByRecursion}
use Rattle.demand.specs.Demands.{total}
use Rattle.turns.proofs.Sums.{total_zero}

pub sum_map : {X Y : Type 0} (f : X → Y) (g : Y → ℕ) (h : X → ℕ) → ((x : X) → g (f x) ≡ h x) → (xs : List X) → sum_by g (map f xs) ≡ sum_by h xs
sum_map f g h same [] = refl
sum_map f g h same (x ∷ xs) =
    let one = same x in
    let rest = sum_map f g h same xs in
    omega (arith, sum_by-cons g (f x) (map f xs), sum_by-cons h x xs)

pub sum_plus : {X : Type 0} (h a b : X → ℕ) → ((x : X) → h x ≡ a x + b x) → (xs : List X) → sum_by h xs ≡ sum_by a xs + sum_by b xs
sum_plus h a b parts [] = refl
sum_plus h a b parts (x ∷ xs) =
    let one = parts x in
    let rest = sum_plus h a b parts xs in
    omega (arith, sum_by-cons h x xs, sum_by-cons a x xs, sum_by-cons b x xs)

pub sum_same : {X : Type 0} (g h : X → ℕ) → ((x : X) → g x ≡ h x) → (xs : List X) → sum_by g xs ≡ sum_by h xs
sum_same g h same [] = refl
sum_same g h same (x ∷ xs) =
    let one = same x in
    let rest = sum_same g h same xs in
    omega (arith, sum_by-cons g x xs, sum_by-cons h x xs)

pub sum_none : {X : Type 0} (h : X → ℕ) → ((x : X) → h x ≡ 0) → (xs : List X) → sum_by h xs ≡ 0
sum_none h none [] = refl
sum_none h none (x ∷ xs) =
    let here = none x in
    let rest = sum_none h none xs in
    omega (arith, sum_by-cons h x xs)

pub sum_ones : {X : Type 0} (h : X → ℕ) → ((x : X) → h x ≡ 1) → (xs : List X) → sum_by h xs ≡ length xs
sum_ones h one [] = refl
sum_ones h one (x ∷ xs) =
    let here = one x in
    let rest = sum_ones h one xs in
    omega (arith, sum_by-cons h x xs)

pub total_same : (n : ℕ) (f g : ℕ → ℕ) → ((i : ℕ) → 1 ≤ i → i ≤ n → f i ≡ g i) → total n f ≡ total n g
unfolding total
total_same zero f g h = refl
total_same (suc n) f g h =
    let rest = total_same n f g (λ i p q. h i p (omega arith)) in
    let last = h (n + 1) (omega arith) (omega arith) in
    omega arith

pub total_plus : (n : ℕ) (f g h : ℕ → ℕ) → ((i : ℕ) → 1 ≤ i → i ≤ n → h i ≡ f i + g i) → total n h ≡ total n f + total n g
unfolding total
total_plus zero f g h parts = refl
total_plus (suc n) f g h parts =
    let rest = total_plus n f g h (λ i p q. parts i p (omega arith)) in
    let last = parts (n + 1) (omega arith) (omega arith) in
    omega arith

-- a sum with a single term that is not 0
pub total_single : (n j : ℕ) (f : ℕ → ℕ) → 1 ≤ j → j ≤ n → ((i : ℕ) → (i ≡ j → ⊥) → f i ≡ 0) → total n f ≡ f j
unfolding total
total_single zero j f some in_range none = let z : ⊥ = omega arith in absurd z
total_single (suc n) j f some in_range none =
    ⊎_elim
    (λ (e : j ≡ n + 1).
    let rest : total n f ≡ 0 = total_same n f (λ _. 0) (λ i p q. none i (λ z. let v : ⊥ = omega arith in v)) ∙ total_zero n in
    omega (arith, ap f e))
    (λ (ne : j ≡ n + 1 → ⊥).
    let rest = total_single n j f some (omega (arith, ne)) none in
    let last = none (n + 1) (λ z. ne (sym z)) in
    omega arith)
    (cases_eq j (n + 1))

-- a list summed by the numbers of its places
sum_taken : {X : Type 0} (g : X → ℕ) (d : X) (xs : List X) (n : ℕ) → n ≤ length xs → sum_by g (take n xs) ≡ total n (λ i. g (get_or xs (i - 1) d))
unfolding total
sum_taken g d xs zero h = refl
sum_taken {X} g d xs (suc n) h =
    let rest = sum_taken g d xs n (omega arith) in
    let more = sum_by_more g xs n d (omega arith) in
    let at : n + 1 - 1 ≡ n = omega arith in
    let next : sum_by g (take (n + 1) xs) ≡ sum_by g (take (suc n) xs) = ap (λ (m : ℕ). sum_by g (take m xs)) (add-one n) in
    omega (arith, ap (λ (m : ℕ). g (get_or xs m d)) at)

pub sum_places : {X : Type 0} (g : X → ℕ) (d : X) (n : ℕ) (xs : List X) → length xs ≡ n → sum_by g xs ≡ total n (λ i. g (get_or xs (i - 1) d))
sum_places {X} g d n xs room = sym (ap (λ (ys : List X). sum_by g ys) (take_all n xs (omega arith))) ∙ sum_taken g d xs n (omega arith)

-- Counting by number: elements that pass, each with a number from 1 to n, are as many as those with number 1, those with number 2, and so on.
abbrev pub one_if : Bool → ℕ
one_if b = cond b 1 0

pub count_numbers : {X : Type 0} (test : X → Bool) (number : X → ℕ) (q : ℕ → Bool) (n : ℕ) (xs : List X) → AllByRecursion (λ x. (1 ≤ number x) × (number x ≤ n)) xs → count_by (λ x. test x && q (number x)) xs ≡ total n (λ i. cond (q i) (count_by (λ x. test x && eqb (number x) i) xs) 0)
count_numbers {X} test number q n [] h = sym (total_same n (λ i. cond (q i) 0 0) (λ _. 0) (λ i _ _. cond_both (q i) 0 0 (λ z. z ≡ 0) (λ _. refl) (λ _. refl)) ∙ total_zero n)
count_numbers {X} test number q n (x ∷ xs) h =
    let rest = count_numbers test number q n xs h.1 in
    let first : total n (λ i. cond (q i) (one_if (test x && eqb (number x) i)) 0) ≡ one_if (test x && q (number x)) =
    total_single n (number x) (λ i. cond (q i) (one_if (test x && eqb (number x) i)) 0) h.0.0 h.0.1 (λ i ne. other (test x) i (q i) (eqb (number x) i) (ne_eqb (number x) i (λ e. ne (sym e))))
    ∙ same (test x) (q (number x)) (eqb (number x) (number x)) (eq-eqb (number x) (number x) refl) in
    let both = total_plus n (λ i. cond (q i) (one_if (test x && eqb (number x) i)) 0) (λ i. cond (q i) (count_by (λ y. test y && eqb (number y) i) xs) 0) (λ i. cond (q i) (count_by (λ y. test y && eqb (number y) i) (x ∷ xs)) 0)
    (λ i _ _. parts (q i) (one_if (test x && eqb (number x) i)) (count_by (λ y. test y && eqb (number y) i) xs) (count_by (λ y. test y && eqb (number y) i) (x ∷ xs)) (sum_by-cons (λ y. one_if (test y && eqb (number y) i)) x xs)) in
    omega (arith, sum_by-cons (λ y. one_if (test y && q (number y))) x xs)
  where
    other : (t : Bool) (i : ℕ) (b c : Bool) → c ≡ false → cond b (one_if (t && c)) 0 ≡ 0
    other true i true c e = ap one_if e
    other true i false c e = refl
    other false i true c e = refl
    other false i false c e = refl

    same : (t b c : Bool) → c ≡ true → cond b (one_if (t && c)) 0 ≡ one_if (t && b)
    same true true c e = ap one_if e
    same true false c e = refl
    same false true c e = refl
    same false false c e = refl

    parts : (b : Bool) (u v w : ℕ) → w ≡ u + v → cond b w 0 ≡ cond b u 0 + cond b v 0
    parts true u v w e = e
    parts false u v w e = refl
