-- The orders of points and of pairs rank their items, and items that tie are equal.

use Rattle.std.specs.Prelude.{◌≡◌, ℕ, Bool, true, false, not, ◌&&◌, ◌||◌, ltb, ℤ, int_lt, nat_lt, refl}
use Rattle.std.proofs.Common.{arith, sym}
use Rattle.std.proofs.lemmas.List.MinMax.{IsStrictWeakOrder-by_number}
use Rattle.std.proofs.lemmas.Int.{ints}
use Rattle.std.proofs.lemmas.Bool.Decides.{nat_tests}
use Rattle.std.specs.Cmp.{IsStrictWeakOrder}
use Rattle.stream.specs.declared.Phase.{Phase}
use Rattle.stream.specs.declared.Phase.TheVariants.{Normal, Overrun}
use Rattle.stream.specs.declared.Point.{Point}
use Rattle.least.specs.Orders.{lexical, stage, by_margin, by_length, by_phase, point_below, pair_below}

-- What two orders tell together, over their answers: f and s of x before y, g and t of y before x.

before_one_way : (f g s t : Bool) → (f ≡ true → g ≡ false) → (s ≡ true → t ≡ false) → (f || (not g && s)) ≡ true → (g || (not f && t)) ≡ false
before_one_way true true s t p q e = p refl
before_one_way true false s t p q e = refl
before_one_way false true s t p q e = sym e
before_one_way false false s t p q e = q e

first_not_before : (f g s : Bool) → (f || (not g && s)) ≡ false → f ≡ false
first_not_before true g s e = e
first_not_before false g s e = refl

second_not_before : (f g s : Bool) → (f || (not g && s)) ≡ false → g ≡ false → s ≡ false
second_not_before true g s e h = cc
second_not_before false true s e h = cc
second_not_before false false s e h = e

neither_before : (f g s : Bool) → f ≡ false → (g ≡ false → s ≡ false) → (f || (not g && s)) ≡ false
neither_before true g s e h = e
neither_before false true s e h = refl
neither_before false false s e h = h refl

pub ranks_lexical : {X : Type 0} (first second : X → X → Bool) → IsStrictWeakOrder first → IsStrictWeakOrder second → IsStrictWeakOrder (lexical first second)
ranks_lexical first second f s = record {
  one_way = λ x y. before_one_way (first x y) (first y x) (second x y) (second y x) (f.one_way x y) (s.one_way x y);
  chain = λ x y z p q.
      let xy = first_not_before (first x y) (first y x) (second x y) p in
      let yz = first_not_before (first y z) (first z y) (second y z) q in
      neither_before (first x z) (first z x) (second x z) (f.chain x y z xy yz)
      (λ zx.
      s.chain x y z
      (second_not_before (first x y) (first y x) (second x y) p (f.chain y z x yz zx))
      (second_not_before (first y z) (first z y) (second y z) q (f.chain z x y zx xy)));
}

-- items that tie, tie by both orders
pub lexical_tied : {X : Type 0} (first second : X → X → Bool) (x y : X) → lexical first second x y ≡ false → lexical first second y x ≡ false → (first x y ≡ false) × (first y x ≡ false) × (second x y ≡ false) × (second y x ≡ false)
lexical_tied first second x y p q =
    let xy = first_not_before (first x y) (first y x) (second x y) p in
    let yx = first_not_before (first y x) (first x y) (second y x) q in
    (xy, yx, second_not_before (first x y) (first y x) (second x y) p yx, second_not_before (first y x) (first x y) (second y x) q xy)

ranks_by_signed : {X : Type 0} (key : X → ℤ) → IsStrictWeakOrder (λ x y. int_lt (key x) (key y))
ranks_by_signed key = record { one_way = λ x y e. grind (arith, ints); chain = λ x y z p q. grind (arith, ints) }

signed_tied : (a b : ℤ) → int_lt a b ≡ false → int_lt b a ≡ false → a ≡ b
signed_tied a b p q = omega (arith, ints)

unsigned_tied : (a b : ℕ) → nat_lt a b ≡ false → nat_lt b a ≡ false → a ≡ b
unsigned_tied a b p q = grind (arith, nat_tests)

phases_tied : (a b : Phase) → nat_lt (stage a) (stage b) ≡ false → nat_lt (stage b) (stage a) ≡ false → a ≡ b
phases_tied Normal Normal p q = refl
phases_tied Normal Overrun p q = cc
phases_tied Overrun Normal p q = cc
phases_tied Overrun Overrun p q = refl

same_points : (p q : Point) → p.phase ≡ q.phase → p.length ≡ q.length → p.margin ≡ q.margin → p ≡ q
same_points p q a b c =
    let point : Phase → ℕ → ℤ → Point = λ x y z. record { phase = x; length = y; margin = z } in
    let same : point p.phase p.length p.margin ≡ point q.phase q.length q.margin = cc in
    same

pub ranks_points : IsStrictWeakOrder point_below
ranks_points =
    ranks_lexical by_margin (lexical by_length by_phase) (ranks_by_signed (λ p. p.margin))
    (ranks_lexical by_length by_phase (IsStrictWeakOrder-by_number (λ p. p.length)) (IsStrictWeakOrder-by_number (λ p. stage p.phase)))

-- points of which neither comes first are one point
pub points_tied : (p q : Point) → point_below p q ≡ false → point_below q p ≡ false → p ≡ q
points_tied p q there back =
    let m = lexical_tied by_margin (lexical by_length by_phase) p q there back in
    let l = lexical_tied by_length by_phase p q m.2 m.3 in
    same_points p q (phases_tied p.phase q.phase l.2 l.3) (unsigned_tied p.length q.length l.0 l.1) (signed_tied p.margin q.margin m.0 m.1)

pub ranks_pairs : IsStrictWeakOrder pair_below
ranks_pairs = ranks_lexical (λ p q. ltb p.0 q.0) (λ p q. ltb p.1 q.1) (IsStrictWeakOrder-by_number (λ p. p.0)) (IsStrictWeakOrder-by_number (λ p. p.1))

-- and so of pairs
pub pairs_tied : (p q : ℕ × ℕ) → pair_below p q ≡ false → pair_below q p ≡ false → p ≡ q
pairs_tied (a, b) (c, d) there back =
    let l = lexical_tied (λ (p q : ℕ × ℕ). ltb p.0 q.0) (λ p q. ltb p.1 q.1) (a, b) (c, d) there back in
    let e = unsigned_tied a c l.0 l.1 in
    let f = unsigned_tied b d l.2 l.3 in
    cc
