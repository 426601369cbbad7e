-- Sums over streams, compared stream by stream.

use Rattle.std.proofs.Common.{◌≡◌, ℕ, zero, suc, ◌+◌, ◌<◌, ◌≤◌, refl, ap, ⊎_elim, arith}
use Rattle.std.proofs.lemmas.Bool.{cases_eq}
use Rattle.demand.specs.Demands.{total}

pub total_le : (n : ℕ) (f g : ℕ → ℕ) → ((i : ℕ) → 1 ≤ i → i ≤ n → f i ≤ g i) → total n f ≤ total n g
unfolding total
total_le zero f g h = omega arith
total_le (suc n) f g h =
    let rest = total_le n f g (λ i p q. h i p (omega arith)) in
    let last = h (n + 1) (omega arith) (omega arith) in
    omega arith

-- where one term is less, the sum is
pub total_lt : (n : ℕ) (f g : ℕ → ℕ) (j : ℕ) → 1 ≤ j → j ≤ n → f j < g j → ((i : ℕ) → 1 ≤ i → i ≤ n → f i ≤ g i) → total n f < total n g
unfolding total
total_lt zero f g j some in_range less h = let z : ⊥ = omega arith in absurd z
total_lt (suc n) f g j some in_range less h =
    ⊎_elim
    (λ (e : j ≡ n + 1).
    let rest = total_le n f g (λ i p q. h i p (omega arith)) in
    omega (arith, ap f e, ap g e))
    (λ (ne : j ≡ n + 1 → ⊥).
    let rest = total_lt n f g j some (omega (arith, ne)) less (λ i p q. h i p (omega arith)) in
    let last = h (n + 1) (omega arith) (omega arith) in
    omega arith)
    (cases_eq j (n + 1))

pub total_zero : (n : ℕ) → total n (λ _. 0) ≡ 0
unfolding total
total_zero zero = refl
total_zero (suc n) = let rest = total_zero n in omega arith

-- a term is at most the sum
pub total_term : (n : ℕ) (f : ℕ → ℕ) (j : ℕ) → 1 ≤ j → j ≤ n → f j ≤ total n f
unfolding total
total_term zero f j some in_range = let z : ⊥ = omega arith in absurd z
total_term (suc n) f j some in_range =
    ⊎_elim
    (λ (e : j ≡ n + 1). omega (arith, ap f e))
    (λ (ne : j ≡ n + 1 → ⊥). let rest = total_term n f j some (omega (arith, ne)) in omega arith)
    (cases_eq j (n + 1))
