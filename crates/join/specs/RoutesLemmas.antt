-- Which numbers are routed where.

use Rattle.std.specs.Prelude.{ℕ, ◌-◌, ◌<◌, ◌≤◌, cond, nat_le, Some, None, Option}
use Rattle.std.proofs.lemmas.Bool.{leb-true, leb-false, cond_both}
use Rattle.join.specs.Routes.{Part, route}
use Rattle.either.specs.declared.Either.TheVariants.{Left, Right}

pub data Routed (before i : ℕ) : Option Part → Type 0 where
  in_left : i ≤ before → Routed before i (Some (Left i))
  in_right : before < i → i ≤ 33 → Routed before i (Some (Right (i - before)))
  past : before < i → 33 < i → Routed before i None

pub where_routed : (before i : ℕ) → Routed before i (route before i)
where_routed before i =
    cond_both (nat_le i before) (Some (Left i)) (cond (nat_le i 33) (Some (Right (i - before))) None) (Routed before i)
    (λ e. in_left (leb-true i before e))
    (λ e. cond_both (nat_le i 33) (Some (Right (i - before))) None (Routed before i)
    (λ f. in_right (leb-false i before e) (leb-true i 33 f))
    (λ f. past (leb-false i before e) (leb-false i 33 f)))
