-- How far a margin can be from its length.

use Rattle.std.proofs.Common.{◌≡◌, ℕ, zero, suc, ◌+◌, ◌-◌, ◌*◌, ◌^◌, ◌<◌, ◌≤◌, Bool, true, false, cond, nat_lt, pos, negsuc, ◌-ℤ◌, Some, None, Option, refl, suc-mul, arith}
use Rattle.std.specs.Int.Signed.{mag}
use Rattle.stream.specs.Limits.{Within}
use Rattle.stream.specs.declared.Phase.{Phase}
use Rattle.stream.specs.declared.Phase.TheVariants.{Normal, Overrun}
use Rattle.stream.specs.declared.Row.{Row}
use Rattle.stream.specs.declared.limits.Record.{Record}
use Rattle.bank.specs.Ceilings.{Ceiling}
use Rattle.bank.specs.Kinds.{Kind}
use Rattle.bank.specs.Laws.{Laws}
use Rattle.demand.proofs.Beyond.{share_bounded}
use Rattle.demand.proofs.Widths.{product_fits, back_at_most, ceiling_at_most, budget_fits, certain_fits}
use Rattle.demand.specs.Demands.{total, share, asks, demand}
use Rattle.demand.specs.Shares.{normal_share, carrying, share_of}

carrying_small : {r : Row} {k : ℕ} {N : ℕ → ℕ} → Ceiling r k N → Within r → (t n : ℕ) → t ≤ 1000000 → r.certain ≤ 65535 → carrying r N t n ≤ 2 ^ 37 - 1
unfolding carrying
carrying_small {r} {k} {N} law w t n near certain =
    let limits = w.0 in
    let most = ceiling_at_most law w (t - n) in
    let fits = product_fits (N (t - n)) r.certain (omega arith) certain in
    omega arith

share_small : (p : Phase) {r : Row} {k : ℕ} {N : ℕ → ℕ} → Ceiling r k N → Within r → (t : ℕ) → t ≤ 1000000 → share_of p r N t ≤ 2 ^ 37 - 1
unfolding normal_share
share_small Normal {r} {k} {N} law w t near =
    let fits = product_fits _ r.budget (back_at_most law w t r.short near) (budget_fits w) in
    omega arith
share_small Overrun {r} {k} {N} law w t near =
    share_bounded r N t (2 ^ 37 - 1) (λ critical n from upto within. carrying_small law w t n near (certain_fits w critical))

total_bounded : (n x : ℕ) (f : ℕ → ℕ) → ((i : ℕ) → f i ≤ x) → total n f ≤ n * x
unfolding total
total_bounded zero x f h = omega arith
total_bounded (suc n) x f h = let rest = total_bounded n x f h in let last = h (n + 1) in omega (arith, suc-mul n x)

difference_small : (t d n : ℕ) → t < n → d < n → mag (pos t -ℤ pos d) < n
difference_small t zero n p q = omega arith
difference_small t (suc e) n p q = by_order (nat_lt t (suc e))
  where
    by_order : (below : Bool) → mag (cond below (negsuc (suc e - suc t)) (pos (t - suc e))) < n
    by_order true = omega arith
    by_order false = omega arith

module _ {S : Type 0} (k : Kind S) (b : S) (laws : Laws k) (p : Phase) (t : ℕ) (near : t ≤ 1000000) where
  asks_small : (i : ℕ) → asks k b p t i ≤ 2 ^ 37 - 1
  asks_small i = by_record (k.records b i) refl
    where
      by_record : (found : Option Record) → k.records b i ≡ found → share found p (k.ceiling b i) t ≤ 2 ^ 37 - 1
      by_record None e = omega arith
      by_record (Some r) e = share_small p (laws.ceilings b i r e) r.within t near

  pub margin_small : k.streams b ≤ 32 → mag (pos t -ℤ pos (demand k b p t)) < 2 ^ 42
  margin_small few =
      let all = total_bounded (k.streams b) (2 ^ 37 - 1) (asks k b p t) asks_small in
      difference_small t (demand k b p t) (2 ^ 42) (omega arith) (omega arith)
