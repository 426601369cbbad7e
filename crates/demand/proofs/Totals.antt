-- Sums over the streams of a bank, one stream after another.

use Rattle.std.proofs.Common.{◌≡◌, ℕ, zero, suc, ◌+◌, ◌-◌, ◌≤◌, Option, refl, ap, ◌∙◌, add-one, arith}
use Rattle.stream.specs.declared.Phase.{Phase}
use Rattle.stream.specs.declared.Row.{Row}
use Rattle.stream.specs.declared.limits.Record.{Record}
use Rattle.bank.specs.Kinds.{Kind}
use Rattle.demand.specs.Demands.{total, share, asks}
use Rattle.demand.specs.Shares.{share_of}
use Rattle.demand.specs.Listing.{Listed}
use Rattle.demand.proofs.Listing.{listed_record}

pub total_none : (f : ℕ → ℕ) → total 0 f ≡ 0
unfolding total
total_none f = refl

pub total_more : (n : ℕ) (f : ℕ → ℕ) → total (n + 1) f ≡ total n f + f (n + 1)
unfolding total
total_more n f = ap (λ (m : ℕ). total m f) (add-one n)

pub total_step : (n x y : ℕ) (f : ℕ → ℕ) → x ≡ total n f → y ≡ f (n + 1) → x + y ≡ total (n + 1) f
total_step n x y f p q = omega (arith, total_more n f)

-- the same, counted by the stream that comes next
pub total_before : (n x y : ℕ) (f : ℕ → ℕ) → 1 ≤ n → x ≡ total (n - 1) f → y ≡ f n → x + y ≡ total (n + 1 - 1) f
total_before n x y f some p q =
    let next : n ≡ n - 1 + 1 = omega arith in
    let all : n - 1 + 1 ≡ n + 1 - 1 = omega arith in
    total_step (n - 1) x y f p (q ∙ ap f next) ∙ ap (λ (i : ℕ). total i f) all

pub total_adds : (n : ℕ) (f g e : ℕ → ℕ) → ((i : ℕ) → f i ≤ g i + e i) → total n f ≤ total n g + total n e
unfolding total
total_adds zero f g e h = omega arith
total_adds (suc n) f g e h = let rest = total_adds n f g e h in let last = h (n + 1) in omega arith

pub asks_listed : {S : Type 0} (k : Kind S) (b : S) (p : Phase) (i : ℕ) (row : Row) (t : ℕ) → Listed k b i row → asks k b p t i ≡ share_of p row (k.ceiling b i) t
asks_listed k b p i row t l =
    let found = listed_record (k.records b i) row l in
    ap (λ (o : Option Record). share o p (k.ceiling b i) t) found.1 ∙ ap (λ (r : Row). share_of p r (k.ceiling b i) t) found.2
