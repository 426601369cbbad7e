-- What the laws of a bank say of a stream whose row is known.

use Rattle.std.proofs.Common.{◌≡◌, ℕ, ◌<◌, ◌≤◌, cond, pos, Some, None, Option, refl, ap, ◌∙◌, subst, arith}
use Rattle.std.proofs.lemmas.Bool.{le-leb}
use Rattle.std.specs.Option.{unwrap_or}
use Rattle.stream.specs.Limits.{Within}
use Rattle.stream.specs.declared.Row.{Row}
use Rattle.stream.specs.declared.limits.Record.{Record}
use Rattle.bank.specs.Ceilings.{Ceiling}
use Rattle.bank.specs.Kinds.{Kind}
use Rattle.bank.specs.Laws.{Laws}
use Rattle.bank.specs.Questions.{asked, told}
use Rattle.bank.specs.declared.Question.TheVariants.{Outside, At}
use Rattle.demand.specs.Horizons.{Common, Horizon}
use Rattle.demand.specs.Listing.{row_of, Listed}
use Rattle.demand.proofs.Multiples.{Multiple, LeastMultiple}

pub listed_record : (found : Option Record) (row : Row) → row_of found ≡ Some row → (r : Record) × (found ≡ Some r) × (r.row ≡ row)
listed_record None row e = cc
listed_record (Some r) row e = (r, refl, cc)

pub listed_within : {S : Type 0} (k : Kind S) (b : S) (i : ℕ) (row : Row) → Listed k b i row → Within row
listed_within k b i row l = let found = listed_record (k.records b i) row l in subst Within found.2 found.0.within

pub listed_ceiling : {S : Type 0} (k : Kind S) → Laws k → (b : S) (i : ℕ) (row : Row) → Listed k b i row → Ceiling row (k.count b i) (k.ceiling b i)
listed_ceiling k laws b i row l =
    let found = listed_record (k.records b i) row l in
    let P : Row → Type 0 = λ x. Ceiling x (k.count b i) (k.ceiling b i) in
    subst P found.2 (laws.ceilings b i found.0 found.1)

-- what the bank tells of its ceiling
pub listed_told : {S : Type 0} (k : Kind S) (b : S) (i : ℕ) (row : Row) → Listed k b i row → (m : ℕ) → m ≤ 1000000 → unwrap_or (told (k.records b i) (k.ceiling b i) (asked (pos m))) 0 ≡ k.ceiling b i m
listed_told k b i row l m within =
    let found = listed_record (k.records b i) row l in
    let N = k.ceiling b i in
    ap (λ o. unwrap_or (told o N (asked (pos m))) 0) found.1 ∙ ap (λ x. unwrap_or (told (Some found.0) N (cond x (At m) Outside)) 0) (le-leb m 1000000 within)

-- a common multiple of the gaps of all streams, said of the streams up to the last
pub common_multiple : {S : Type 0} (k : Kind S) (b : S) (n m : ℕ) → Common k b m → Multiple k b n m
common_multiple k b n m c = record { some = c.some; divided = λ i r _. c.divided i r }

pub least_horizon : {S : Type 0} (k : Kind S) → Laws k → (b : S) (n h : ℕ) → k.streams b < n → LeastMultiple k b n h → Horizon k b h
least_horizon k laws b n h past l = record {
  common = record { some = l.multiple.some; divided = λ i r e. l.multiple.divided i r (let place = laws.numbered b i r e in omega arith) e };
  least = λ m c. l.least m (common_multiple k b n m c);
}
