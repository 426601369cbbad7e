-- A bank of two known rows with the ceilings of a table: its demands and its horizon are computed, and so the verdict on it.

use Rattle.std.proofs.Common.{◌≡◌, ℕ, zero, suc, ◌+◌, ◌-◌, ◌*◌, ◌%◌, ◌<◌, ◌≤◌, min, Bool, true, false, not, cond, ◌&&◌, ltb, leb, pos, ◌-ℤ◌, Some, Option, sym, refl, ap, ◌∙◌, subst, ⊎_elim, zero-add, arith}
use Rattle.std.specs.Prelude.{nat_lt}
use Rattle.std.proofs.lemmas.Bool.{cases_lt, and_parts, not-true, leb-true, ltb-true}
use Rattle.stream.specs.declared.Phase.{Phase}
use Rattle.stream.specs.declared.Phase.TheVariants.{Normal, Overrun}
use Rattle.stream.specs.declared.Point.{Point}
use Rattle.stream.specs.declared.Row.{Row}
use Rattle.stream.specs.declared.Verdict.{Verdict}
use Rattle.stream.specs.declared.limits.Record.{Record}
use Rattle.bank.specs.Kinds.{Kind}
use Rattle.bank.specs.Laws.{Laws}
use Rattle.least.specs.Orders.{point_below}
use Rattle.demand.specs.Demands.{total, share, asks, demand, Fits}
use Rattle.demand.specs.Horizons.{Common}
use Rattle.demand.specs.Published.{spaced}
use Rattle.demand.specs.Shares.{normal_share, overrun_share, greatest, carrying, slack, if_critical, share_of}
use Rattle.demand.specs.Verdicts.{point_at, InReach, AcceptsAll, ExceedsFirst, Exceeds}
use Rattle.demand.proofs.Beyond.{accepts_all}
use Rattle.worked.specs.Plans.{Has, Pair}

abbrev pub row_share : Row → Phase → ℕ → ℕ
row_share r p t = share_of p r (spaced r) t

abbrev pub pair_demand : Row → Row → Phase → ℕ → ℕ
pair_demand x y p t = row_share x p t + row_share y p t

-- a share depends on the values of a ceiling alone
greatest_same : (f g : ℕ → ℕ) → ((n : ℕ) → f n ≡ g n) → (from count : ℕ) → greatest f from count ≡ greatest g from count
unfolding greatest
greatest_same f g same from zero = refl
greatest_same f g same from (suc count) =
    let rest = greatest_same f g same from count in
    let last = same (from + count) in
    cc

same_share : (p : Phase) (r : Row) (N M : ℕ → ℕ) → ((m : ℕ) → N m ≡ M m) → (t : ℕ) → share_of p r N t ≡ share_of p r M t
unfolding normal_share overrun_share carrying
same_share Normal r N M same t = ap (λ (n : ℕ). cond (nat_lt t r.short) 0 n * r.budget) (same (t - r.short))
same_share Overrun r N M same t = ap (if_critical r.class) (greatest_same (carrying r N t) (carrying r M t) (λ n. ap (λ (x : ℕ). x * r.certain - (r.budget + slack r - n)) (same (t - n))) (slack r) (min t r.deadline + 1 - slack r))

-- a test that is true at each number below n
abbrev pub upto : ℕ → (ℕ → Bool) → Bool
upto zero test = true
upto (suc n) test = upto n test && test n

upto_each : (n : ℕ) (test : ℕ → Bool) → upto n test ≡ true → (t : ℕ) → t < n → test t ≡ true
upto_each zero test e t l = let z : ⊥ = omega arith in absurd z
upto_each (suc n) test e t l =
    let parts = and_parts (upto n test) (test n) e in
    ⊎_elim
    (λ (before : t < n). upto_each n test parts.0 t before)
    (λ (last : n ≤ t). let is : n ≡ t = omega arith in subst (λ (i : ℕ). test i ≡ true) is parts.1)
    (cases_lt t n)

abbrev pub fits_test : Row → Row → ℕ → Bool
fits_test x y t = leb (pair_demand x y Normal t) t && leb (pair_demand x y Overrun t) t

abbrev pub pair_point : Row → Row → Phase → ℕ → Point
pair_point x y p t = record { phase = p; length = t; margin = pos t -ℤ pos (pair_demand x y p t) }

-- no point of length t is below another
abbrev pub above_test : Row → Row → Point → ℕ → Bool
above_test x y point t = not (point_below (pair_point x y Normal (t + 1)) point) && not (point_below (pair_point x y Overrun (t + 1)) point)

-- a demand exceeds length t, the normal one first
abbrev pub first_test : Row → Row → Phase → ℕ → Bool
first_test x y Normal t = ltb t (pair_demand x y Normal t)
first_test x y Overrun t = leb (pair_demand x y Normal t) t && ltb t (pair_demand x y Overrun t)

-- h is the least common multiple of the two gaps
pub record Least (x y : Row) (h : ℕ) : Type 0 where
  pub some : 1 ≤ h
  pub first : h % x.gap ≡ 0
  pub second : h % y.gap ≡ 0
  pub least : (m : ℕ) → 1 ≤ m → m % x.gap ≡ 0 → m % y.gap ≡ 0 → h ≤ m

module _ {S : Type 0} (k : Kind S) (laws : Laws k) (x y : Row) (b : S) (pair : Pair k x y b) where
  asks_row : (i : ℕ) (row : Row) → Has k b i row → (p : Phase) (t : ℕ) → asks k b p t i ≡ row_share row p t
  asks_row i row (r, found, is) p t =
      ap (λ (o : Option Record). share o p (k.ceiling b i) t) found
      ∙ same_share p r.row (k.ceiling b i) (spaced r.row) (λ m. pair.ceilings i r m found) t
      ∙ ap (λ (q : Row). row_share q p t) is

  pub demand_pair : (p : Phase) (t : ℕ) → demand k b p t ≡ pair_demand x y p t
  unfolding total
  demand_pair p t =
      ap (λ (n : ℕ). total n (asks k b p t)) pair.two
      ∙ ap (λ (n : ℕ). n + asks k b p t 2) (zero-add (asks k b p t 1))
      ∙ ap (λ (n : ℕ). n + asks k b p t 2) (asks_row 1 x pair.first p t)
      ∙ ap (λ (n : ℕ). row_share x p t + n) (asks_row 2 y pair.second p t)

  -- what holds of both rows holds of every record
  each_row : (P : Row → Type 0) → P x → P y → (i : ℕ) (r : Record) → k.records b i ≡ Some r → P r.row
  each_row P px py i r e = let range = laws.numbered b i r e in by_number i e range.0 (let two = pair.two in omega arith)
    where
      has : (n : ℕ) (row : Row) → Has k b n row → P row → k.records b n ≡ Some r → P r.row
      has n row (q, found, is) h e =
          let same : Some q ≡ Some r = sym found ∙ e in
          let one : q ≡ r = cc in
          subst (λ (z : Record). P z.row) one (subst P (sym is) h)

      by_number : (n : ℕ) → k.records b n ≡ Some r → 1 ≤ n → n ≤ 2 → P r.row
      by_number zero e some few = let z : ⊥ = omega arith in absurd z
      by_number (suc zero) e some few = has 1 x pair.first px e
      by_number (suc (suc zero)) e some few = has 2 y pair.second py e
      by_number (suc (suc (suc n))) e some few = let z : ⊥ = omega arith in absurd z

  pub gaps_divide : (m : ℕ) → Common k b m → (m % x.gap ≡ 0) × (m % y.gap ≡ 0)
  gaps_divide m common = (divides 1 x pair.first, divides 2 y pair.second)
    where
      divides : (i : ℕ) (row : Row) → Has k b i row → m % row.gap ≡ 0
      divides i row (r, found, is) = sym (ap (λ (q : Row). m % q.gap) is) ∙ common.divided i r found

  pub reach_pair : (h : ℕ) → Least x y h → h ≤ 1000000 → InReach k b h
  reach_pair h l near =
      let long = pair.two in
      record {
        some = omega arith;
        few = omega arith;
        horizon = record {
          common = record { some = l.some; divided = each_row (λ (r : Row). h % r.gap ≡ 0) l.first l.second };
          least = λ m common. let gaps = gaps_divide m common in l.least m common.some gaps.0 gaps.1;
        };
        near = near;
      }

  fits_pair : (n : ℕ) → upto n (fits_test x y) ≡ true → (t : ℕ) → t < n → Fits k b t
  fits_pair n e t l =
      let parts = and_parts (leb (pair_demand x y Normal t) t) (leb (pair_demand x y Overrun t) t) (upto_each n (fits_test x y) e t l) in
      (omega (arith, demand_pair Normal t, leb-true (pair_demand x y Normal t) t parts.0), omega (arith, demand_pair Overrun t, leb-true (pair_demand x y Overrun t) t parts.1))

  point_pair : (p : Phase) (t : ℕ) → point_at k b p t ≡ pair_point x y p t
  point_pair p t = ap (λ (d : ℕ). record { phase = p; length = t; margin = pos t -ℤ pos d }) (demand_pair p t)

  above_pair : (h : ℕ) (point : Point) → upto h (above_test x y point) ≡ true → (p : Phase) (t : ℕ) → t < h → point_below (point_at k b p (t + 1)) point ≡ false
  above_pair h point e p t l =
      let parts = and_parts (not (point_below (pair_point x y Normal (t + 1)) point)) (not (point_below (pair_point x y Overrun (t + 1)) point)) (upto_each h (above_test x y point) e t l) in
      ap (λ (q : Point). point_below q point) (point_pair p (t + 1)) ∙ elim p as (λ v. point_below (pair_point x y v (t + 1)) point ≡ false) [
        | Normal ↦ not-true (point_below (pair_point x y Normal (t + 1)) point) parts.0
        | Overrun ↦ not-true (point_below (pair_point x y Overrun (t + 1)) point) parts.1
      ]

  -- accepted, by a test of every length up to the horizon
  pub accepts_pair : (v : Verdict) → Least x y v.horizon → v.horizon ≤ 1000000 → upto (v.horizon + 1) (fits_test x y) ≡ true → upto v.horizon (above_test x y v.point) ≡ true → v.lengths ≡ v.horizon + 1 → 1 ≤ v.point.length → v.point.length ≤ v.horizon → v.point ≡ pair_point x y v.point.phase v.point.length → AcceptsAll k b v
  accepts_pair v l near fits above lengths from to is =
      let reach = reach_pair v.horizon l near in
      let all : (t : ℕ) → t ≤ v.horizon → Fits k b t = λ t h. fits_pair (v.horizon + 1) fits t (omega arith) in
      accepts_all k b (laws.ceilings b) v
      (record {
        reach = reach;
        fits = all;
        lengths = lengths;
        nearest = record {
          from = from;
          upto = to;
          is = is ∙ sym (point_pair v.point.phase v.point.length);
          least = λ p t some within.
              let back : t - 1 + 1 ≡ t = omega arith in
              subst (λ (n : ℕ). point_below (point_at k b p n) v.point ≡ false) back (above_pair v.horizon v.point above p (t - 1) (omega arith));
        };
      })

  first_pair : (p : Phase) (t : ℕ) → first_test x y p t ≡ true → ExceedsFirst k b p t
  first_pair Normal t e = omega (arith, demand_pair Normal t, ltb-true t (pair_demand x y Normal t) e)
  first_pair Overrun t e =
      let parts = and_parts (leb (pair_demand x y Normal t) t) (ltb t (pair_demand x y Overrun t)) e in
      (omega (arith, demand_pair Normal t, leb-true (pair_demand x y Normal t) t parts.0), omega (arith, demand_pair Overrun t, ltb-true t (pair_demand x y Overrun t) parts.1))

  -- refused, by a test of every length up to the one that is exceeded
  pub exceeds_pair : (v : Verdict) → Least x y v.horizon → v.horizon ≤ 1000000 → v.point.length ≤ v.horizon → upto v.point.length (fits_test x y) ≡ true → first_test x y v.point.phase v.point.length ≡ true → v.point ≡ pair_point x y v.point.phase v.point.length → v.lengths ≡ v.point.length + 1 → Exceeds k b v
  exceeds_pair v l near to fits over is lengths = record {
    reach = reach_pair v.horizon l near;
    upto = to;
    before = fits_pair v.point.length fits;
    here = first_pair v.point.phase v.point.length over;
    is = is ∙ sym (point_pair v.point.phase v.point.length);
    lengths = lengths;
  }
