-- The least common multiple grows gap by gap: a common multiple is a multiple of the least one, since what is left over would be a smaller one.

use Rattle.std.proofs.Common.{◌≡◌, ◌≢◌, ℕ, ◌+◌, ◌*◌, ◌/◌, ◌%◌, ◌<◌, ◌≤◌, Option, MatchOption, Some, None, refl, sym, ap, ◌∙◌, ⊎_elim, mul-le-mul_right, one-mul, zero-mul, arith}
use Rattle.std.proofs.Math.Nat.{le-div_iff_mul-le}
use native.Mathlib.Nat.{mod-add-div', dvd-mul_left_of_dvd, dvd_of_mod-eq-zero, mod-eq-zero_of_dvd, mod-mod_of_dvd}
use Rattle.std.proofs.lemmas.Bool.{cases_eq, cases_lt}
use Rattle.stream.specs.declared.limits.Record.{Record}
use Rattle.bank.specs.Kinds.{Kind}
use Rattle.demand.specs.Multiples.{NextMultiple}

-- m is a multiple of the gaps of the streams below n
pub record Multiple {S : Type 0} (k : Kind S) (b : S) (n m : ℕ) : Type 0 where
  pub some : 1 ≤ m
  pub divided : (i : ℕ) (r : Record) → i < n → k.records b i ≡ Some r → m % r.row.gap ≡ 0

pub record LeastMultiple {S : Type 0} (k : Kind S) (b : S) (n h : ℕ) : Type 0 where
  pub multiple : Multiple k b n h
  pub least : (m : ℕ) → Multiple k b n m → h ≤ m

module _ {S : Type 0} (k : Kind S) (b : S) where
  multiple_fewer : (n p m : ℕ) → p ≤ n → Multiple k b n m → Multiple k b p m
  multiple_fewer n p m h mult = record { some = mult.some; divided = λ i r l. mult.divided i r (omega arith) }

  least_divides : (n h m : ℕ) → LeastMultiple k b n h → Multiple k b n m → m % h ≡ 0
  least_divides n h m l mult =
      ⊎_elim
      (λ (z : m % h ≡ 0). z)
      (λ (nz : m % h ≡ 0 → ⊥).
      let some = l.multiple.some in
      let rest : Multiple k b n (m % h) = record {
        some = omega arith;
        divided = λ i r lt e. mod-mod_of_dvd r.row.gap m (dvd_of_mod-eq-zero r.row.gap (l.multiple.divided i r lt e)) ∙ mult.divided i r lt e;
      } in
      let low = l.least (m % h) rest in
      let z : ⊥ = omega arith in absurd z)
      (cases_eq (m % h) 0)

  -- a stream that does not exist has no gap
  pub least_absent : (n h : ℕ) → k.records b n ≡ None → LeastMultiple k b n h → LeastMultiple k b (n + 1) h
  least_absent n h none l = record {
    multiple = record {
      some = l.multiple.some;
      divided = λ i r lt e.
          ⊎_elim
          (λ (before : i < n). l.multiple.divided i r before e)
          (λ (from : n ≤ i). let at = ap (k.records b) (let same : n ≡ i = omega arith in same) in cc)
          (cases_lt i n);
    };
    least = λ m mult. l.least m (multiple_fewer (n + 1) n m (omega arith) mult);
  }

  module _ (n h : ℕ) (r : Record) (there : k.records b n ≡ Some r) (l : LeastMultiple k b n h) where
    -- a common multiple of one gap more is one of the multiples of h that are tried
    tried : (m : ℕ) → Multiple k b (n + 1) m → (m ≡ m / h * h) × (1 ≤ m / h) × ((m / h * h) % r.row.gap ≡ 0)
    tried m mult =
        let some = mult.some in
        let none = least_divides n h m l (multiple_fewer (n + 1) n m (omega arith) mult) in
        let parts = mod-add-div' m h in
        let is : m ≡ m / h * h = omega arith in
        let once : 1 ≤ m / h =
        ⊎_elim
        (λ (z : m / h < 1). let zero : m / h * h ≡ 0 = (let e : m / h ≡ 0 = omega arith in ap (λ (q : ℕ). q * h) e ∙ zero-mul h) in let w : ⊥ = omega arith in absurd w)
        (λ (p : 1 ≤ m / h). p)
        (cases_lt (m / h) 1) in
        (is, once, ap (λ (x : ℕ). x % r.row.gap) (sym is) ∙ mult.divided n r (omega arith) there)

    pub least_more : (x : ℕ) → NextMultiple h r.row.gap x → LeastMultiple k b (n + 1) x
    least_more x next = record {
      multiple = record {
        some = let one = mul-le-mul_right h next.some in omega (arith, one-mul h, l.multiple.some, next.is);
        divided = λ j q lt e.
            ⊎_elim
            (λ (before : j < n). ap (λ (y : ℕ). y % q.row.gap) next.is ∙ mod-eq-zero_of_dvd q.row.gap (dvd-mul_left_of_dvd q.row.gap (dvd_of_mod-eq-zero q.row.gap (l.multiple.divided j q before e)) next.times))
            (λ (from : n ≤ j).
            let at = ap (k.records b) (let same : n ≡ j = omega arith in same) in
            let is : r ≡ q = cc in
            ap (λ (y : Record). x % y.row.gap) (sym is) ∙ next.divided)
            (cases_lt j n);
      };
      least = λ m mult.
          let t = tried m mult in
          ⊎_elim
          (λ (sooner : m / h < next.times). absurd (next.first (m / h) t.1 sooner t.2))
          (λ (later : next.times ≤ m / h). let up = mul-le-mul_right h later in omega (arith, t.0, next.is))
          (cases_lt (m / h) next.times);
    }

    pub none_more : ((p : ℕ) → 1 ≤ p → p * h ≤ 1000000 → (p * h) % r.row.gap ≡ 0 → ⊥) → (m : ℕ) → Multiple k b (n + 1) m → 1000000 < m
    none_more none m mult =
        let t = tried m mult in
        ⊎_elim
        (λ (far : 1000000 < m). far)
        (λ (near : m ≤ 1000000). absurd (none (m / h) t.1 (omega (arith, t.0)) t.2))
        (cases_lt 1000000 m)

-- the first multiplier below 1000000 / h + 1 is the first of all that stay within the farthest horizon
pub first_multiplier : (h gap : ℕ) → 1 ≤ h → (found : Option ℕ) → MatchOption found ((p : ℕ) → 1 ≤ p → p < 1000000 / h + 1 → (p * h) % gap ≢ 0) (λ i. (1 ≤ i) × (i < 1000000 / h + 1) × ((i * h) % gap ≡ 0) × ((p : ℕ) → 1 ≤ p → p < i → (p * h) % gap ≢ 0)) → MatchOption found ((p : ℕ) → 1 ≤ p → p * h ≤ 1000000 → (p * h) % gap ≢ 0) (λ times. NextMultiple h gap (times * h))
first_multiplier h gap some None none = λ p one near. none p one (let within = (le-div_iff_mul-le some).1 near in omega arith)
first_multiplier h gap some (Some i) (one, within, divided, first) = record { times = i; some = one; is = refl; divided = divided; near = (le-div_iff_mul-le some).0 (omega arith); first = first }
