-- The overrun share in closed form: by plateaus for every ceiling, and as it is published for a ceiling of one release in each gap.

use Rattle.std.specs.Prelude.{◌≡◌, ℕ, ◌+◌, ◌-◌, ◌*◌, ◌/◌, ◌%◌, ◌<◌, ◌≤◌, cond, ℤ, pos, ◌+ℤ◌, ◌-ℤ◌, ◌*ℤ◌, ◌≤ℤ◌, ◌<ℤ◌, Some, None, Option, nat_le, nat_lt}
use Rattle.std.specs.Int.{int_max}
use Rattle.stream.specs.declared.Class.TheVariants.{Critical, Background}
use Rattle.stream.specs.declared.Row.{Row}
use Rattle.bank.specs.Ceilings.{Ceiling}
use Rattle.demand.specs.Shares.{slack, if_critical, overrun_share}
use Rattle.demand.specs.Watching.{Flat}

-- The greatest over n, for every ceiling that keeps the rules: with m = t - (D - V) on a plateau that began at `start`, it is N(m) C less what is left of c since then.
pub record ByPlateau (r : Row) : Type 0 where
  pub background : (N : ℕ → ℕ) (t : ℕ) → r.class ≡ Background → overrun_share r N t ≡ 0
  pub early : (N : ℕ → ℕ) (t : ℕ) → t < slack r → overrun_share r N t ≡ 0
  pub critical : (k : ℕ) (N : ℕ → ℕ) → Ceiling r k N → (t start level : ℕ) → r.class ≡ Critical → slack r ≤ t → Flat N (t - slack r) start level → overrun_share r N t ≡ level * r.certain - (r.budget - (t - slack r - start))
  -- every m lies on one
  pub plateau : (k : ℕ) (N : ℕ → ℕ) → Ceiling r k N → (m : ℕ) → (start : ℕ) × Flat N m start (N m)

-- N(m) = floor(m / T) + 1
abbrev pub spaced : Row → ℕ → ℕ
spaced r m = m / r.gap + 1

-- q = floor(x / T), over whole numbers
pub record Floor (x : ℤ) (T : ℕ) (q : ℤ) : Type 0 where
  pub low : (q *ℤ pos T) ≤ℤ x
  pub high : x <ℤ ((q +ℤ pos 1) *ℤ pos T)

-- With r = t mod T: max(0, c - r + D - V) where D - V ≤ r < D, and else 0. A difference of natural numbers stops at 0.
abbrev pub deducted : Row → ℕ → ℕ
deducted r t = cond (nat_le (slack r) (t % r.gap)) (cond (nat_lt (t % r.gap) r.deadline) (r.budget + slack r - t % r.gap) 0) 0

-- max(0, (q + 1) C) less that
abbrev pub published : Row → ℕ → ℤ → ℤ
published r t q = int_max (pos 0) ((q +ℤ pos 1) *ℤ pos r.certain) -ℤ pos (deducted r t)

-- The published form of a critical stream: q is floor((t - (D - V)) / T), of a number that may be below 0.
abbrev pub AsPublished : Row → Type 0
AsPublished r = (t : ℕ) (q : ℤ) → r.class ≡ Critical → Floor (pos t -ℤ pos (slack r)) r.gap q → pos (overrun_share r (spaced r) t) ≡ published r t q

-- the same over natural numbers, as the code computes it
abbrev pub closed : Row → ℕ → ℕ
closed r t = if_critical r.class (cond (nat_lt t (slack r)) 0 (spaced r (t - slack r) * r.certain - deducted r t))

-- the share is told within the lengths that are judged, and both forms hold at every length
pub record ShareTold (r : Row) (t : ℕ) (answer : Option ℕ) : Type 0 where
  pub told : t ≤ 1000000 → answer ≡ Some (overrun_share r (spaced r) t)
  pub far : 1000000 < t → answer ≡ None
  pub published : AsPublished r
  pub plateaus : ByPlateau r
