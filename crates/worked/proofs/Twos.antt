-- The banks of two known rows: a sporadic table, alone or in a join with no stream on a raster.

use Rattle.std.proofs.Common.{◌≡◌, ℕ, ◌+◌, min, List, [], ◌∷◌, length, is_some, Some, None, Option, sym, refl, ap, ◌∙◌, arith}
use borrow.Author.Tests.{clash}
use Rattle.stream.specs.declared.Row.{Row}
use Rattle.stream.specs.declared.limits.Record.{Record}
use Rattle.demand.specs.Published.{spaced}
use Rattle.either.specs.declared.Either.TheVariants.{Left, Right}
use Rattle.join.specs.Joins.{ceiling_at, place, record_at}
use Rattle.join.specs.Routes.{Part, route}
use Rattle.join.specs.declared.Joined.{Joined}
use Rattle.table.specs.Rasters.{raster, raster_states, Raster}
use Rattle.table.specs.Sporadics.{sporadic, states_in, Sporadic}
use Rattle.table.specs.Tables.{amount, ceiling_of, record_of, RecordState as State}
use Rattle.table.specs.Waits.{every}
use Rattle.table.specs.declared.shared.State.{State as StateOf}
use Rattle.table.proofs.Views.{raster_size}
use Rattle.worked.specs.Plans.{rows, tables, Pair}

-- the two states of such a table
pub record Two (x y : Row) (states : List State) : Type 0 where
  pub first : State
  pub second : State
  pub is : states ≡ first ∷ second ∷ []
  pub first_row : first.stream.row ≡ x
  pub second_row : second.stream.row ≡ y

pub two : (x y : Row) (states : List State) → rows states ≡ x ∷ y ∷ [] → Two x y states
two x y [] e = let z : ◌≡◌ {A = ℕ} 0 1 = cc in let f : ⊥ = omega arith in absurd f
two x y (s ∷ []) e = let z : ◌≡◌ {A = ℕ} 0 1 = cc in let f : ⊥ = omega arith in absurd f
two x y (s ∷ t ∷ []) e = record { first = s; second = t; is = refl; first_row = cc; second_row = cc }
two x y (s ∷ t ∷ u ∷ more) e = let z : ◌≡◌ {A = ℕ} 0 1 = cc in let f : ⊥ = omega arith in absurd f

table_ceilings : {S : Type 0} (recorded : S → Record) (xs : List (StateOf S)) (i : ℕ) (r : Record) (m : ℕ) → record_of recorded xs i ≡ Some r → ceiling_of recorded xs i m ≡ spaced r.row m
table_ceilings recorded xs i r m e = ap (λ (o : Option Record). amount o (λ q. every q.row.gap m)) e

pub sporadic_pair : (x y : Row) (b : Sporadic) → rows (states_in b) ≡ x ∷ y ∷ [] → Pair sporadic x y b
sporadic_pair x y b e =
    let w = two x y (states_in b) e in
    record {
      two = ap length w.is;
      first = (w.first.stream, ap (λ (xs : List State). record_of (λ r. r) xs 1) w.is, w.first_row);
      second = (w.second.stream, ap (λ (xs : List State). record_of (λ r. r) xs 2) w.is, w.second_row);
      ceilings = λ i r m found. table_ceilings (λ r. r) (states_in b) i r m found;
    }

pub joined_pair : (x y : Row) (b : Joined Sporadic Raster) → rows (states_in b.left) ≡ x ∷ y ∷ [] → raster_states b.right ≡ [] → Pair tables x y b
joined_pair x y b e none =
    let left = sporadic_pair x y b.left e in
    let right : raster.streams b.right ≡ 0 = sym (raster_size b.right) ∙ ap length none in
    let at : (i : ℕ) → tables.records b i ≡ record_at sporadic raster b (route 2 i) = λ i. ap (λ (n : ℕ). record_at sporadic raster b (route n i)) left.two in
    record {
      two = ap (λ (n : ℕ). min (n + raster.streams b.right) 33) left.two ∙ ap (λ (n : ℕ). min (2 + n) 33) right;
      first = (left.first.0, at 1 ∙ left.first.1, left.first.2);
      second = (left.second.0, at 2 ∙ left.second.1, left.second.2);
      ceilings = λ i r m found. by_part r m (place sporadic b i) found;
    }
  where
    by_part : (r : Record) (m : ℕ) (o : Option Part) → record_at sporadic raster b o ≡ Some r → ceiling_at sporadic raster b o m ≡ spaced r.row m
    by_part r m (Some (Left i)) found = table_ceilings (λ r. r) (states_in b.left) i r m found
    by_part r m (Some (Right i)) found = table_ceilings (λ s. s.record) b.right.table.states.items i r m found
    by_part r m None found = absurd (clash (ap is_some found))
