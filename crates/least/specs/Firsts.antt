-- The first of the least items of a list: no item is below it, and it is below each item that stands before it. Only an empty list has none.

use Rattle.std.specs.Prelude.{◌≡◌, ℕ, Bool, List, length, Some, None, Option, slice_index_or}
use Rattle.std.specs.List.{IsFirstBest}

abbrev pub FirstLeast : {X : Type 0} → (X → X → Bool) → List X → Option X → Type 0
FirstLeast below items None = length items ≡ 0
FirstLeast below items (Some item) = (b : ℕ) × IsFirstBest below items (length items) b × (item ≡ slice_index_or items b item)
