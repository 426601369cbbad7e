-- The limits that the numbers of a stream keep, one after another in the order in which they are tested.

use Rattle.std.specs.Prelude.{◌≡◌, ◌≤◌}
use Rattle.stream.specs.declared.Class.TheVariants.{Critical, Background}
use Rattle.stream.specs.declared.Row.{Row}

abbrev pub GapFits : Row → Type 0
GapFits r = (1 ≤ r.gap) × (r.gap ≤ 65535)

abbrev pub DeadlineFits : Row → Type 0
DeadlineFits r = (1 ≤ r.deadline) × (r.deadline ≤ r.gap)

-- A background stream has nothing certain in an overrun.
abbrev pub BudgetsFit : Row → Type 0
BudgetsFit r =
    (1 ≤ r.budget) × (r.budget ≤ r.deadline)
    × (r.class ≡ Critical → (r.budget ≤ r.certain) × (r.certain ≤ r.deadline))
    × (r.class ≡ Background → r.certain ≡ 0)

-- A background stream has one deadline only.
abbrev pub ShortFits : Row → Type 0
ShortFits r =
    (r.class ≡ Critical → (r.budget ≤ r.short) × (r.short ≤ r.deadline))
    × (r.class ≡ Background → r.short ≡ r.deadline)

abbrev pub Within : Row → Type 0
Within r = GapFits r × DeadlineFits r × BudgetsFit r × ShortFits r
