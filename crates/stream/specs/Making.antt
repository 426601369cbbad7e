-- What making a record answers: the first limit that is broken, in the order gap, deadline, budgets, short deadline; or a record of just this row.

use Rattle.std.specs.Prelude.{◌≡◌, true, is_ok, IfOk, Result}
use Rattle.stream.specs.Refusals.{RefusedBy}
use Rattle.stream.specs.declared.Refusal.{Refusal}
use Rattle.stream.specs.declared.Row.{Row}
use Rattle.stream.specs.declared.limits.Record.{Record}
use Rattle.stream.specs.Limits.{GapFits, DeadlineFits, BudgetsFit, ShortFits}

pub record Made (row : Row) (answer : Result Record Refusal) : Type 0 where
  pub gap : (GapFits row → ⊥) → RefusedBy 4 answer
  pub deadline : GapFits row → (DeadlineFits row → ⊥) → RefusedBy 5 answer
  pub budgets : GapFits row → DeadlineFits row → (BudgetsFit row → ⊥) → RefusedBy 6 answer
  pub short : GapFits row → DeadlineFits row → BudgetsFit row → (ShortFits row → ⊥) → RefusedBy 7 answer
  pub made : GapFits row → DeadlineFits row → BudgetsFit row → ShortFits row → is_ok answer ≡ true
  -- a record holds just the numbers given
  pub holds : IfOk answer (λ made. made.row ≡ row)
