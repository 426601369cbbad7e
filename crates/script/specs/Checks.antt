-- What check answers to a plan of stream lines alone.

use Rattle.std.specs.Prelude.{◌≡◌, ℕ, List, ℤ, pos, Some, None, Ok, Err, Option, Result}
use Rattle.stream.specs.Refusals.{number}
use Rattle.stream.specs.declared.Fault.{Fault}
use Rattle.stream.specs.declared.Refusal.{Refusal}
use Rattle.stream.specs.declared.Refusal.TheVariants.{OutOfShape}
use Rattle.stream.specs.declared.Verdict.{Verdict}
use Rattle.demand.specs.Verdicts.{Decided}
use Rattle.plan.specs.declared.reading.Start.{Start}
use Rattle.plan.specs.Plans.{PlanBank, Planned, Rows, no_rows, plan_kind, rows_in, tables_of}

-- Only stream lines are wanted: a fault in them is a refusal, and so is a go line, which is out of shape.
abbrev pub streams_only : Result (Option Start) Fault → Result (Unit {0}) Refusal
streams_only (Ok None) = Ok tt
streams_only (Ok (Some start)) = Err OutOfShape
streams_only (Err fault) = Err fault.refusal

-- The plan is read to the end of the text, and the join of its tables is tested as it is.
pub data Found (text : List ℕ) : Result Verdict Refusal → Type 0 where
  unfit : {read : Result (Option Start) Fault} {rest : List ℕ} {end : ℕ} {rows : Rows} {e : Refusal} → Planned text 1 no_rows read rest end rows → streams_only read ≡ Err e → Found text (Err e)
  tested : {read : Result (Option Start) Fault} {rest : List ℕ} {end : ℕ} {answer : Result Verdict Refusal} (bank : PlanBank) → Planned text 1 no_rows read rest end (rows_in (tables_of bank)) → streams_only read ≡ Ok tt → Decided plan_kind bank answer → Found text answer

-- 0 for a plan that may run, else the number of its refusal
abbrev pub told : Result Verdict Refusal → ℤ
told (Ok verdict) = pos 0
told (Err e) = pos (number e)

-- what is told is what is found of the text
abbrev pub Checked : List ℕ → ℤ → Type 0
Checked text r = (answer : Result Verdict Refusal) × Found text answer × (r ≡ told answer)
