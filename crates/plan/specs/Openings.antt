-- How a plan is opened: it is read up to its go line, and the join of its tables is started there.

use Rattle.std.specs.Prelude.{◌≡◌, ℕ, cond, List, Some, None, Ok, Err, nat_lt}
use Rattle.stream.specs.Faults.{whole_line}
use Rattle.stream.specs.declared.Fault.{Fault}
use Rattle.stream.specs.declared.Layer.{Layer}
use Rattle.stream.specs.declared.Layer.TheVariants.{Demand, Engine}
use Rattle.stream.specs.declared.Refusal.{Refusal}
use Rattle.stream.specs.declared.Verdict.{Verdict}
use Rattle.text.specs.Places.{out_of_shape}
use Rattle.turns.specs.Law.{NoneLate}
use Rattle.turns.specs.Steps.{Started, last_moment}
use Rattle.turns.specs.declared.State.{State}
use Rattle.plan.specs.Plans.{PlanBank, Planned, Rows, plan_kind, rows_in, tables_of}
use Rattle.plan.specs.declared.reading.Start.{Start}

-- too late a moment is refused by the engine, else the bank is judged by its demand
abbrev pub start_layer : ℕ → Layer
start_layer moment = cond (nat_lt last_moment moment) Engine Demand

-- Why no run begins: a fault in the plan, no go line, or a refused start, which stands at the go line; and what is left of the text.
pub data Unopened (text : List ℕ) (line : ℕ) (rows : Rows) : Fault → List ℕ → ℕ → Type 0 where
  unread : {fault : Fault} {rest : List ℕ} {end : ℕ} {read : Rows} → Planned text line rows (Err fault) rest end read → Unopened text line rows fault rest end
  endless : {rest : List ℕ} {end : ℕ} {read : Rows} → Planned text line rows (Ok None) rest end read → Unopened text line rows (out_of_shape end 1) rest end
  shut : {start : Start} {rest : List ℕ} {end : ℕ} (bank b : PlanBank) (s : State) (e : Refusal) → Planned text line rows (Ok (Some start)) rest end (rows_in (tables_of bank)) → Started plan_kind bank start.moment b s → s.verdict ≡ Err e → Unopened text line rows (whole_line e (start_layer start.moment) start.line) rest end

-- The plan is read up to its go line, and the join of its tables is started there and accepted: the verdict, the bank and the worker, of which no run is late, and what is left of the text.
pub record Opened (text : List ℕ) (line : ℕ) (rows : Rows) (verdict : Verdict) (b : PlanBank) (s : State) (rest : List ℕ) (end : ℕ) : Type 0 where
  pub start : Start
  pub bank : PlanBank
  pub plan : Planned text line rows (Ok (Some start)) rest end (rows_in (tables_of bank))
  pub begun : Started plan_kind bank start.moment b s
  pub judged : s.verdict ≡ Ok verdict
  pub promise : NoneLate plan_kind b s
