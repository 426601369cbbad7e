use Rattle.std.proofs.Common.{refl, rules}
use Rattle.text.proofs.Exits.{exits}
use Rattle.text.proofs.Grammar.{at_class, at_bracket, at_budget, at_certain, at_short, at_deadline, at_gap}
use Rattle.text.proofs.cursor.Cursor.row.Goals as goal

pub returns-in_err-class : goal.returns-in_err-class
returns-in_err-class c =
    exits c.args.self.now c.args.self.now _ c.from_residual.result c.from_residual.ensures.1 refl (at_class c.args.close.now c.args.self.now.rest.now) c.in_err-class.ensures

pub returns-in_err-word : goal.returns-in_err-word
returns-in_err-word c =
    exits c.args.self.now c.class.new.self _ c.from_residual-in_err-word.result c.from_residual-in_err-word.ensures.1 (search rules) (λ k. at_bracket c.args.close.now c.in_ok-class.class _ _ k c.in_ok-class.ensures.0) c.in_err-word.ensures

pub returns-in_err-budget : goal.returns-in_err-budget
returns-in_err-budget c =
    exits c.args.self.now c.word.new.self _ c.from_residual-in_err-budget.result c.from_residual-in_err-budget.ensures.1 (search rules) (at_budget c.args.close.now c.in_ok-class.class c.in_ok-class.ensures.0 c.in_ok-word.ensures.0) c.in_err-budget.ensures

pub returns-in_err-certain : goal.returns-in_err-certain
returns-in_err-certain c =
    exits c.args.self.now c.number.new.self _ c.from_residual-in_err-certain.result c.from_residual-in_err-certain.ensures.1 (search rules) (at_certain c.args.close.now c.in_ok-class.class c.in_ok-class.ensures.0 c.in_ok-word.ensures.0 c.in_ok-budget.ensures.0) c.in_err-certain.ensures

pub returns-in_err-short : goal.returns-in_err-short
returns-in_err-short c =
    exits c.args.self.now c.number-2.new.self _ c.from_residual-in_err-short.result c.from_residual-in_err-short.ensures.1 (search rules) (at_short c.args.close.now c.in_ok-class.class c.in_ok-class.ensures.0 c.in_ok-word.ensures.0 c.in_ok-budget.ensures.0 c.in_ok-certain.ensures.0) c.in_err-short.ensures

pub returns-in_err-deadline : goal.returns-in_err-deadline
returns-in_err-deadline c =
    exits c.args.self.now c.number-3.new.self _ c.from_residual-in_err-deadline.result c.from_residual-in_err-deadline.ensures.1 (search rules) (at_deadline c.args.close.now c.in_ok-class.class c.in_ok-class.ensures.0 c.in_ok-word.ensures.0 c.in_ok-budget.ensures.0 c.in_ok-certain.ensures.0 c.in_ok-short.ensures.0) c.in_err-deadline.ensures

pub returns-in_err-gap : goal.returns-in_err-gap
returns-in_err-gap c =
    exits c.args.self.now c.number-4.new.self _ c.from_residual-in_err-gap.result c.from_residual-in_err-gap.ensures.1 (search rules) (at_gap c.args.close.now c.in_ok-class.class c.in_ok-class.ensures.0 c.in_ok-word.ensures.0 c.in_ok-budget.ensures.0 c.in_ok-certain.ensures.0 c.in_ok-short.ensures.0 c.in_ok-deadline.ensures.0) c.in_err-gap.ensures
