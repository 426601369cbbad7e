use Rattle.std.proofs.Common.{sym, ◌∙◌}
use Rattle.plan.specs.Openings.{unread, endless, shut}
use Rattle.plan.proofs.Placing.{handed_on, placed_ok, placed_err, was_missing, was_there}
use Rattle.plan.proofs.opening.open_plan.Goals as goal

pub returns-in_err-go : goal.returns-in_err-go
returns-in_err-go c = rw (handed_on c.from_residual.result c.in_err-go.field-0.0 c.from_residual.ensures.1) (unread c.in_err-go.ensures)

pub returns-in_err-start : goal.returns-in_err-start
returns-in_err-start c =
    let m = was_missing c.out_of_shape.result c.in_ok-go.go c.in_err-start.field-0.0 (sym c.ok_or.ensures.value ∙ c.in_err-start.was) in
    rw (handed_on c.from_residual-in_err-start.result c.in_err-start.field-0.0 c.from_residual-in_err-start.ensures.1, m.1, c.out_of_shape.ensures) (endless (rw m.0 at c.in_ok-go.ensures))

pub returns-in_err-verdict : goal.returns-in_err-verdict
returns-in_err-verdict c =
    let there = was_there c.out_of_shape.result c.in_ok-go.go c.in_ok-start.start (sym c.ok_or.ensures.value ∙ c.in_ok-start.was) in
    let q = placed_err c.start_layer.result c.in_ok-start.start.line c.verdict.result c.in_err-verdict.field-0.0 (sym c.at_line.ensures ∙ c.in_err-verdict.was) in
    rw (handed_on c.from_residual-in_err-verdict.result c.in_err-verdict.field-0.0 c.from_residual-in_err-verdict.ensures.1, q.1, c.start_layer.ensures)
    (shut c.into_bank.result c.start-engine.result.bank c.start-engine.result.state c.in_err-verdict.field-0.0.refusal (rw (there, ← c.into_bank.ensures) at c.in_ok-go.ensures) c.start-engine.ensures.started (sym c.verdict.ensures ∙ q.0))

pub returns : goal.returns
returns c =
    let there = was_there c.out_of_shape.result c.in_ok-go.go c.in_ok-start.start (sym c.ok_or.ensures.value ∙ c.in_ok-start.was) in record {
      start = c.in_ok-start.start;
      bank = c.into_bank.result;
      plan = rw (there, ← c.into_bank.ensures) at c.in_ok-go.ensures;
      begun = c.start-engine.ensures.started;
      judged = sym c.verdict.ensures ∙ placed_ok c.start_layer.result c.in_ok-start.start.line c.verdict.result c.in_ok-verdict.verdict (sym c.at_line.ensures ∙ c.in_ok-verdict.was);
      promise = c.start-engine.ensures.promise;
    }
