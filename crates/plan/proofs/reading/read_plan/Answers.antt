use Rattle.std.proofs.Common.{length, sym, ◌∙◌, eqb-true}
use borrow.Author.Tests.{eqb-false}
use Rattle.stream.specs.declared.Layer.TheVariants.{Plan}
use Rattle.text.specs.Reader.{bytes_left}
use Rattle.plan.specs.Plans.{rows_in}
use Rattle.plan.proofs.Placing.{handed_on, placed_ok, placed_err}
use Rattle.plan.proofs.Planning.{Read, read_as, plan_ended, plan_misshapen, plan_go, plan_refused, plan_more}
use Rattle.plan.proofs.reading.read_plan.Goals.{in-Sporadic, in-Raster, Joined-branch-2}
use Rattle.plan.proofs.reading.read_plan.Goals as goal

pub returns-in_err-row : goal.returns-in_err-row
returns-in_err-row c =
    let r = c.loop-reader.reader in
    c.loop-reader.invariant _ _ _ _
    (rw (handed_on c.from_residual.result c.in_err-row.field-0.0 c.from_residual.ensures.1) (plan_misshapen r c.next.new.self (rows_in c.loop-reader.tables) c.in_err-row.field-0.0 (eqb-false (length (bytes_left r)) 0 (sym c.loop-reader-test.ensures)) c.in_err-row.ensures.answer))

pub returns-in-Go : goal.returns-in-Go
returns-in-Go c =
    c.loop-reader.invariant _ _ _ _
    (rw c.line_number-line.ensures (plan_go c.loop-reader.reader c.next.new.self (rows_in c.loop-reader.tables) c.in-Go.moment (rw c.in-Go.is at c.in_ok-row.ensures.answer)))

-- a stream line was read, of either kind
line_read : (c : Joined-branch-2) → Read c.loop-reader.reader c.next.new.self (rows_in c.loop-reader.tables) c.match-branch-2.added (rows_in c.match-branch-2.tables)
line_read c = elim c.match-branch-2.branch [
  | in-Sporadic w ↦ read_as c.in_ok-row.ensures.answer w.in-Sporadic.is w.added-is w.tables-is w.add_sporadic-added.ensures
  | in-Raster w ↦ read_as c.in_ok-row.ensures.answer w.in-Raster.is w.added-is w.tables-is w.add_raster-added.ensures
]

pub loop-reader-preserved : goal.loop-reader-preserved
loop-reader-preserved c answer rest end final planned =
    c.loop-reader.invariant answer rest end final
    (plan_more c.loop-reader.reader c.next.new.self (rows_in c.loop-reader.tables) (line_read (goal.at.loop-reader-preserved c).Joined-branch-2) (placed_ok Plan c.line_number-line.result c.match-branch-2.added tt (sym c.at_line.ensures ∙ c.in_ok-at_line.was)) answer rest end final planned)

pub returns-in_err-at_line : goal.returns-in_err-at_line
returns-in_err-at_line c =
    let q = placed_err Plan c.line_number-line.result c.match-branch-2.added c.in_err-at_line.field-0.0 (sym c.at_line.ensures ∙ c.in_err-at_line.was) in
    c.loop-reader.invariant _ _ _ _
    (rw (handed_on c.from_residual-in_err-at_line.result c.in_err-at_line.field-0.0 c.from_residual-in_err-at_line.ensures.1, q.1, c.line_number-line.ensures)
    (plan_refused c.loop-reader.reader c.next.new.self (rows_in c.loop-reader.tables) c.in_err-at_line.field-0.0.refusal (line_read (goal.at.returns-in_err-at_line c).Joined-branch-2) q.0))

pub returns : goal.returns
returns c = c.loop-reader.invariant _ _ _ _ (plan_ended c.loop-reader.reader c.loop-reader.reader (rows_in c.loop-reader.tables) (eqb-true (length (bytes_left c.loop-reader.reader)) 0 (sym c.loop-reader-test.ensures)))
