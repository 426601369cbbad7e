use Rattle.std.proofs.Common.{◌<◌, ◌≤◌, ⊎_elim, arith}
use Rattle.std.proofs.lemmas.Bool.{cases_lt}
use Rattle.plan.specs.Plans.{raster_full, raster_unfit, raster_unphased, raster_added}
use Rattle.plan.proofs.Placing.{handed_on}
use Rattle.plan.proofs.tables.Tables.add_raster.Goals as goal

pub returns-in_err-has_room : goal.returns-in_err-has_room
returns-in_err-has_room c = rw (handed_on c.from_residual.result c.in_err-has_room.field-0.0 c.from_residual.ensures.1) (raster_full c.in_err-has_room.ensures.1 c.in_err-has_room.ensures.0)

pub returns-in_err-record : goal.returns-in_err-record
returns-in_err-record c =
    rw (handed_on c.from_residual-in_err-record.result c.in_err-record.field-0.0 c.from_residual-in_err-record.ensures.1) (raster_unfit c.in_ok-has_room.ensures c.in_err-record.ensures)

pub returns : goal.returns
returns c =
    let stream = c.in_ok-record.record in
    let is = c.in_ok-record.ensures.holds in
    ⊎_elim
    (λ (in_gap : c.args.phase < stream.row.gap).
    let there = c.grow.ensures.grown.added (omega (arith, c.in_ok-has_room.ensures)) in_gap in
    rw (there.0, there.2, there.1) (raster_added stream c.in_ok-has_room.ensures is (rw is at in_gap)))
    (λ (past : stream.row.gap ≤ c.args.phase).
    let ((e, told, numbered), same) = c.grow.ensures.grown.outside (omega (arith, c.in_ok-has_room.ensures)) past in
    rw (told, same) (raster_unphased stream c.in_ok-has_room.ensures is (rw is at past) numbered))
    (cases_lt c.args.phase stream.row.gap)
