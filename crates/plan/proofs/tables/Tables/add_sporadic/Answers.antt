use Rattle.std.proofs.Common.{refl, arith}
use Rattle.table.proofs.Views.{raster_size}
use Rattle.plan.specs.Plans.{sporadic_full, sporadic_disordered, sporadic_unfit, sporadic_added}
use Rattle.plan.proofs.Placing.{handed_on}
use Rattle.plan.proofs.tables.Tables.add_sporadic.Goals as goal

pub returns-in_err-has_room : goal.returns-in_err-has_room
returns-in_err-has_room c = rw (handed_on c.from_residual.result c.in_err-has_room.field-0.0 c.from_residual.ensures.1) (sporadic_full c.in_err-has_room.ensures.1 c.in_err-has_room.ensures.0)

pub returns-then-streams-gt0 : goal.returns-then-streams-gt0
returns-then-streams-gt0 c = sporadic_disordered c.in_ok-has_room.ensures (omega (arith, raster_size c.args.self.now.raster)) refl

pub returns-in_err-record : goal.returns-in_err-record
returns-in_err-record c =
    rw (handed_on c.from_residual-in_err-record.result c.in_err-record.field-0.0 c.from_residual-in_err-record.ensures.1) (sporadic_unfit c.in_ok-has_room.ensures (omega (arith, raster_size c.args.self.now.raster)) c.in_err-record.ensures)

pub returns : goal.returns
returns c =
    let there = c.grow.ensures.grown.added (omega (arith, c.in_ok-has_room.ensures)) in
    rw (there.0, there.1) (sporadic_added c.in_ok-record.record c.in_ok-has_room.ensures (omega (arith, raster_size c.args.self.now.raster)) c.in_ok-record.ensures.holds)
