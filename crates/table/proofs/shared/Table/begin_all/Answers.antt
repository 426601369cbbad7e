use Rattle.std.proofs.Common.{◌<◌, length, get_or, refl, arith}
use Rattle.std.proofs.lemmas.Option.{slice_get-get_or}
use Rattle.arrayvec.proofs.ArrayVecLemmas.{items-with_items}
use Rattle.table.proofs.Partly.{Rewaits, partly_more, partly_rewaited}
use Rattle.table.proofs.shared.Table.begin_all.Goals as goal

pub loop-state-preserved : goal.loop-state-preserved
loop-state-preserved g c =
    let items = c.loop-state.state-items in
    let i = c.loop-state.state-index in
    let s = get_or items i c.state-item.result in
    let here : i < length items = omega arith in
    partly_more (Rewaits (g.S.Timed.first_wait c.args.moment)) i c.deref_mut-state-items.result.now items s _ c.loop-state.invariant here
    (slice_get-get_or items i c.state-item.result here) (c.first_wait-state.result, refl, c.first_wait-state.ensures)

pub returns-clause-states : goal.returns-clause-states
returns-clause-states g c =
    let vec = c.args.self.now.states in
    let items = c.loop-state.state-items in
    let rewaited = rw c.deref_mut-state-items.ensures.value at (partly_rewaited (g.S.Timed.first_wait c.args.moment) c.loop-state.state-index _ items c.loop-state.invariant c.loop-state-test.false) in
    rw (items-with_items vec items rewaited.size) rewaited
