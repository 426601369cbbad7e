use Rattle.std.proofs.Common.{◌≡◌, ◌<◌, length, get_or, Some, None, sym, refl, ap, ◌∙◌, arith}
use Rattle.std.proofs.lemmas.Option.{slice_get-get_or}
use Rattle.std.specs.List.{slice_get}
use Rattle.table.specs.Shortening.{first_short, shortened}
use Rattle.arrayvec.proofs.ArrayVecLemmas.{items-with_items}
use Rattle.table.proofs.Partly.{partly_more}
use Rattle.table.proofs.Shorts.{Enough, Shortens, all_shortened, none_falls_short}
use Rattle.table.proofs.shared.Table.shorten_all.Goals as goal

pub loop-state-preserved : goal.loop-state-preserved
loop-state-preserved g c =
    let factor = c.args.factor.count in
    let recorded = g.S.Timed.recorded in
    let before = c.deref_mut-state-items.result.now in
    let items = c.loop-state.state-items in
    let i = c.loop-state.state-index in
    let s = get_or items i c.state-item.result in
    let part = c.loop-state.invariant in
    let here : i < length items = omega arith in
    let is : slice_get items i ≡ Some s = slice_get-get_or items i c.state-item.result here in
    let none : first_short recorded factor before ≡ None = ap (first_short recorded factor) c.deref_mut-state-items.ensures.value ∙ c.requires in
    let enough : Enough recorded factor s.stream = none_falls_short recorded factor before none i s (sym (part.left i (omega arith)) ∙ is) in
    let row_is = ap (λ r. r.row) c.with_record-state.ensures.other ∙ c.shorten_record-record.ensures.row (rw c.record.ensures enough) ∙ ap (λ r. shortened factor r.row) c.record.ensures in
    partly_more (Shortens recorded g.S.Timed.alike factor) i before items s _ part here is (row_is, refl, c.with_record-state.ensures.alike)

pub returns-clause-states : goal.returns-clause-states
returns-clause-states g c =
    let vec = c.args.self.now.states in
    let items = c.loop-state.state-items in
    let all = rw c.deref_mut-state-items.ensures.value at (all_shortened g.S.Timed.recorded g.S.Timed.alike c.args.factor.count c.loop-state.state-index _ items c.loop-state.invariant c.loop-state-test.false) in
    rw (items-with_items vec items all.size) all
