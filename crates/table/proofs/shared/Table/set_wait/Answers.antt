use Rattle.std.proofs.lemmas.List.{length-set}
use Rattle.std.proofs.lemmas.Option.{get_or_from_slice_get}
use Rattle.std.specs.Prelude.{slice_set}
use Rattle.arrayvec.proofs.ArrayVecLemmas.{items-with_items}
use Rattle.table.specs.Tables.{waiting}
use Rattle.table.proofs.shared.Table.set_wait.Goals as goal

pub returns-clause-states : goal.returns-clause-states
returns-clause-states g c s is =
    let vec = c.args.self.now.states in
    let at = c.args.at in
    let next = waiting c.args.wait s in
    let here = get_or_from_slice_get vec.items at s c.index-deref_mut-at.result is in
    rw (c.deref_mut.ensures.value, here) (items-with_items vec (slice_set vec.items at next) (length-set vec.items at next))
