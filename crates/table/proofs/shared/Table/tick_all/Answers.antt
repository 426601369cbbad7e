use Rattle.std.proofs.Common.{Some, get_or, set, ap, sym, ◌∙◌, ◌<◌, length, arith}
use Rattle.std.proofs.lemmas.List.Edits.{map_over_more}
use Rattle.std.proofs.lemmas.Option.{slice_get-get_or}
use Rattle.table.specs.Tables.{states_of, ticked, waiting}
use Rattle.table.proofs.shared.Table.tick_all.Goals as goal

pub loop-at-preserved : goal.loop-at-preserved
loop-at-preserved g c =
    let at = c.loop-at.at in
    let now = states_of c.loop-at.self in
    let s = c.index-deref-at.result in
    let here : at < length now = omega arith in
    let is = c.index-deref-at.is ∙ ap (λ xs. get_or xs at s) c.deref.ensures.0 in
    let set_to = c.set_wait.ensures.states s (slice_get-get_or now at s here ∙ ap Some (sym is)) in (
      c.set_wait.ensures.size ∙ c.loop-at.invariant.0,
      set_to ∙ ap (λ wait. set now at (waiting wait s)) c.wait_after.ensures
          ∙ map_over_more (ticked g.S.Timed.wait_after) (states_of c.args.self.now) now at s (omega arith) c.loop-at.invariant.1 is,
    )
