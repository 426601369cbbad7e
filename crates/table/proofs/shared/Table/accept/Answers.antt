use Rattle.std.proofs.Common.{◌≡◌, Some, sym, ap, ◌∙◌}
use Rattle.std.specs.Option.{option_map}
use Rattle.table.specs.Tabled.{still}
use Rattle.table.specs.Tables.{states_of, state_of}
use Rattle.table.specs.Keeping.{gap_closes, open_accepted}
use Rattle.table.specs.Openings.{idle_is_open}
use Rattle.table.proofs.shared.Table.accept.Goals as goal

pub returns-clause-answer : goal.returns-clause-answer
returns-clause-answer g c =
    let recorded = g.S.Timed.recorded in
    let states = states_of c.args.self.now in
    let i = c.args.stream in
    let s = c.in_ok-state.state.now in
    let is : state_of states i ≡ Some s = sym c.state.ensures ∙ ap (option_map (λ x. x.now)) c.in_ok-state.ensures.ok_part in
    let gap = ap (λ r. r.gap) c.row-gap.ensures ∙ ap (λ r. r.row.gap) c.record.ensures in
    let closes = gap_closes recorded states (states_of c.set_wait.new.self) i c.row-gap.result.gap s is gap c.set_wait.ensures.states in
    open_accepted (still recorded) c.args.self.now c.set_wait.new.self i (recorded s.stream) (ap (option_map (λ s. recorded s.stream)) is) (idle_is_open recorded states i s is c.if-state-gt0.false) closes
