use Rattle.std.proofs.Common.{ap}
use Rattle.table.proofs.Phases.{until_this_turn, until_next_turn}
use Rattle.table.proofs.phasing.timing.OnRasterTimed.first_wait.Goals as goal

pub returns-then-past-self : goal.returns-then-past-self
returns-then-past-self c =
    let s = c.args.self.now in
    let gap = ap (λ r. r.gap) c.row-gap.ensures in
    rw gap (until_this_turn c.args.moment s.record.row.gap s.phase s.below (rw gap at c.if-past-self.true))

pub returns-else-past-self : goal.returns-else-past-self
returns-else-past-self c =
    let s = c.args.self.now in
    let gap = ap (λ r. r.gap) c.row-gap.ensures in
    rw gap (until_next_turn c.args.moment s.record.row.gap s.phase s.below (rw gap at c.if-past-self.false))
