use Rattle.std.proofs.Common.{ap}
use Rattle.worked.specs.Plans.{rows}
use Rattle.worked.proofs.Twos.{joined_pair}
use Rattle.worked.proofs.admit_two.Goals as goal

pub returns : goal.returns
returns c = (c.bank_of_two.result, joined_pair _ _ c.bank_of_two.result (ap rows c.bank_of_two.ensures.spaced) c.bank_of_two.ensures.aligned, c.admit.ensures.decided)
