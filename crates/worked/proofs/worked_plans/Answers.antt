use Rattle.worked.proofs.Working.{worked}
use Rattle.worked.proofs.worked_plans.Goals as goal

pub returns-clause-plans : goal.returns-clause-plans
returns-clause-plans g c = worked g.B.Bank.kind g.met.B.Bank.lawful
