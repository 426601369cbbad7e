use Rattle.demand.proofs.Deciding.{scanned}
use Rattle.demand.proofs.admit.Goals as goal

pub returns-clause-decided : goal.returns-clause-decided
returns-clause-decided g c = scanned g.B.Bank.kind c.args.bank.now g.met.B.Bank.lawful c.judge.result c.judge.ensures
