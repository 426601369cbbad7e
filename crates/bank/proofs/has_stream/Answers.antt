use Rattle.std.proofs.Common.{sym, ◌∙◌}
use Rattle.bank.proofs.Ruling.{found, rules_hold, whole_holds}
use Rattle.bank.proofs.has_stream.Goals as goal

pub returns-clause-there : goal.returns-clause-there
returns-clause-there g c = λ there.
    let (r, is) = found c.record_of.result (sym c.is_some.ensures ∙ there) in
    let e = sym c.record_of.ensures ∙ is in
    (r, e, rules_hold g.B.Bank.kind g.met.B.Bank.lawful c.args.bank.now c.args.stream r e)

pub returns-clause-whole : goal.returns-clause-whole
returns-clause-whole g c = whole_holds g.B.Bank.kind g.met.B.Bank.lawful c.args.bank.now
