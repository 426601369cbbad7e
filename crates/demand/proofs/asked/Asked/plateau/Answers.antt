use Rattle.std.proofs.Common.{◌≡◌, ◌-◌, ◌≤◌, pos, sym, ap, ◌∙◌, subst, arith, rules}
use Rattle.std.specs.Option.{unwrap_or}
use Rattle.bank.specs.Questions.{asked, told}
use Rattle.demand.specs.Watching.{On, moved}
use Rattle.demand.proofs.Listing.{listed_within, listed_ceiling, listed_told}
use Rattle.demand.proofs.Watches.{on_seen, on_moved}
use Rattle.demand.proofs.asked.Asked.plateau.Goals as goal

pub returns-then-m-self : goal.returns-then-m-self
returns-then-m-self g c =
    let s = c.args.self.now in
    let k = g.B.Bank.kind in
    let law = listed_ceiling k g.met.B.Bank.lawful s.bank.now s.entry.now.number s.entry.now.row s.entered.listed in
    let w = listed_within k s.bank.now s.entry.now.number s.entry.now.row s.entered.listed in
    let near = s.within in
    on_seen law w (s.length - c.args.before) s.seen (omega arith) c.requires.seen c.if-m-self.true

pub returns : goal.returns
returns g c =
    let s = c.args.self.now in
    let k = g.B.Bank.kind in
    let N = k.ceiling s.bank.now s.entry.now.number in
    let m = s.length - c.args.before in
    let law = listed_ceiling k g.met.B.Bank.lawful s.bank.now s.entry.now.number s.entry.now.row s.entered.listed in
    let w = listed_within k s.bank.now s.entry.now.number s.entry.now.row s.entered.listed in
    let near = s.within in
    let within : m ≤ 1000000 = omega arith in
    let answer : c.told-level.result ≡ unwrap_or (told (k.records s.bank.now s.entry.now.number) N (asked (pos m))) 0 = search rules in
    let level : c.told-level.result ≡ N m = answer ∙ listed_told k s.bank.now s.entry.now.number s.entry.now.row s.entered.listed m within in
    let made : c.moved.result ≡ moved s.seen m (N m) (k.count s.bank.now s.entry.now.number) s.entry.now.row.gap =
    c.moved.ensures ∙ ap (λ x. moved s.seen m x s.entry.now.count s.entry.now.row.gap) level ∙ ap (λ x. moved s.seen m (N m) x s.entry.now.row.gap) s.entered.counted in
    subst (On N m) (sym made) (on_moved law w m s.seen within c.requires.seen)
