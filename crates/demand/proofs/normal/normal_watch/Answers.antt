use Rattle.std.proofs.Common.{◌+◌, ◌*◌, sym, arith}
use Rattle.stream.specs.declared.Phase.TheVariants.{Normal}
use Rattle.demand.proofs.Keeping.{seen_normal, early_kept, unseen_still, asked_kept, normal_early, normal_asked}
use Rattle.demand.proofs.Listing.{listed_within, listed_ceiling}
use Rattle.demand.proofs.Widths.{product_fits, budget_fits}
use Rattle.demand.proofs.normal.normal_watch.Goals as goal

pub returns-then-stream-row : goal.returns-then-stream-row
returns-then-stream-row g c =
    let s = c.args.stream.now in
    let r = s.entry.now.row in
    let N = g.B.Bank.kind.ceiling s.bank.now s.entry.now.number in
    let seen = s.watched.normal c.requires in
    let none = normal_early r N in
    rw c.idle.ensures (record {
      share = sym (none s.length c.if-stream-row.true);
      kept = early_kept Normal r N r.short s.length s.seen c.if-stream-row.true (λ q within. seen_normal r N q s.seen (unseen_still N r.short s.length s.seen c.if-stream-row.true seen q within)) none;
    })

pub returns : goal.returns
returns g c =
    let s = c.args.stream.now in
    let r = s.entry.now.row in
    let k = g.B.Bank.kind in
    let N = k.ceiling s.bank.now s.entry.now.number in
    let p = c.plateau-plateau.result in
    let on = c.plateau-plateau.ensures in
    let w = listed_within k s.bank.now s.entry.now.number r s.entered.listed in
    let late = c.if-stream-row.false in
    let share = normal_asked r N s.length p late on in
    let ahead = on.ahead in
    record {
      share = sym (share s.length (omega arith) (omega arith));
      kept = asked_kept Normal r N r.short (seen_normal r N) s.length p (listed_ceiling k g.met.B.Bank.lawful s.bank.now s.entry.now.number r s.entered.listed) w late on (p.level * r.budget) (r.short + p.end) (omega arith) share (product_fits p.level r.budget on.small (budget_fits w));
    }
