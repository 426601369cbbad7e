use Rattle.std.proofs.Common.{◌≡◌, ℕ, ◌+◌, ◌-◌, ◌*◌, ◌<◌, ◌≤◌, sym, ap, ◌∙◌, arith}
use Rattle.stream.specs.declared.Phase.TheVariants.{Overrun}
use Rattle.demand.specs.Shares.{overrun_share, slack}
use Rattle.demand.specs.Watching.{On}
use Rattle.demand.proofs.Keeping.{seen_overrun, asked_kept, overrun_asked}
use Rattle.demand.proofs.Listing.{listed_within, listed_ceiling}
use Rattle.demand.proofs.Widths.{product_fits, certain_fits}
use Rattle.demand.proofs.overrun.critical_watch.Goals as goal
use Rattle.demand.proofs.overrun.critical_watch.Goals.{then-since-row, else-since-row}

pub plateau-plateau-requires-clause-seen : goal.plateau-plateau-requires-clause-seen
plateau-plateau-requires-clause-seen g c = rw c.slack-slack.ensures (c.args.stream.now.watched.overrun c.requires.phase c.requires.critical)

pub less_done-requires : goal.less_done-requires
less_done-requires g c =
    let s = c.args.stream.now in
    let w = listed_within g.B.Bank.kind s.bank.now s.entry.now.number s.entry.now.row s.entered.listed in
    product_fits c.plateau-plateau.result.level s.entry.now.row.certain c.plateau-plateau.ensures.small (certain_fits w c.requires.critical)

pub returns : goal.returns
returns g c =
    let s = c.args.stream.now in
    let r = s.entry.now.row in
    let k = g.B.Bank.kind in
    let N = k.ceiling s.bank.now s.entry.now.number in
    let t = s.length in
    let p = c.plateau-plateau.result in
    let w = listed_within k s.bank.now s.entry.now.number r s.entered.listed in
    let law = listed_ceiling k g.met.B.Bank.lawful s.bank.now s.entry.now.number r s.entered.listed in
    let late = c.requires.late in
    let on : On N (t - slack r) p = rw c.slack-slack.ensures at c.plateau-plateau.ensures in
    let share = overrun_asked r N law w c.requires.critical t p late on in
    let is : c.less_done.result ≡ p.level * r.certain - (r.budget - (t - slack r - p.start)) = rw c.slack-slack.ensures at c.less_done.ensures in
    let ahead = on.ahead in
    let now : overrun_share r N t ≡ c.less_done.result = share t (omega arith) (omega arith) ∙ sym is in
    let steady : (c.if-since-row.end ≤ slack r + p.end) × ((q : ℕ) → t ≤ q → q < c.if-since-row.end → overrun_share r N q ≡ c.less_done.result) =
    elim c.if-since-row.branch [
      | then-since-row x ↦ (omega (arith, x.end-is), λ q from before. let same : q ≡ t = omega (arith, x.end-is) in ap (overrun_share r N) same ∙ now)
      | else-since-row x ↦ (omega (arith, x.end-is, c.slack-slack.ensures), λ q from before. omega (arith, share q from (omega (arith, x.end-is, c.slack-slack.ensures)), is, x.if-since-row.false, c.slack-slack.ensures))
    ] in
    record {
      share = sym now;
      kept = asked_kept Overrun r N (slack r) (λ t p seen. seen_overrun r N t p (λ critical. seen)) t p law w late on c.less_done.result c.if-since-row.end steady.0 steady.1 (let small = product_fits p.level r.certain on.small (certain_fits w c.requires.critical) in omega arith);
    }
