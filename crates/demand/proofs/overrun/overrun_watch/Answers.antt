use Rattle.std.proofs.Common.{◌≡◌, ℕ, ◌<◌, ◌≤◌, sym, ◌∙◌, arith}
use Rattle.stream.specs.declared.Phase.TheVariants.{Overrun}
use Rattle.demand.specs.Shares.{overrun_share, slack}
use Rattle.demand.specs.Watching.{Watched}
use Rattle.demand.proofs.Keeping.{seen_overrun, early_kept, unseen_still}
use Rattle.demand.proofs.Plateaus.{share_before_slack, share_of_background}
use Rattle.demand.proofs.overrun.overrun_watch.Goals as goal
use Rattle.demand.proofs.overrun.overrun_watch.Goals.{in-Background, in-Critical}

pub returns-then-stream-free : goal.returns-then-stream-free
returns-then-stream-free g c =
    let s = c.args.stream.now in
    let r = s.entry.now.row in
    let N = g.B.Bank.kind.ceiling s.bank.now s.entry.now.number in
    let free = c.match-row.free in
    let early = c.if-stream-free.true in
    let none : ((q : ℕ) → q < free → overrun_share r N q ≡ 0) × ((q : ℕ) → q ≤ free → Watched Overrun r N q s.seen) =
    elim c.match-row.branch [
      | in-Background x ↦ (λ q before. share_of_background r N q x.in-Background.is, λ q within. seen_overrun r N q s.seen (λ critical. absurd (let z : ⊥ = cc in z)))
      | in-Critical x ↦
          let is : free ≡ slack r = x.free-is ∙ x.slack-free.ensures in
          (λ q before. share_before_slack r N q (omega (arith, is)), λ q within. seen_overrun r N q s.seen (λ critical. unseen_still N (slack r) s.length s.seen (omega (arith, is)) (s.watched.overrun c.requires critical) q (omega (arith, is))))
    ] in
    rw c.idle.ensures (record {
      share = sym (none.0 s.length early);
      kept = early_kept Overrun r N free s.length s.seen early none.1 none.0;
    })
