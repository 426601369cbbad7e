use Rattle.std.proofs.Common.{◌≡◌, ◌+◌, length, refl, arith, rules}
use Rattle.demand.specs.Following.{Follow}
use Rattle.demand.specs.Listing.{Listed}
use Rattle.demand.proofs.Followings.{each_more}
use Rattle.demand.proofs.Keeping.{new_kept}
use Rattle.demand.proofs.following.Following.new.Goals as goal
use Rattle.demand.proofs.following.Following.new.Goals.{in-Some, in_default}

pub loop-number-preserved : goal.loop-number-preserved
loop-number-preserved g c =
    let k = g.B.Bank.kind in
    let b = c.args.bank.now in
    let n = c.loop-number.number in
    let streams = c.loop-number.following.streams.items in
    let i = c.loop-number.invariant in
    let next : length streams + 1 ≡ n = omega (arith, i.0, i.3) in
    elim c.match-record_of.branch [
      | in-Some w ↦
          let listed : Listed k b n w.row.result = search rules in
          let counted : w.unwrap_or.result ≡ k.count b n = search rules in
          let new = w.default.ensures in
          let kept = new_kept c.args.phase w.row.result (k.ceiling b n) w.default.result new.0.1.0 new.0.1.1 new.1.0 new.1.1 in
          rw w.following-is (
            omega arith,
            i.1,
            i.2,
            omega (arith, next, w.push.ensures.len),
            rw w.push.ensures.items (each_more (Follow k b c.args.phase 0) streams _ (rw next (record { numbered = refl; entered = record { listed = listed; counted = counted }; kept = kept })) i.4),
          )
      | in_default w ↦ search (rules, g.met.B.Bank.lawful.listed b n i.0 (omega (arith, c.streams-number-end.ensures, c.loop-number-test.true)))
    ]
