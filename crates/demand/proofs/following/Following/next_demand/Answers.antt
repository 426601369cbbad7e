use Rattle.std.proofs.Common.{◌+◌, ◌<◌, length, sym, arith}
use Rattle.demand.specs.Demands.{asks}
use Rattle.demand.specs.Following.{Follow}
use Rattle.demand.proofs.Followings.{Passed, passed_asked, passed_steady, passing_none, passing_more}
use Rattle.demand.proofs.Totals.{total_none, total_step}
use Rattle.demand.proofs.following.Following.next_demand.Goals as goal
use Rattle.demand.proofs.following.Following.next_demand.Goals.{then-stream-length, else-stream-length}

pub loop-stream-init : goal.loop-stream-init
loop-stream-init g c =
    let k = g.B.Bank.kind in
    let s = c.args.self.now in
    let b = s.bank.now in
    let t = c.args.length in (
      sym (total_none (asks k b s.phase t)),
      omega arith,
      rw c.deref_mut-stream-items.ensures.value (passing_none (Follow k b s.phase (t + 1)) (Follow k b s.phase t) s.streams.items c.requires.upto.each),
    )

pub loop-stream-preserved : goal.loop-stream-preserved
loop-stream-preserved g c =
    let k = g.B.Bank.kind in
    let s = c.args.self.now in
    let b = s.bank.now in
    let t = c.args.length in
    let i = c.loop-stream.stream-index in
    let items = c.loop-stream.stream-items in
    let within : i < length items = omega (arith, c.loop-stream-test.true, c.loop-stream.auto.stream-items) in
    let here = c.loop-stream.invariant.2.rest i _ (omega arith) within in
    let stream = c.if-stream-length.stream in
    let done : Passed k b s.phase t (i + 1) stream =
    elim c.if-stream-length.branch [
      | then-stream-length w ↦ rw w.stream-is (passed_asked k b s.phase t (i + 1) here _ w.watch-stream.ensures.share w.watch-stream.ensures.kept)
      | else-stream-length w ↦ rw w.stream-is (passed_steady k b s.phase t (i + 1) here w.if-stream-length.false)
    ] in (
      total_step i c.loop-stream.sum stream.watch.steady.share (asks k b s.phase t) c.loop-stream.invariant.0 done.0,
      omega (arith, c.loop-stream.invariant.1, done.1),
      passing_more (Follow k b s.phase (t + 1)) (Follow k b s.phase t) i items stream within done.2 c.loop-stream.invariant.2,
    )
