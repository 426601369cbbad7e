use Rattle.std.proofs.Common.{◌+◌, sym, ◌∙◌, arith}
use Rattle.std.proofs.lemmas.Result.{err_from_is_err_and}
use Rattle.demand.proofs.Listing.{common_multiple, least_horizon}
use Rattle.demand.proofs.Multiples.{least_absent, least_more, none_more}
use Rattle.demand.proofs.horizon.common_multiple.Goals as goal
use Rattle.demand.proofs.horizon.common_multiple.Goals.{in-Some+in_ok-h, in_default}

pub loop-stream-preserved : goal.loop-stream-preserved
loop-stream-preserved g c =
    let k = g.B.Bank.kind in
    let b = c.args.bank.now in
    let n = c.loop-stream.stream in
    let l = c.loop-stream.invariant in
    elim c.match-record_of.branch [
      | in-Some+in_ok-h w ↦ let next = rw w.row.ensures at w.in_ok-h.ensures in rw w.h-is (least_more k b n c.loop-stream.h w.in-Some.record (sym c.record_of.ensures ∙ w.in-Some.is) l.0 w.in_ok-h.h next, next.near)
      | in_default w ↦ rw w.h-is (least_absent k b n c.loop-stream.h (sym c.record_of.ensures ∙ w.in_default.is) l.0, l.1)
    ]

pub returns-in_err-h : goal.returns-in_err-h
returns-in_err-h g c =
    let k = g.B.Bank.kind in
    let b = c.args.bank.now in
    let n = c.loop-stream.stream in
    let p = err_from_is_err_and c.from_residual.result c.from_residual.ensures.1 in
    let none = rw c.row.ensures at c.in_err-h.ensures in
    let far = none_more k b n c.loop-stream.h c.in-Some.record (sym c.record_of.ensures ∙ c.in-Some.is) c.loop-stream.invariant.0 none.1 in
    rw (p.1, p.2) (none.0, λ m common. far m (common_multiple k b (n + 1) m common))

pub returns : goal.returns
returns g c = (
  least_horizon g.B.Bank.kind g.met.B.Bank.lawful c.args.bank.now c.loop-stream.stream c.loop-stream.h (omega (arith, c.loop-stream-test.false, c.streams-stream-end.ensures)) c.loop-stream.invariant.0,
  c.loop-stream.invariant.1,
)
