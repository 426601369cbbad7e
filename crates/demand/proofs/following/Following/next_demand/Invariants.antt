use Rattle.std.proofs.Common.{◌≡◌, ◌+◌, ◌*◌, ◌^◌, ◌≤◌}
use Rattle.demand.specs.Demands.{total, asks}
use Rattle.demand.specs.Following.{Follow}
use Rattle.demand.proofs.Followings.{Passing}
use Rattle.demand.proofs.following.Following.next_demand.Given as goal

abbrev pub invariant-loop-stream : goal.invariant-loop-stream
invariant-loop-stream g l =
    let k = g.B.Bank.kind in
    let b = l.fn.self.bank.now in
    let phase = l.fn.self.phase in
    (l.sum ≡ total l.stream-index (asks k b phase l.length))
    × (l.sum ≤ 2 ^ 37 * l.stream-index)
    × Passing (Follow k b phase (l.length + 1)) (Follow k b phase l.length) l.stream-index l.stream-items
