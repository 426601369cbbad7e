use Rattle.std.proofs.Common.{◌≡◌, ◌-◌, ◌≤◌, length}
use Rattle.demand.specs.Following.{Follow}
use Rattle.demand.proofs.Followings.{Each}
use Rattle.demand.proofs.following.Following.new.Given as goal

abbrev pub invariant-loop-number : goal.invariant-loop-number
invariant-loop-number g l =
    (1 ≤ l.number)
    × (l.following.bank.now ≡ l.bank)
    × (l.following.phase ≡ l.fn.phase)
    × (length l.following.streams.items ≡ l.number - 1)
    × Each (Follow g.B.Bank.kind l.bank l.fn.phase 0) l.following.streams.items
