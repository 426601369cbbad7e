use Rattle.std.proofs.Common.{◌≡◌, ℕ, ◌-◌, ◌<◌}
use Rattle.stream.specs.declared.Phase.TheVariants.{Normal, Overrun}
use Rattle.demand.specs.Demands.{Fits}
use Rattle.demand.specs.Following.{Upto}
use Rattle.demand.proofs.Nearest.{NearestSoFar}
use Rattle.demand.proofs.scan.scan.Given as goal

abbrev pub invariant-loop-length : goal.invariant-loop-length
invariant-loop-length g l =
    let k = g.B.Bank.kind in
    ((t : ℕ) → t < l.length → Fits k l.bank t)
    × (l.normals.bank.now ≡ l.bank) × (l.normals.phase ≡ Normal) × Upto k l.normals l.length
    × (l.overruns.bank.now ≡ l.bank) × (l.overruns.phase ≡ Overrun) × Upto k l.overruns l.length
    × NearestSoFar k l.bank (l.length - 1) l.nearest
