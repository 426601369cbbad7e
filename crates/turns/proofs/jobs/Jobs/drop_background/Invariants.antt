use Rattle.std.proofs.Common.{◌≡◌, ◌++◌, map, take, drop, length}
use Rattle.turns.specs.Jobs.{shed}
use Rattle.turns.proofs.jobs.Jobs.drop_background.Given as goal

abbrev pub invariant-loop-place : goal.invariant-loop-place
invariant-loop-place l =
    (length l.place-items ≡ 32) × (l.place-items ≡ map shed (take l.place-index l.initial.place-items) ++ drop l.place-index l.initial.place-items)
