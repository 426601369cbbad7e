use Rattle.std.proofs.Common.{length}
use Rattle.judged.proofs.main.Given as goal

abbrev pub decreases-loop-case : goal.decreases-loop-case
decreases-loop-case l = length l.rest
