-- An answer as the user sees it: one line of text, without its newline.

use Rattle.std.specs.Prelude.{ℕ, List, ◌++◌, codes, decimal}
use Rattle.stream.specs.Shown.{fault_line, verdict_line}
use Rattle.text.specs.declared.answer.Answer.{Answer}
use Rattle.text.specs.declared.answer.Answer.TheVariants.{Accepted, Refused, Took, Ran, Calm, Total}
use Rattle.turns.specs.Shown.{counts_line, settled_line}

abbrev pub answer_line : Answer → List ℕ
-- (accepted 6 7 (normal 2 0))
answer_line (Accepted v) = codes "(accepted " ++ (verdict_line v ++ codes ")")
-- (refused 7 P (2 0)), (refused 11 D (3 0) (normal 6 -1))
answer_line (Refused f) = codes "(refused " ++ (fault_line f ++ codes ")")
-- (took 2)
answer_line (Took stream) = codes "(took " ++ (decimal stream ++ codes ")")
-- (ran 2 finished), (ran 0 idle)
answer_line (Ran settled) = codes "(ran " ++ (settled_line settled ++ codes ")")
-- (calm 7)
answer_line (Calm moment) = codes "(calm " ++ (decimal moment ++ codes ")")
-- (total 5 3 1 1 0)
answer_line (Total n) = codes "(total " ++ (counts_line n ++ codes ")")
