-- How a turn ended, and what became of the jobs, as users see it.

use Rattle.std.specs.Prelude.{ℕ, List, ◌++◌, codes, decimal}
use Rattle.turns.specs.declared.Counts.{Counts}
use Rattle.turns.specs.declared.End.{End}
use Rattle.turns.specs.declared.End.TheVariants.{Going, Finished, Cut, Switch}
use Rattle.turns.specs.declared.Settled.{Settled}
use Rattle.turns.specs.declared.Settled.TheVariants.{Idle, Ran}

abbrev pub end_word : End → List ℕ
end_word Going = codes "going"
end_word Finished = codes "finished"
end_word Cut = codes "cut"
end_word Switch = codes "switch"

-- 2 finished; a turn that nobody had has the number 0
abbrev pub settled_line : Settled → List ℕ
settled_line Idle = codes "0 idle"
settled_line (Ran stream how) = decimal stream ++ (codes " " ++ end_word how)

-- 5 3 1 1 0
abbrev pub counts_line : Counts → List ℕ
counts_line n =
    decimal n.accepted ++ (codes " " ++ (decimal n.finished ++ (codes " " ++ (decimal n.cut ++ (codes " " ++ (decimal n.dropped ++ (codes " " ++ decimal n.waiting)))))))
