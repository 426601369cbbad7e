-- What the program prints.

use Rattle.std.specs.Prelude.{ℕ, List, Option}
use Rattle.std.specs.Io.KnownBytes.{Appends}
use Rattle.script.specs.Replays.{ReplayedUpto}

-- what replay writes for a text follows what was printed before
abbrev pub Printed : List ℕ → Option (List ℕ) → Option (List ℕ) → Type 0
Printed text before after = (written : List ℕ) × ReplayedUpto text written × Appends before after written
