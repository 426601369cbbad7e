-- Where a stream of two joined banks is: the left part's streams come first, then the right part's, and none comes past the 33rd.

use Rattle.std.specs.Prelude.{ℕ, ◌-◌, cond, nat_le, Some, None, Option}
use Rattle.either.specs.declared.Either.{Either}
use Rattle.either.specs.declared.Either.TheVariants.{Left, Right}

-- a part, and the number of a stream in it
abbrev pub Part : Type 0
Part = Either ℕ ℕ

-- stream i, where the left part has so many streams
abbrev pub route : ℕ → ℕ → Option Part
route before i = cond (nat_le i before) (Some (Left i)) (cond (nat_le i 33) (Some (Right (i - before))) None)
