-- The orders of points and of pairs.

use Rattle.std.specs.Prelude.{ℕ, Bool, not, ◌&&◌, ◌||◌, ltb, int_lt, nat_lt}
use Rattle.stream.specs.declared.Phase.{Phase}
use Rattle.stream.specs.declared.Phase.TheVariants.{Normal, Overrun}
use Rattle.stream.specs.declared.Point.{Point}

-- by one order, and by a second where the first does not tell two items apart
abbrev pub lexical : {X : Type 0} → (X → X → Bool) → (X → X → Bool) → X → X → Bool
lexical first second x y = first x y || (not (first y x) && second x y)

abbrev pub by_margin : Point → Point → Bool
by_margin p q = int_lt p.margin q.margin

abbrev pub by_length : Point → Point → Bool
by_length p q = nat_lt p.length q.length

-- the normal phase comes before the overrun
abbrev pub stage : Phase → ℕ
stage Normal = 0
stage Overrun = 1

abbrev pub by_phase : Point → Point → Bool
by_phase p q = nat_lt (stage p.phase) (stage q.phase)

-- points by margin, then by length, then by phase
abbrev pub point_below : Point → Point → Bool
point_below = lexical by_margin (lexical by_length by_phase)

-- pairs by their first number, then by their second
abbrev pub pair_below : ℕ × ℕ → ℕ × ℕ → Bool
pair_below = lexical (λ p q. ltb p.0 q.0) (λ p q. ltb p.1 q.1)
