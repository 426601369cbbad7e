-- What a bank tells when it is asked. N and O are 0 below 0; asked about a stream that does not exist, or outside -65,535 to 1,000,000, a bank says that there is none.

use Rattle.std.specs.Prelude.{ℕ, ◌-◌, cond, ℤ, pos, negsuc, Some, None, Option, ◌==◌, nat_le, nat_lt}
use Rattle.stream.specs.declared.limits.Record.{Record}
use Rattle.bank.specs.declared.Question.{Question}
use Rattle.bank.specs.declared.Question.TheVariants.{Outside, Before, At}

abbrev pub asked : ℤ → Question
asked (pos m) = cond (nat_le m 1000000) (At m) Outside
asked (negsuc m) = cond (nat_lt m 65535) Before Outside

abbrev pub told : Option Record → (ℕ → ℕ) → Question → Option ℕ
told None f q = None
told (Some r) f Outside = None
told (Some r) f Before = Some 0
told (Some r) f (At m) = Some (f m)

abbrev pub counted : Option Record → ℕ → Option ℕ
counted None k = None
counted (Some r) k = Some k

-- so many consecutive moments reach from one to that many less 1 later
abbrev pub spanned : ℕ → Question
spanned n = cond (n == 0) Before (asked (pos (n - 1)))
