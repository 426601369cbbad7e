-- The lines of a script after its go line, and their bytes.

use Rattle.std.specs.Prelude.{ℕ, Bool, List, ◌++◌, codes}
use Rattle.text.specs.declared.call.Call.{Call}
use Rattle.text.specs.declared.call.Call.TheVariants.{Release, Turn, Calm}
use Rattle.text.specs.Words.{Form, Small, one_of, numbered}

-- Whether a job is done.
abbrev pub report_bytes : Bool → List ℕ
report_bytes = one_of (codes "yes)\n") (codes "no)\n")

-- (turn yes), after its first bracket
abbrev pub turn_bytes : Bool → List ℕ
turn_bytes done = codes "turn " ++ report_bytes done

-- The bytes of a call after its first bracket.
abbrev pub order_bytes : Call → List ℕ
order_bytes (Release stream) = numbered (codes "release ") stream
order_bytes (Turn done) = turn_bytes done
order_bytes Calm = codes "calm)\n"

-- The bytes of a call, with its newline.
abbrev pub call_bytes : Call → List ℕ
call_bytes call = codes "(" ++ order_bytes call

-- A stream's number has at most 13 digits.
abbrev pub ValidCall : Call → Type 0
ValidCall (Release stream) = Small stream
ValidCall (Turn done) = Unit {0}
ValidCall Calm = Unit {0}

-- The form whose words are the calls.
abbrev pub CallForm : List ℕ → Type 0
CallForm = Form call_bytes ValidCall
