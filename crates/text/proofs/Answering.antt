-- What a reader answers, from what its cursor read of the line that comes next.

use Rattle.std.proofs.Common.{◌≡◌, ℕ, ◌<◌, List, ◌++◌, length, Ok, Err, Result, sym, ap, ◌∙◌, arith, length-append}
use Rattle.stream.specs.declared.Fault.{Fault}
use Rattle.text.specs.declared.cursor.Cursor.{Cursor}
use Rattle.text.specs.Reader.{AllRead}
use Rattle.text.specs.Reading.{ahead, left_at, Reads}
use Rattle.text.proofs.Forms.{form_stays}

-- a line has a byte at least, so that what is left behind it is shorter
pub shortens : (text line rest : List ℕ) → 0 < length line → text ≡ line ++ rest → length rest < length text
shortens text line rest some e = omega (arith, ap length e, length-append line rest)

pub complete : {V : Type 0} (bytes : V → List ℕ) (Good : V → Type 0) → ((v w : V) (x y : List ℕ) → Good v → Good w → bytes v ++ x ≡ bytes w ++ y → v ≡ w) → (before after : Cursor) (answer : Result V Fault) → Reads bytes Good before answer after → AllRead bytes Good (ahead before) answer
complete {V} bytes Good same before after (Ok v) read w more good e = ap (λ (x : V). Ok x) (same v w (ahead after) more read.0.0 good (sym read.0.1 ∙ e))
complete bytes Good same before after (Err fault) strays w more good e = absurd (form_stays bytes Good same (ahead before) w more (left_at before fault) good e strays.leaves)
