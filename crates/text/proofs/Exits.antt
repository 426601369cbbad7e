-- The exit of a `?`: the fault of a part is handed on, and stands where what is ahead leaves the whole.

use Rattle.std.proofs.Common.{◌≡◌, ℕ, List, IsErrAnd, Result}
use Rattle.std.proofs.lemmas.Result.{err_from_is_err_and}
use Rattle.stream.specs.declared.Fault.{Fault}
use Rattle.text.specs.declared.cursor.Cursor.{Cursor}
use Rattle.text.specs.Reading.{ahead, Strays, Reads}
use Rattle.text.specs.Words.{Form, Leaves}

pub exits : {V : Type 0} {bytes : V → List ℕ} {Good : V → Type 0} {part : List ℕ → Type 0} {fault : Fault} (before at after : Cursor) (r : Result V Fault) → IsErrAnd r (λ e. e ≡ fault) → at.reader ≡ before.reader → ((k : ℕ) → Leaves part (ahead at) k → Leaves (Form bytes Good) (ahead before) k) → Strays part at fault → Reads bytes Good before r after
exits before at after r gave same leaves strays =
    let p = err_from_is_err_and r gave in
    rw (p.1, p.2) (record { leaves = simp (← same) (leaves _ strays.leaves); place = simp (← same) strays.place; within = simp (← same) strays.within })
