-- A function asked some time back: 0 before its start.

use Rattle.std.proofs.Common.{◌≡◌, ℕ, ◌-◌, ◌<◌, ◌≤◌, le-ltb, lt-ltb}
use Rattle.std.proofs.lemmas.Bool.{cond-true, cond-false}
use Rattle.bank.specs.Ceilings.{back}

pub back_before : (f : ℕ → ℕ) (t v : ℕ) → t < v → back f t v ≡ 0
back_before f t v h = cond-true _ 0 (f (t - v)) (lt-ltb t v h)

pub back_after : (f : ℕ → ℕ) (t v : ℕ) → v ≤ t → back f t v ≡ f (t - v)
back_after f t v h = cond-false _ 0 (f (t - v)) (le-ltb t v h)
