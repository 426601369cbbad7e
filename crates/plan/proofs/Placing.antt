-- Refusals on their way: handed on by `?`, and given a place.

use Rattle.std.proofs.Common.{◌≡◌, ℕ, Some, None, Ok, Err, Option, Result, refl, ap, IsErrAnd}
use Rattle.std.specs.Option.{ok_or}
use Rattle.stream.specs.Faults.{placed, whole_line}
use Rattle.stream.specs.declared.Fault.{Fault}
use Rattle.stream.specs.declared.Layer.{Layer}
use Rattle.stream.specs.declared.Refusal.{Refusal}

-- what the exit of a `?` returns
pub handed_on : {X E : Type 0} (answer : Result X E) (e : E) → IsErrAnd answer (λ y. y ≡ e) → answer ≡ Err e
handed_on (Ok x) e h = absurd h
handed_on (Err y) e h = ap Err h

-- what an answer was before its refusal was given a place
module _ {X : Type 0} (layer : Layer) (line : ℕ) where
  pub placed_ok : (answer : Result X Refusal) (x : X) → placed answer layer line ≡ Ok x → answer ≡ Ok x
  placed_ok (Ok y) x e = cc
  placed_ok (Err f) x e = cc

  pub placed_err : (answer : Result X Refusal) (fault : Fault) → placed answer layer line ≡ Err fault → (answer ≡ Err fault.refusal) × (fault ≡ whole_line fault.refusal layer line)
  placed_err (Ok y) fault e = let no : ⊥ = cc in absurd no
  placed_err (Err f) fault e = (cc, (cc))

-- what was there, from what was made of it
module _ {X E : Type 0} (e : E) where
  pub was_there : (o : Option X) (x : X) → ok_or o e ≡ Ok x → o ≡ Some x
  was_there None x h = let no : ⊥ = cc in absurd no
  was_there (Some y) x h = cc

  pub was_missing : (o : Option X) (f : E) → ok_or o e ≡ Err f → (o ≡ None) × (f ≡ e)
  was_missing None f h = (refl, (cc))
  was_missing (Some y) f h = let no : ⊥ = cc in absurd no
