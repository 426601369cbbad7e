-- A loop that changes one item of a list after another.

use Rattle.std.proofs.Common.{◌≡◌, ℕ, ◌+◌, ◌-◌, ◌<◌, ◌≤◌, List, length, set, Some, sym, ap, ◌∙◌, subst, ⊎_elim, arith}
use Rattle.std.proofs.lemmas.List.{length-set}
use Rattle.std.proofs.lemmas.Bool.{cases_eq}
use Rattle.std.specs.List.{slice_get}
use Rattle.table.specs.Tables.{Rewaited, state_of, waiting}
use Rattle.table.specs.declared.shared.State.{State}
use Rattle.table.specs.TablesLemmas.{nth_set_same, nth_set_other, state_at, state_numbered}

-- the first i items are changed, each as R says, and the others are as before
pub record Partly {X : Type 0} (R : X → X → Type 0) (i : ℕ) (before later : List X) : Type 0 where
  pub size : length later ≡ length before
  pub done : (k : ℕ) (x : X) → k < i → slice_get before k ≡ Some x → (y : X) × (slice_get later k ≡ Some y) × R x y
  pub left : (k : ℕ) → i ≤ k → slice_get later k ≡ slice_get before k

pub partly_more : {X : Type 0} (R : X → X → Type 0) (i : ℕ) (xs ys : List X) (x y : X) → Partly R i xs ys → i < length ys → slice_get ys i ≡ Some x → R x y → Partly R (i + 1) xs (set ys i y)
partly_more {X} R i xs ys x y part here is changed = record {
  size = length-set ys i y ∙ part.size;
  done = λ k u below was.
      let Done : ℕ → X → Type 0 = λ k u. (z : X) × (slice_get (set ys i y) k ≡ Some z) × R u z in
      ⊎_elim
      (λ (same : k ≡ i).
      let found : Some x ≡ Some u = sym is ∙ part.left i (omega arith) ∙ ap (slice_get xs) (sym same) ∙ was in
      let x_is_u : x ≡ u = cc in
      let now : Done i x = (y, nth_set_same ys i y here, changed) in
      let P : ℕ → Type 0 = λ k. Done k u in
      let Q : X → Type 0 = λ u. Done i u in
      subst P (sym same) (subst Q x_is_u now))
      (λ (other : k ≡ i → ⊥).
      let past : k < i = omega arith in
      let was_done = part.done k u past was in
      (was_done.0, nth_set_other ys i k y other ∙ was_done.1, was_done.2))
      (cases_eq k i);
  left = λ k from. nth_set_other ys i k y (λ same. omega arith) ∙ part.left k (omega arith);
}

pub partly_all : {S : Type 0} (R : State S → State S → Type 0) (i : ℕ) (xs ys : List (State S)) → Partly R i xs ys → length xs ≤ i → (j : ℕ) (s : State S) → state_of xs j ≡ Some s → (t : State S) × (state_of ys j ≡ Some t) × R s t
partly_all R i xs ys part all j s is =
    let at = state_numbered xs j s is in
    let done = part.done (j - 1) s (omega arith) (sym (state_at xs j at.0) ∙ is) in
    (done.0, state_at ys j at.0 ∙ done.1, done.2)

-- a loop that gives each state a wait of which W holds
abbrev pub Rewaits : {S : Type 0} → (S → ℕ → Type 0) → State S → State S → Type 0
Rewaits W s t = (wait : ℕ) × (t ≡ waiting wait s) × W s.stream wait

pub partly_rewaited : {S : Type 0} (W : S → ℕ → Type 0) (i : ℕ) (xs ys : List (State S)) → Partly (Rewaits W) i xs ys → length xs ≤ i → Rewaited (λ i. W) xs ys
partly_rewaited W i xs ys part all = record {
  size = part.size;
  waits = λ j s is. let done = partly_all (Rewaits W) i xs ys part all j s is in (done.2.0, done.1 ∙ ap Some done.2.1, done.2.2);
}
