-- What an act on a table does to the state of each stream.

use Rattle.std.specs.Prelude.{◌≡◌, ℕ, zero, suc, ◌-◌, ◌<◌, ◌≤◌, true, ◌≢◌, List, [], ◌∷◌, map, length, is_some, Some, None, Option, slice_set, refl}
use Rattle.std.proofs.Common.{arith, ⊎_elim, sym, ap, subst, ◌∙◌}
use Rattle.std.proofs.lemmas.Bool.{cases_lt, cases_eq, cond-true, cond-false, eq-eqb, ne_eqb}
use Rattle.std.proofs.lemmas.List.{get_or-set_same, length-set}
use Rattle.std.proofs.lemmas.Option.{slice_get-get_or, slice_get-map, slice_get_within}
use Rattle.std.specs.Option.{option_map}
use Rattle.std.specs.List.{slice_get}
use Rattle.table.specs.Tables.{state_of, record_of, waiting, ticked}
use Rattle.table.specs.declared.shared.State.{State}

pub none_not_some : {X : Type 0} (x : X) → None ≢ Some x
none_not_some x e = cc

pub nth_set_same : {X : Type 0} (xs : List X) (i : ℕ) (y : X) → i < length xs → slice_get (slice_set xs i y) i ≡ Some y
nth_set_same xs i y h =
    let long : i < length (slice_set xs i y) = simp length-set h in
    slice_get-get_or (slice_set xs i y) i y long ∙ ap Some (get_or-set_same xs i y y h)

pub nth_set_other : {X : Type 0} (xs : List X) (i j : ℕ) (y : X) → j ≢ i → slice_get (slice_set xs i y) j ≡ slice_get xs j
nth_set_other [] i j y ne = refl
nth_set_other (x ∷ xs) zero zero y ne = absurd (ne refl)
nth_set_other (x ∷ xs) zero (suc j) y ne = refl
nth_set_other (x ∷ xs) (suc i) zero y ne = refl
nth_set_other (x ∷ xs) (suc i) (suc j) y ne = nth_set_other xs i j y (λ e. ne (ap suc e))

pub nth_there : {X : Type 0} (xs : List X) (i : ℕ) → i < length xs → (x : X) × (slice_get xs i ≡ Some x)
nth_there [] i h = let z : ⊥ = omega arith in absurd z
nth_there (x ∷ xs) zero h = (x, refl)
nth_there (x ∷ xs) (suc i) h = nth_there xs i (omega arith)

pub state_at : {S : Type 0} (xs : List (State S)) (i : ℕ) → 1 ≤ i → state_of xs i ≡ slice_get xs (i - 1)
state_at xs i h = cond-false _ None (slice_get xs (i - 1)) (ne_eqb i 0 (λ e. omega arith))

pub state_none : {S : Type 0} (xs : List (State S)) (i : ℕ) → i < 1 → state_of xs i ≡ None
state_none xs i h = cond-true _ None (slice_get xs (i - 1)) (eq-eqb i 0 (omega arith))

-- the streams are those numbered from 1 on
pub state_numbered : {S : Type 0} (xs : List (State S)) (i : ℕ) (s : State S) → state_of xs i ≡ Some s → (1 ≤ i) × (i ≤ length xs)
state_numbered xs i s e =
    ⊎_elim
    (λ (none : i < 1). absurd (none_not_some s (sym (state_none xs i none) ∙ e)))
    (λ (some : 1 ≤ i). let within = slice_get_within xs (i - 1) s (sym (state_at xs i some) ∙ e) in (some, omega arith))
    (cases_lt i 1)

pub state_there : {S : Type 0} (xs : List (State S)) (i : ℕ) → 1 ≤ i → i ≤ length xs → (s : State S) × (state_of xs i ≡ Some s)
state_there xs i some within =
    let there = nth_there xs (i - 1) (omega arith) in
    (there.0, state_at xs i some ∙ there.1)

-- as many streams have the same numbers
pub state_unnumbered : {S : Type 0} (xs ys : List (State S)) (i : ℕ) → length ys ≡ length xs → state_of xs i ≡ None → state_of ys i ≡ None
state_unnumbered {S} xs ys i size none = unnumbered (state_of ys i) refl
  where
    unnumbered : (o : Option (State S)) → state_of ys i ≡ o → state_of ys i ≡ None
    unnumbered None is = is
    unnumbered (Some s) is =
        let at = state_numbered ys i s is in
        let there = state_there xs i at.0 (omega arith) in
        absurd (none_not_some there.0 (sym none ∙ there.1))

-- an act on every state
pub state_of_map : {S T : Type 0} (f : State S → State T) (xs : List (State S)) (i : ℕ) → state_of (map f xs) i ≡ option_map f (state_of xs i)
state_of_map f xs i =
    ⊎_elim
    (λ (none : i < 1). state_none (map f xs) i none ∙ sym (ap (option_map f) (state_none xs i none)))
    (λ (some : 1 ≤ i). state_at (map f xs) i some ∙ slice_get-map f xs (i - 1) ∙ sym (ap (option_map f) (state_at xs i some)))
    (cases_lt i 1)

-- an act on one state
pub state_of_set_same : {S : Type 0} (xs : List (State S)) (i : ℕ) (s t : State S) → state_of xs i ≡ Some s → state_of (slice_set xs (i - 1) t) i ≡ Some t
state_of_set_same xs i s t e =
    let at = state_numbered xs i s e in
    state_at (slice_set xs (i - 1) t) i at.0 ∙ nth_set_same xs (i - 1) t (omega arith)

pub state_of_set_other : {S : Type 0} (xs : List (State S)) (i j : ℕ) (s t : State S) → state_of xs i ≡ Some s → (j ≢ i) → state_of (slice_set xs (i - 1) t) j ≡ state_of xs j
state_of_set_other xs i j s t e ne =
    let at = state_numbered xs i s e in
    ⊎_elim
    (λ (none : j < 1). state_none (slice_set xs (i - 1) t) j none ∙ sym (state_none xs j none))
    (λ (some : 1 ≤ j). state_at (slice_set xs (i - 1) t) j some ∙ nth_set_other xs (i - 1) (j - 1) t (λ same. ne (omega arith)) ∙ sym (state_at xs j some))
    (cases_lt j 1)

-- the records, however long each stream waits
module _ {S R : Type 0} (recorded : S → R) where
  pub record_listed : (xs : List (State S)) (i : ℕ) → 1 ≤ i → i ≤ length xs → is_some (record_of recorded xs i) ≡ true
  record_listed xs i some within = ap (λ (o : Option (State S)). is_some (option_map (λ s. recorded s.stream) o)) (state_there xs i some within).1

  pub record_numbered : (xs : List (State S)) (i : ℕ) (r : R) → record_of recorded xs i ≡ Some r → (1 ≤ i) × (i ≤ length xs)
  record_numbered xs i r e = numbered (state_of xs i) refl e
    where
      numbered : (o : Option (State S)) → state_of xs i ≡ o → option_map (λ s. recorded s.stream) o ≡ Some r → (1 ≤ i) × (i ≤ length xs)
      numbered None is e = absurd (none_not_some r e)
      numbered (Some s) is e = state_numbered xs i s is

  pub record_of_ticked : (wait_after : S → ℕ → ℕ) (xs : List (State S)) (i : ℕ) → record_of recorded (map (ticked wait_after) xs) i ≡ record_of recorded xs i
  record_of_ticked wait_after xs i =
      ap (option_map (λ s. recorded s.stream)) (state_of_map (ticked wait_after) xs i) ∙ same (state_of xs i)
    where
      same : (o : Option (State S)) → option_map (λ s. recorded s.stream) (option_map (ticked wait_after) o) ≡ option_map (λ s. recorded s.stream) o
      same None = refl
      same (Some s) = refl

  pub record_of_set : (wait : ℕ) (xs : List (State S)) (i j : ℕ) (s : State S) → state_of xs i ≡ Some s → record_of recorded (slice_set xs (i - 1) (waiting wait s)) j ≡ record_of recorded xs j
  record_of_set wait xs i j s e =
      let P : ℕ → Type 0 = λ k. record_of recorded (slice_set xs (i - 1) (waiting wait s)) k ≡ record_of recorded xs k in
      ⊎_elim
      (λ (same : j ≡ i). subst P (sym same) (ap (option_map (λ s. recorded s.stream)) (state_of_set_same xs i s (waiting wait s) e) ∙ sym (ap (option_map (λ s. recorded s.stream)) e)))
      (λ (other : j ≡ i → ⊥). ap (option_map (λ s. recorded s.stream)) (state_of_set_other xs i j s (waiting wait s) e other))
      (cases_eq j i)
