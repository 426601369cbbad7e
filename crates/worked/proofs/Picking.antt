-- Who is picked where two jobs wait, and how a turn ends for the lock.

use Rattle.std.proofs.Common.{◌≡◌, ◌↔◌, ℕ, zero, suc, ◌+◌, ◌-◌, ◌<◌, ◌≤◌, Bool, true, false, List, ◌∷◌, get_or, replicate, is_some, Some, None, Option, Result, sym, refl, ap, ◌∙◌, subst, ⊎_elim, arith}
use borrow.Author.Tests.{clash}
use Rattle.std.proofs.lemmas.List.{get_or-replicate, get_or_past}
use Rattle.std.proofs.lemmas.Bool.{cases_lt}
use Rattle.stream.specs.declared.Phase.{Phase}
use Rattle.stream.specs.declared.Phase.TheVariants.{Normal, Overrun}
use Rattle.stream.specs.declared.Refusal.{Refusal}
use Rattle.stream.specs.declared.Row.{Row}
use Rattle.stream.specs.declared.Verdict.{Verdict}
use Rattle.least.specs.Orders.{pair_below}
use Rattle.turns.specs.Jobs.{ending, job_of, released, worked}
use Rattle.turns.specs.Steps.{Next, after_turn, end_of, ended, key, ticked}
use Rattle.turns.specs.declared.End.{End}
use Rattle.turns.specs.declared.End.TheVariants.{Finished, Switch}
use Rattle.turns.specs.declared.Job.{Job}
use Rattle.turns.specs.declared.State.{State as Worker}
use Rattle.turns.specs.declared.Turn.{Turn}
use Rattle.turns.specs.declared.Turn.TheVariants.{Idle, Of}
use Rattle.worked.specs.Plans.{both_released, critical, background}

nobody : (n : ℕ) (j : Job) → get_or (replicate 30 None) n None ≡ Some j → ⊥
nobody n j is =
    ⊎_elim
    (λ (l : n < 30). clash (ap is_some (sym (get_or-replicate 30 n None None l) ∙ is)))
    (λ (l : 30 ≤ n). clash (ap is_some (sym (get_or_past (replicate 30 None) n None l) ∙ is)))
    (cases_lt n 30)

-- who is next, of two
pub first_next : (s : Worker) (a : Job) (second : Option Job) → s.jobs ≡ Some a ∷ second ∷ replicate 30 None → pair_below (key s.mode 1 a) (key s.mode 1 a) ≡ false → ((o : Job) → second ≡ Some o → pair_below (key s.mode 2 o) (key s.mode 1 a) ≡ false) → Next s (Of 1)
first_next s a second is self other = (omega arith, a, ap (λ (js : List (Option Job)). job_of js 1) is, each)
  where
    each : (n : ℕ) (o : Job) → 1 ≤ n → job_of s.jobs n ≡ Some o → pair_below (key s.mode n o) (key s.mode 1 a) ≡ false
    each zero o some there = let z : ⊥ = omega arith in absurd z
    each (suc zero) o some there =
        let same : Some a ≡ Some o = sym (ap (λ (js : List (Option Job)). job_of js 1) is) ∙ there in
        let one : a ≡ o = cc in
        subst (λ (x : Job). pair_below (key s.mode 1 x) (key s.mode 1 a) ≡ false) one self
    each (suc (suc zero)) o some there = other o (sym (ap (λ (js : List (Option Job)). job_of js 2) is) ∙ there)
    each (suc (suc (suc n))) o some there =
        let at : suc (suc (suc n)) - 1 ≡ suc (suc n) = omega arith in
        absurd (nobody n o (sym (ap (λ (js : List (Option Job)). get_or js (suc (suc n)) None) is) ∙ ap (λ (m : ℕ). get_or s.jobs m None) (sym at) ∙ there))

pub second_next : (s : Worker) (a : Job) → s.jobs ≡ None ∷ Some a ∷ replicate 30 None → pair_below (key s.mode 2 a) (key s.mode 2 a) ≡ false → Next s (Of 2)
second_next s a is self = (omega arith, a, ap (λ (js : List (Option Job)). job_of js 2) is, each)
  where
    each : (n : ℕ) (o : Job) → 1 ≤ n → job_of s.jobs n ≡ Some o → pair_below (key s.mode n o) (key s.mode 2 a) ≡ false
    each zero o some there = let z : ⊥ = omega arith in absurd z
    each (suc zero) o some there = absurd (clash (ap is_some (sym (ap (λ (js : List (Option Job)). job_of js 1) is) ∙ there)))
    each (suc (suc zero)) o some there =
        let same : Some a ≡ Some o = sym (ap (λ (js : List (Option Job)). job_of js 2) is) ∙ there in
        let one : a ≡ o = cc in
        subst (λ (x : Job). pair_below (key s.mode 2 x) (key s.mode 2 a) ≡ false) one self
    each (suc (suc (suc n))) o some there =
        let at : suc (suc (suc n)) - 1 ≡ suc (suc n) = omega arith in
        absurd (nobody n o (sym (ap (λ (js : List (Option Job)). get_or js (suc (suc n)) None) is) ∙ ap (λ (m : ℕ). get_or s.jobs m None) (sym at) ∙ there))

lock_picked : (v : Result Verdict Refusal) (turn : Turn) → Next (both_released (critical 4 2) (background 3 6) 4294967294 v) turn → turn ≡ Of 1
lock_picked v Idle none = absurd (clash (sym (ap is_some (none 1))))
lock_picked v (Of zero) next = let z : ⊥ = omega arith in absurd z
lock_picked v (Of (suc zero)) next = refl
lock_picked v (Of (suc (suc zero))) (some, j, is, least) =
    let one : released (background 3 6) 4294967294 ≡ j = cc in
    let below = least 1 (released (critical 4 2) 4294967294) (omega arith) refl in
    absurd (clash (sym (subst (λ (x : Job). pair_below (4294967296, 1) (key Normal 2 x) ≡ false) (sym one) below)))
lock_picked v (Of (suc (suc (suc n)))) (some, j, is, least) =
    let s = both_released (critical 4 2) (background 3 6) 4294967294 v in
    let at : suc (suc (suc n)) - 1 ≡ suc (suc n) = omega arith in
    absurd (nobody n j (ap (λ (m : ℕ). get_or s.jobs m None) (sym at) ∙ is))

pub lock_first : (v : Result Verdict Refusal) (turn : Turn) → Next (both_released (critical 4 2) (background 3 6) 4294967294 v) turn ↔ (turn ≡ Of 1)
lock_first v turn = (
  lock_picked v turn,
  λ is.
      let s = both_released (critical 4 2) (background 3 6) 4294967294 v in
      let second = released (background 3 6) 4294967294 in
      subst (Next s) (sym is) (first_next s (released (critical 4 2) 4294967294) (Some second) refl refl (λ o e. let one : second ≡ o = cc in subst (λ (j : Job). pair_below (key Normal 2 j) (4294967296, 1) ≡ false) one refl)),
)

turn_ends : (s : Worker) (j : Job) (done : Bool) → s.mode ≡ Normal → j.row ≡ critical 4 2 → j.units ≡ 1 → end_of s.mode j done ≡ ending Normal (critical 4 2) 2 done
turn_ends s j done mode row units = ap (λ (m : Phase). ending m j.row (j.units + 1) done) mode ∙ ap (λ (r : Row). ending Normal r (j.units + 1) done) row ∙ ap (λ (n : ℕ). ending Normal (critical 4 2) (n + 1) done) units

pub lock_done : (s : Worker) (j : Job) → s.mode ≡ Normal → j.row ≡ critical 4 2 → j.units ≡ 1 → (end_of s.mode j true ≡ Finished) × ((after_turn s (Some (1, j)) true).mode ≡ Normal)
lock_done s j mode row units = (refl, mode)

pub lock_not_done : (s : Worker) (j : Job) → s.mode ≡ Normal → j.row ≡ critical 4 2 → j.units ≡ 1 → (end_of s.mode j false ≡ Switch) × ((after_turn s (Some (1, j)) false).mode ≡ Overrun)
lock_not_done s j mode row units = let is = turn_ends s j false mode row units in (is, ap (λ (e : End). (ended (ticked s) 1 (worked j) e).mode) is)
