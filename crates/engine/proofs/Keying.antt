-- The keys of the waiting jobs, collected one stream after another, and who is next by them.

use Rattle.std.proofs.Common.{◌≡◌, ℕ, zero, suc, ◌+◌, ◌-◌, ◌<◌, ◌≤◌, List, [], ◌∷◌, ◌++◌, length, get_or, drop, is_some, Some, None, Option, sym, refl, ap, ◌∙◌, subst, arith, MatchOption}
use borrow.Author.Tests.{clash}
use Rattle.std.proofs.lemmas.List.{append_assoc, append-nil, at_drop_more, drop_all}
use Rattle.stream.specs.declared.Phase.{Phase}
use Rattle.least.specs.Firsts.{FirstLeast}
use Rattle.least.specs.Orders.{pair_below}
use Rattle.turns.specs.Jobs.{job_of}
use Rattle.turns.specs.Steps.{Next, key}
use Rattle.turns.specs.declared.Job.{Job}
use Rattle.turns.specs.declared.State.{State}
use Rattle.turns.specs.declared.Turn.{Turn}
use Rattle.turns.specs.declared.Turn.TheVariants.{Idle, Of}

-- the keys of all waiting jobs from stream i on, in the order of their streams
abbrev pub keys : Phase → ℕ → List (Option Job) → List (ℕ × ℕ)
keys mode i [] = []
keys mode i (None ∷ jobs) = keys mode (i + 1) jobs
keys mode i (Some j ∷ jobs) = key mode i j ∷ keys mode (i + 1) jobs

-- what has been collected, with the keys of the jobs from place `at` on, gives all keys
abbrev pub Collected : Phase → List (Option Job) → ℕ → List (ℕ × ℕ) → Type 0
Collected mode jobs at found = found ++ keys mode (at + 1) (drop at jobs) ≡ keys mode 1 jobs

at_place : (mode : Phase) (jobs : List (Option Job)) (at : ℕ) (x : Option Job) → at < length jobs → get_or jobs at None ≡ x → keys mode (at + 1) (drop at jobs) ≡ keys mode (at + 1) (x ∷ drop (at + 1) jobs)
at_place mode jobs at x here is = at_drop_more (keys mode (at + 1)) jobs at None here ∙ ap (λ (o : Option Job). keys mode (at + 1) (o ∷ drop (at + 1) jobs)) is

pub collected_free : (mode : Phase) (jobs : List (Option Job)) (at : ℕ) (found : List (ℕ × ℕ)) → at < length jobs → get_or jobs at None ≡ None → Collected mode jobs at found → Collected mode jobs (at + 1) found
collected_free mode jobs at found here none h = ap (λ (ks : List (ℕ × ℕ)). found ++ ks) (sym (at_place mode jobs at None here none)) ∙ h

pub collected_job : (mode : Phase) (jobs : List (Option Job)) (at : ℕ) (found : List (ℕ × ℕ)) (j : Job) → at < length jobs → get_or jobs at None ≡ Some j → Collected mode jobs at found → Collected mode jobs (at + 1) (found ++ key mode (at + 1) j ∷ [])
collected_job mode jobs at found j here is h =
    append_assoc found (key mode (at + 1) j ∷ []) (keys mode (at + 1 + 1) (drop (at + 1) jobs))
    ∙ ap (λ (ks : List (ℕ × ℕ)). found ++ ks) (sym (at_place mode jobs at (Some j) here is)) ∙ h

pub collected_all : (mode : Phase) (jobs : List (Option Job)) (at : ℕ) (found : List (ℕ × ℕ)) → length jobs ≤ at → Collected mode jobs at found → found ≡ keys mode 1 jobs
collected_all mode jobs at found past h = sym (append-nil found) ∙ sym (ap (λ (xs : List (Option Job)). found ++ keys mode (at + 1) xs) (drop_all at jobs past)) ∙ h

-- each waiting job has a key, and each key is of a waiting job
key_there : (mode : Phase) (first : ℕ) (jobs : List (Option Job)) (n : ℕ) (j : Job) → get_or jobs n None ≡ Some j → (p : ℕ) × (p < length (keys mode first jobs)) × ((d : ℕ × ℕ) → get_or (keys mode first jobs) p d ≡ key mode (first + n) j)
key_there mode first [] n j is = absurd (clash (ap is_some is))
key_there mode first (None ∷ jobs) zero j is = absurd (clash (ap is_some is))
key_there mode first (None ∷ jobs) (suc n) j is =
    let h = key_there mode (first + 1) jobs n j is in
    let e : first + 1 + n ≡ first + suc n = omega arith in
    (h.0, h.1, λ d. h.2 d ∙ ap (λ (m : ℕ). key mode m j) e)
key_there mode first (Some o ∷ jobs) zero j is = let one : o ≡ j = cc in let e : first ≡ first + 0 = omega arith in (0, omega arith, λ d. ap (key mode first) one ∙ ap (λ (m : ℕ). key mode m j) e)
key_there mode first (Some o ∷ jobs) (suc n) j is =
    let h = key_there mode (first + 1) jobs n j is in
    let e : first + 1 + n ≡ first + suc n = omega arith in
    (suc h.0, let l = h.1 in omega arith, λ d. h.2 d ∙ ap (λ (m : ℕ). key mode m j) e)

key_of_job : (mode : Phase) (first : ℕ) (jobs : List (Option Job)) (p : ℕ) → p < length (keys mode first jobs) → (n : ℕ) × (j : Job) × (get_or jobs n None ≡ Some j) × (n < length jobs) × ((d : ℕ × ℕ) → get_or (keys mode first jobs) p d ≡ key mode (first + n) j)
key_of_job mode first [] p h = let z : ⊥ = omega arith in absurd z
key_of_job mode first (None ∷ jobs) p h =
    let r = key_of_job mode (first + 1) jobs p h in
    let e : first + 1 + r.0 ≡ first + suc r.0 = omega arith in
    (suc r.0, r.1, r.2, let l = r.3 in omega arith, λ d. r.4 d ∙ ap (λ (m : ℕ). key mode m r.1) e)
key_of_job mode first (Some o ∷ jobs) zero h = let e : first ≡ first + 0 = omega arith in (0, o, refl, omega arith, λ d. ap (λ (m : ℕ). key mode m o) e)
key_of_job mode first (Some o ∷ jobs) (suc p) h =
    let r = key_of_job mode (first + 1) jobs p (omega arith) in
    let e : first + 1 + r.0 ≡ first + suc r.0 = omega arith in
    (suc r.0, r.1, r.2, let l = r.3 in omega arith, λ d. r.4 d ∙ ap (λ (m : ℕ). key mode m r.1) e)

-- the least key tells who is next
next_job : (s : State) (items : List (ℕ × ℕ)) (item : ℕ × ℕ) → items ≡ keys s.mode 1 s.jobs → FirstLeast pair_below items (Some item) → Next s (Of item.1)
next_job s items item is (b, best, at) =
    let mode = s.mode in
    let r = key_of_job mode 1 s.jobs b (subst (λ (xs : List (ℕ × ℕ)). b < length xs) is best.0) in
    let found : (d : ℕ × ℕ) → get_or items b d ≡ key mode (1 + r.0) r.1 = λ d. ap (λ (xs : List (ℕ × ℕ)). get_or xs b d) is ∙ r.4 d in
    let chosen : item ≡ key mode (1 + r.0) r.1 = at ∙ found item in
    let number : item.1 ≡ 1 + r.0 = ap (λ (x : ℕ × ℕ). x.1) chosen in
    let place : item.1 - 1 ≡ r.0 = omega arith in (
      omega arith,
      r.1,
      ap (λ (n : ℕ). get_or s.jobs n None) place ∙ r.2,
      λ other o some there.
          let h = key_there mode 1 s.jobs (other - 1) o there in
          let again : 1 + (other - 1) ≡ other = omega arith in
          let theirs : get_or items h.0 item ≡ key mode other o = ap (λ (xs : List (ℕ × ℕ)). get_or xs h.0 item) is ∙ h.2 item ∙ ap (λ (m : ℕ). key mode m o) again in
          let not_below = best.1 h.0 item (subst (λ (xs : List (ℕ × ℕ)). h.0 < length xs) (sym is) h.1) in
          ap (λ (x : ℕ × ℕ). pair_below x (key mode item.1 r.1)) (sym theirs) ∙ ap (λ (m : ℕ). pair_below (get_or items h.0 item) (key mode m r.1)) number ∙ ap (λ (x : ℕ × ℕ). pair_below (get_or items h.0 item) x) (sym (found item)) ∙ not_below,
    )

next_idle : (s : State) (items : List (ℕ × ℕ)) → items ≡ keys s.mode 1 s.jobs → FirstLeast pair_below items None → Next s Idle
next_idle s items is none i = by (job_of s.jobs i) refl
  where
    by : (x : Option Job) → job_of s.jobs i ≡ x → x ≡ None
    by None e = refl
    by (Some j) e = let h = key_there s.mode 1 s.jobs (i - 1) j e in let l = h.1 in let z : ⊥ = omega (arith, ap (λ (xs : List (ℕ × ℕ)). length xs) is) in absurd z

-- the job of the least key if there is one, else nobody
pub next_by : (s : State) (items : List (ℕ × ℕ)) (first : Option (ℕ × ℕ)) (turn : Turn) (Q : ℕ × ℕ → Type 0) → items ≡ keys s.mode 1 s.jobs → FirstLeast pair_below items first → MatchOption first (turn ≡ Idle) Q → ((item : ℕ × ℕ) → Q item → turn ≡ Of item.1) → Next s turn
next_by s items (Some item) turn Q is least q gives = subst (Next s) (sym (gives item q)) (next_job s items item is least)
next_by s items None turn Q is least q gives = subst (Next s) (sym q) (next_idle s items is least)
