-- The job of each stream after one was put, and after background jobs were dropped.

use Rattle.std.proofs.Common.{◌≡◌, ℕ, ◌-◌, ◌≤◌, List, map, length, None, Option, sym, subst, ⊎_elim, arith}
use Rattle.std.proofs.lemmas.List.{get_or-set_same, get_or-set_other, get_or-map}
use Rattle.std.proofs.lemmas.Bool.{cases_eq}
use Rattle.turns.specs.Jobs.{job_of, put, shed}
use Rattle.turns.specs.declared.Job.{Job}

pub job_put_same : (jobs : List (Option Job)) (i : ℕ) (x : Option Job) → length jobs ≡ 32 → 1 ≤ i → i ≤ 32 → job_of (put jobs i x) i ≡ x
job_put_same jobs i x room some in_range = get_or-set_same jobs (i - 1) x None (omega arith)

pub job_put_other : (jobs : List (Option Job)) (i j : ℕ) (x : Option Job) → 1 ≤ i → 1 ≤ j → (j ≡ i → ⊥) → job_of (put jobs i x) j ≡ job_of jobs j
job_put_other jobs i j x p q ne = get_or-set_other jobs (i - 1) (j - 1) x None (λ e. ne (omega arith))

-- what holds of the new job and of all others holds of each
pub put_each : (P : ℕ → Option Job → Type 0) (jobs : List (Option Job)) (i : ℕ) (x : Option Job) → length jobs ≡ 32 → 1 ≤ i → i ≤ 32 → P i x → ((j : ℕ) → 1 ≤ j → j ≤ 32 → (j ≡ i → ⊥) → P j (job_of jobs j)) → (j : ℕ) → 1 ≤ j → j ≤ 32 → P j (job_of (put jobs i x) j)
put_each P jobs i x room some in_range here others j p q =
    ⊎_elim
    (λ (e : j ≡ i). subst (λ (n : ℕ). P n (job_of (put jobs i x) n)) (sym e) (subst (P i) (sym (job_put_same jobs i x room some in_range)) here))
    (λ (ne : j ≡ i → ⊥). subst (P j) (sym (job_put_other jobs i j x some p ne)) (others j p q ne))
    (cases_eq j i)

pub job_shed : (jobs : List (Option Job)) (i : ℕ) → length jobs ≡ 32 → 1 ≤ i → i ≤ 32 → job_of (map shed jobs) i ≡ shed (job_of jobs i)
job_shed jobs i room some in_range = get_or-map shed jobs (i - 1) None None (omega arith)
