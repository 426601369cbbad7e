-- Each step keeps the state of an engine sound.

use Rattle.std.proofs.Common.{◌≡◌, ℕ, ◌+◌, ◌-◌, ◌*◌, ◌<◌, ◌≤◌, Bool, true, false, cond, ◌⊎◌, List, map, length, get_or, is_some, Some, None, count_by, Option, Result, sym, refl, ap, ◌∙◌, subst, inl, inr, ⊎_elim, arith}
use borrow.Author.Tests.{clash}
use Rattle.std.proofs.lemmas.List.{get_or-set_same, get_or-set_other, get_or-map, get_or_past, get_or-replicate, length-set, length-map}
use Rattle.std.proofs.lemmas.List.Sums.{sum_by-set, count_by-le-length}
use Rattle.std.proofs.lemmas.Bool.{cases_eq, cases_lt}
use Rattle.stream.specs.declared.Refusal.{Refusal}
use Rattle.stream.specs.declared.Verdict.{Verdict}
use Rattle.stream.specs.declared.limits.Record.{Record}
use Rattle.demand.proofs.Widths.{short_fits}
use Rattle.turns.proofs.Counting.{sum_map, sum_plus, one_if}
use Rattle.turns.specs.Jobs.{job_of, put, released, worked, waiting, background, is_background, shed}
use Rattle.turns.specs.Steps.{last_moment, is_shut, fresh, with_job, with_turn, ticked, overrun_begun, ended}
use Rattle.turns.specs.declared.End.{End}
use Rattle.turns.specs.declared.End.TheVariants.{Going, Finished, Cut, Switch}
use Rattle.turns.specs.declared.Job.{Job}
use Rattle.turns.specs.declared.State.{State}
use Rattle.turns.specs.declared.Tally.{Tally}
use Rattle.turns.specs.declared.Turn.{Turn}
use Rattle.turns.specs.declared.Turn.TheVariants.{Of}
use Rattle.engine.specs.Sound.{Placed, Sound}

-- a job that is found after one was put is that one or was there before
put_found : (jobs : List (Option Job)) (i n : ℕ) (x : Option Job) (j : Job) → job_of (put jobs i x) n ≡ Some j → (x ≡ Some j) ⊎ (job_of jobs n ≡ Some j)
put_found jobs i n x j is =
    ⊎_elim
    (λ (e : n - 1 ≡ i - 1).
    ⊎_elim
    (λ (l : i - 1 < length jobs). inl (sym (get_or-set_same jobs (i - 1) x None l) ∙ ap (λ (m : ℕ). get_or (put jobs i x) m None) (sym e) ∙ is))
    (λ (l : length jobs ≤ i - 1). let past : job_of (put jobs i x) n ≡ None = get_or_past (put jobs i x) (n - 1) None (omega (arith, length-set jobs (i - 1) x)) in absurd (clash (ap is_some (sym past ∙ is))))
    (cases_lt (i - 1) (length jobs)))
    (λ (ne : n - 1 ≡ i - 1 → ⊥). inr (sym (get_or-set_other jobs (i - 1) (n - 1) x None ne) ∙ is))
    (cases_eq (n - 1) (i - 1))

shed_some : (x : Option Job) (j : Job) → shed x ≡ Some j → x ≡ Some j
shed_some None j e = e
shed_some (Some o) j e = at (background o.row.class) e
  where
    at : (t : Bool) → cond t None (Some o) ≡ Some j → Some o ≡ Some j
    at true z = absurd (clash (ap is_some z))
    at false z = z

shed_found : (jobs : List (Option Job)) (n : ℕ) (j : Job) → job_of (map shed jobs) n ≡ Some j → job_of jobs n ≡ Some j
shed_found jobs n j is =
    ⊎_elim
    (λ (l : n - 1 < length jobs). shed_some (job_of jobs n) j (sym (get_or-map shed jobs (n - 1) None None l) ∙ is))
    (λ (l : length jobs ≤ n - 1). absurd (clash (ap is_some (sym (get_or_past (map shed jobs) (n - 1) None (omega (arith, length-map jobs shed))) ∙ is))))
    (cases_lt (n - 1) (length jobs))

-- counts of the jobs after one was put and after background jobs were dropped
waiting_put : (jobs : List (Option Job)) (i : ℕ) (x : Option Job) → length jobs ≡ 32 → 1 ≤ i → i ≤ 32 → waiting (put jobs i x) + one_if (is_some (job_of jobs i)) ≡ waiting jobs + one_if (is_some x)
waiting_put jobs i x room some in_range = sum_by-set (λ o. one_if (is_some o)) jobs (i - 1) x None (omega arith)

waiting_shed : (jobs : List (Option Job)) → waiting (map shed jobs) + count_by is_background jobs ≡ waiting jobs
waiting_shed jobs =
    let left = sum_map shed (λ o. one_if (is_some o)) (λ o. one_if (is_some (shed o))) (λ _. refl) jobs in
    let all = sum_plus (λ o. one_if (is_some o)) (λ o. one_if (is_some (shed o))) (λ o. one_if (is_background o)) each jobs in
    omega arith
  where
    each : (o : Option Job) → one_if (is_some o) ≡ one_if (is_some (shed o)) + one_if (is_background o)
    each None = refl
    each (Some j) = at (background j.row.class)
      where
        at : (t : Bool) → one_if true ≡ one_if (is_some (cond t None (Some j))) + one_if t
        at true = refl
        at false = refl

backgrounds_few : (jobs : List (Option Job)) → length jobs ≡ 32 → count_by is_background jobs ≤ 32
backgrounds_few jobs room = omega (arith, count_by-le-length is_background jobs)

-- The steps.

pub sound_fresh : (moment : ℕ) (verdict : Result Verdict Refusal) → (is_shut verdict ≡ false → moment ≤ last_moment) → Sound (fresh moment verdict)
sound_fresh moment verdict early = record {
  early = (early, λ turn e. absurd (clash (ap is_some e)));
  placed = λ i e. absurd (clash (ap is_some e));
  worked = λ i j e. absurd (nobody i j e);
  near = λ i j e. absurd (nobody i j e);
  tallied = (refl, omega arith);
}
  where
    nobody : (i : ℕ) (j : Job) → job_of (fresh moment verdict).jobs i ≡ Some j → ⊥
    nobody i j e =
        ⊎_elim
        (λ (l : i - 1 < 32). clash (ap is_some (sym (get_or-replicate 32 (i - 1) None None l) ∙ e)))
        (λ (l : 32 ≤ i - 1). clash (ap is_some (sym (get_or_past (fresh moment verdict).jobs (i - 1) None l) ∙ e)))
        (cases_lt (i - 1) 32)

pub sound_released : (s : State) → Sound s → length s.jobs ≡ 32 → (i : ℕ) (r : Record) → 1 ≤ i → i ≤ 32 → s.turn ≡ None → job_of s.jobs i ≡ None → Sound (with_job s i (released r.row s.moment))
sound_released s sound room i r some in_range out free = record {
  early = sound.early;
  placed = sound.placed;
  worked = λ n o e. ⊎_elim (λ (z : Some j ≡ Some o). let one : j ≡ o = cc in omega (arith, ap (λ (x : Job). x.since) one, ap (λ (x : Job). x.units) one)) (λ z. sound.worked n o z) (put_found s.jobs i n (Some j) o e);
  near = λ n o e. ⊎_elim (λ (z : Some j ≡ Some o). let one : j ≡ o = cc in subst (λ (x : Job). (x.row.short ≤ 65535) × (x.row.deadline ≤ 65535)) one fits) (λ z. sound.near n o z) (put_found s.jobs i n (Some j) o e);
  tallied = (let count = waiting_put s.jobs i (Some j) room some in_range in let before = sound.tallied.0 in omega (arith, ap (λ (x : Option Job). one_if (is_some x)) free), sound.tallied.1);
}
  where
    j : Job
    j = released r.row s.moment

    fits : (r.row.short ≤ 65535) × (r.row.deadline ≤ 65535)
    fits = let all = short_fits r.within in (omega arith, omega arith)

pub sound_turn : (s : State) → Sound s → (turn : Turn) → s.moment < last_moment → Placed (with_turn s turn) → Sound (with_turn s turn)
sound_turn s sound turn before place = record {
  early = (sound.early.0, λ _ _. before);
  placed = place;
  worked = sound.worked;
  near = sound.near;
  tallied = sound.tallied;
}

pub sound_ticked : (s : State) → Sound s → (turn : Turn) → s.turn ≡ Some turn → Sound (ticked s)
sound_ticked s sound turn out =
    let before = sound.early.1 turn out in
    record {
      early = ((λ _. omega arith), λ _ e. absurd (clash (ap is_some e)));
      placed = λ i e. absurd (clash (ap is_some e));
      worked = λ n j e. let u = sound.worked n j e in omega arith;
      near = sound.near;
      tallied = (sound.tallied.0, let t = sound.tallied.1 in omega arith);
    }

-- background jobs are dropped, as many as the tally has room for
sound_dropped : (s : State) → Sound s → s.tally.finished + s.tally.cut + s.tally.dropped + count_by is_background s.jobs ≤ 32 * s.moment → Sound (overrun_begun s)
sound_dropped s sound fit = record {
  early = sound.early;
  placed = sound.placed;
  worked = λ n o e. sound.worked n o (shed_found s.jobs n o e);
  near = λ n o e. sound.near n o (shed_found s.jobs n o e);
  tallied = (let d = waiting_shed s.jobs in let t = sound.tallied.0 in omega arith, omega arith);
}

-- After a turn of stream i's job x is left of it: the job, or nothing and one more that has ended.
sound_left : (s : State) → Sound s → length s.jobs ≡ 32 → (i : ℕ) → s.turn ≡ Some (Of i) → (j : Job) → job_of s.jobs i ≡ Some j → (x : Option Job) → (x ≡ None) ⊎ (x ≡ Some (worked j)) → (tally : Tally) → tally.accepted ≡ s.tally.accepted → tally.finished + tally.cut + tally.dropped + one_if (is_some x) ≡ s.tally.finished + s.tally.cut + s.tally.dropped + 1 → Sound (record (ticked s) { jobs = put s.jobs i x; tally = tally })
sound_left s sound room i out j is x left tally accepted ends =
    let next = sound_ticked s sound (Of i) out in
    let place = sound.placed i out in
    record {
      early = next.early;
      placed = next.placed;
      worked = λ n o e. (kept next n o e).0;
      near = λ n o e. (kept next n o e).1;
      tallied = (let c = waiting_put s.jobs i x room place.0 place.1 in let t = sound.tallied.0 in omega (arith, ap (λ (o : Option Job). one_if (is_some o)) is), let t = sound.tallied.1 in omega arith);
    }
  where
    Kept : Job → Type 0
    Kept o = (o.since + o.units ≤ s.moment + 1) × ((o.row.short ≤ 65535) × (o.row.deadline ≤ 65535))

    kept : Sound (ticked s) → (n : ℕ) (o : Job) → job_of (put s.jobs i x) n ≡ Some o → Kept o
    kept next n o e =
        ⊎_elim
        (λ (z : x ≡ Some o).
        ⊎_elim
        (λ (w : x ≡ None). absurd (clash (ap is_some (sym w ∙ z))))
        (λ (w : x ≡ Some (worked j)). let same : Some (worked j) ≡ Some o = sym w ∙ z in let one : worked j ≡ o = cc in let u = sound.worked i j is in subst Kept one (omega arith, sound.near i j is))
        left)
        (λ (z : job_of s.jobs n ≡ Some o). (next.worked n o z, next.near n o z))
        (put_found s.jobs i n x o e)

pub sound_ended : (s : State) → Sound s → length s.jobs ≡ 32 → (i : ℕ) → s.turn ≡ Some (Of i) → (j : Job) → job_of s.jobs i ≡ Some j → (end : End) → Sound (ended (ticked s) i (worked j) end)
sound_ended s sound room i out j is = by_end
  where
    left : (x : Option Job) → (x ≡ None) ⊎ (x ≡ Some (worked j)) → (tally : Tally) → tally.accepted ≡ s.tally.accepted → tally.finished + tally.cut + tally.dropped + one_if (is_some x) ≡ s.tally.finished + s.tally.cut + s.tally.dropped + 1 → Sound (record (ticked s) { jobs = put s.jobs i x; tally = tally })
    left = sound_left s sound room i out j is

    going : Sound (ended (ticked s) i (worked j) Going)
    going = left (Some (worked j)) (inr refl) s.tally refl refl

    by_end : (end : End) → Sound (ended (ticked s) i (worked j) end)
    by_end Going = going
    by_end Finished = left None (inl refl) (record s.tally { finished = s.tally.finished + 1 }) refl (omega arith)
    by_end Cut = left None (inl refl) (record s.tally { cut = s.tally.cut + 1 }) refl (omega arith)
    by_end Switch =
        let few = backgrounds_few (put s.jobs i (Some (worked j))) (length-set s.jobs (i - 1) (Some (worked j)) ∙ room) in
        let t = sound.tallied.1 in
        sound_dropped (ended (ticked s) i (worked j) Going) going (omega arith)

-- what is sound stays so under another name
pub fields : (s t : State) → t ≡ s → Sound s → Sound t
fields s t e sound = subst Sound (sym e) sound
