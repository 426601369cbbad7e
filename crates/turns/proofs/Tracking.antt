-- A ledger tracks a worker: the modes are equal, each entry is known, each stream has one waiting entry where it has a job and none otherwise, and the counts agree.

use Rattle.std.proofs.Common.{◌≡◌, ℕ, ◌+◌, ◌-◌, ◌<◌, ◌≤◌, Bool, true, false, cond, ◌&&◌, eqb, List, [], ◌∷◌, ◌++◌, map, length, is_some, Some, None, sum_by, count_by, Option, sym, refl, ap, ◌∙◌, subst, ⊎_elim, arith}
use borrow.Author.Tests.{clash}
use Rattle.std.proofs.ByRecursion.{All-map, All-weaker, All-push}
use Rattle.std.proofs.lemmas.List.{length-map, length_push, length-set}
use Rattle.std.proofs.lemmas.List.Sums.{sum_by-cons, sum_by_push}
use Rattle.std.proofs.lemmas.Bool.{cases_Bool, cases_eq, and_parts, and_right, cond-true, cond-false, eqb-true, eq-eqb, ne_eqb}
use Rattle.std.specs.List.{AllByRecursion}
use Rattle.stream.specs.declared.Phase.{Phase}
use Rattle.stream.specs.declared.Phase.TheVariants.{Overrun}
use Rattle.stream.specs.declared.Row.{Row}
use Rattle.stream.specs.declared.limits.Record.{Record}
use Rattle.turns.specs.Jobs.{job_of, put, worked, released, waiting, background, is_background, shed, ending}
use Rattle.turns.specs.Law.{Counted}
use Rattle.turns.specs.Ledgers.{Status, waits, finished, cut, dropped, Entry, Ledger, is_waiting, is_finished, is_cut, is_dropped, sort, waits_for, newcomer, older, end_in, status_after, served, of_background, abandoned, mode_after, left_after}
use Rattle.turns.specs.Steps.{with_job, ticked, overrun_begun, ended}
use Rattle.turns.specs.declared.End.{End}
use Rattle.turns.specs.declared.End.TheVariants.{Going, Finished, Cut, Switch}
use Rattle.turns.specs.declared.Job.{Job}
use Rattle.turns.specs.declared.State.{State}
use Rattle.turns.proofs.Counting.{sum_map, sum_plus, sum_same, sum_none, sum_ones, sum_places, total_same, count_numbers, one_if}
use Rattle.turns.proofs.Entries.{StatusOk, Known, known_older, known_put, Leaves, served_waiting, served_other, known_served, abandoned_yes, abandoned_no, known_shed, waits_true}
use Rattle.turns.proofs.Slots.{job_put_same, put_each, job_shed}

abbrev pub Matched : List (Option Job) → List Entry → Type 0
Matched jobs es = (n : ℕ) → 1 ≤ n → n ≤ 32 → count_by (waits_for n) es ≡ one_if (is_some (job_of jobs n))

pub record Tracks (R : ℕ → Option Record) (s : State) (l : Ledger) : Type 0 where
  pub mode : s.mode ≡ l.mode
  pub known : AllByRecursion (Known R s.moment s.jobs) l.entries
  pub each : Matched s.jobs l.entries
  pub accepted : s.tally.accepted ≡ length l.entries
  pub finishes : s.tally.finished ≡ sort is_finished l.entries
  pub cuts : s.tally.cut ≡ sort is_cut l.entries
  pub drops : s.tally.dropped ≡ sort is_dropped l.entries

-- Entries whose status changes from waiting to another are taken off the one count and added to the other.
sort_changed : (f : Entry → Entry) (w : Entry → Bool) (st : Status) → ((e : Entry) → w e ≡ true → (e.status ≡ waits) × ((f e).status ≡ st)) → ((e : Entry) → w e ≡ false → (f e).status ≡ e.status) → (p : Status → Bool) (es : List Entry) → sort p (map f es) + cond (p waits) (count_by w es) 0 ≡ sort p es + cond (p st) (count_by w es) 0
sort_changed f w st changed same p es =
    let left = sum_map f (λ e. one_if (p e.status)) (λ e. one_if (p (f e).status)) (λ _. refl) es in
    let a = sum_plus (λ e. one_if (p (f e).status) + cond (w e) (one_if (p waits)) 0) (λ e. one_if (p (f e).status)) (λ e. cond (w e) (one_if (p waits)) 0) (λ _. refl) es in
    let b = sum_plus (λ e. one_if (p e.status) + cond (w e) (one_if (p st)) 0) (λ e. one_if (p e.status)) (λ e. cond (w e) (one_if (p st)) 0) (λ _. refl) es in
    let c = sum_same (λ e. one_if (p (f e).status) + cond (w e) (one_if (p waits)) 0) (λ e. one_if (p e.status) + cond (w e) (one_if (p st)) 0) point es in
    omega (arith, counted (p waits), counted (p st))
  where
    counted : (b : Bool) → sum_by (λ e. cond (w e) (one_if b) 0) es ≡ cond b (count_by w es) 0
    counted true = refl
    counted false = sum_none (λ e. cond (w e) 0 0) (λ e. ⊎_elim (λ (h : w e ≡ true). ap (λ (b : Bool). cond {A = ℕ} b 0 0) h) (λ (h : w e ≡ false). ap (λ (b : Bool). cond {A = ℕ} b 0 0) h) (cases_Bool (w e))) es

    point : (e : Entry) → one_if (p (f e).status) + cond (w e) (one_if (p waits)) 0 ≡ one_if (p e.status) + cond (w e) (one_if (p st)) 0
    point e =
        ⊎_elim
        (λ (h : w e ≡ true).
        let was : p e.status ≡ p waits = ap p (changed e h).0 in
        let is : p (f e).status ≡ p st = ap p (changed e h).1 in
        omega (arith, ap one_if was, ap one_if is, cond-true (w e) (one_if (p waits)) 0 h, cond-true (w e) (one_if (p st)) 0 h))
        (λ (h : w e ≡ false).
        let is : p (f e).status ≡ p e.status = ap p (same e h) in
        omega (arith, ap one_if is, cond-false (w e) (one_if (p waits)) 0 h, cond-false (w e) (one_if (p st)) 0 h))
        (cases_Bool (w e))

-- A release.

pub tracks_new : (R : ℕ → Option Record) (s : State) (l : Ledger) (i : ℕ) (r : Record) → 1 ≤ i → i ≤ 32 → R i ≡ Some r → length s.jobs ≡ 32 → job_of s.jobs i ≡ None → Tracks R s l → Tracks R (with_job s i (released r.row s.moment)) (record { mode = l.mode; entries = l.entries ++ newcomer i ∷ [] })
tracks_new R s l i r some in_range e room free h =
    let j : Job = released r.row s.moment in
    let here = job_put_same s.jobs i (Some j) room some in_range in
    record {
      mode = h.mode;
      known = All-push (Known R s.moment (put s.jobs i (Some j))) l.entries (newcomer i)
          (All-weaker (Known R s.moment s.jobs) (Known R s.moment (put s.jobs i (Some j))) (λ en k. known_put R s.moment s.jobs i (Some j) en some (not_here en k) k) l.entries h.known)
          (record { record_of = r; found = e; numbered = (some, in_range); status = (j, here, refl, omega arith) });
      each = put_each (λ n slot. count_by (waits_for n) (l.entries ++ newcomer i ∷ []) ≡ one_if (is_some slot)) s.jobs i (Some j) room some in_range
          (let before : count_by (waits_for i) l.entries ≡ 0 = h.each i some in_range ∙ ap (λ (x : Option Job). one_if (is_some x)) free in omega (arith, sum_by_push (λ en. one_if (waits_for i en)) l.entries (newcomer i), ap one_if (eq-eqb i i refl)))
          (λ n a b ne. let before = h.each n a b in omega (arith, sum_by_push (λ en. one_if (waits_for n en)) l.entries (newcomer i), ap one_if (ne_eqb i n (λ z. ne (sym z)))));
      accepted = let a = h.accepted in omega (arith, length_push l.entries (newcomer i));
      finishes = h.finishes ∙ sym (one_more is_finished refl);
      cuts = h.cuts ∙ sym (one_more is_cut refl);
      drops = h.drops ∙ sym (one_more is_dropped refl);
    }
  where
    one_more : (p : Status → Bool) → p waits ≡ false → sort p (l.entries ++ newcomer i ∷ []) ≡ sort p l.entries
    one_more p no_wait = omega (arith, sum_by_push (λ en. one_if (p en.status)) l.entries (newcomer i), ap one_if no_wait)

    not_here : (en : Entry) → Known R s.moment s.jobs en → waits_for i en ≡ false
    not_here en k =
        ⊎_elim
        (λ (w : waits_for i en ≡ true).
        let parts = and_parts (is_waiting en.status) (eqb en.stream i) w in
        let status : StatusOk k.record_of s.moment (job_of s.jobs en.stream) en waits = subst (StatusOk k.record_of s.moment (job_of s.jobs en.stream) en) (waits_true en.status parts.0) k.status in
        let taken : job_of s.jobs i ≡ Some status.0 = ap (job_of s.jobs) (sym (eqb-true en.stream i parts.1)) ∙ status.1 in
        absurd (clash (ap is_some (sym free ∙ taken))))
        (λ (w : waits_for i en ≡ false). w)
        (cases_Bool (waits_for i en))

-- A tick.

pub tracks_older : (R : ℕ → Option Record) (s : State) (l : Ledger) → Tracks R s l → Tracks R (ticked s) (record { mode = l.mode; entries = map older l.entries })
tracks_older R s l h = record {
  mode = h.mode;
  known = All-map (Known R (s.moment + 1) s.jobs) older l.entries (All-weaker (Known R s.moment s.jobs) (λ en. Known R (s.moment + 1) s.jobs (older en)) (λ en k. known_older R s.moment s.jobs en k) l.entries h.known);
  each = λ n a b. sum_map older (λ en. one_if (waits_for n en)) (λ en. one_if (waits_for n en)) (λ _. refl) l.entries ∙ h.each n a b;
  accepted = h.accepted ∙ sym (length-map l.entries older);
  finishes = h.finishes ∙ sym (as_before is_finished);
  cuts = h.cuts ∙ sym (as_before is_cut);
  drops = h.drops ∙ sym (as_before is_dropped);
}
  where
    as_before : (p : Status → Bool) → sort p (map older l.entries) ≡ sort p l.entries
    as_before p = sum_map older (λ en. one_if (p en.status)) (λ en. one_if (p en.status)) (λ _. refl) l.entries

-- A turn of stream i's job.

status_served : (i : ℕ) (end : End) (e : Entry) → waits_for i e ≡ true → (e.status ≡ waits) × ((served i end e).status ≡ status_after end)
status_served i end e w = (waits_true e.status (and_parts (is_waiting e.status) (eqb e.stream i) w).0, ap (λ (x : Entry). x.status) (served_waiting i end e w))

-- the entry of another stream is not touched
served_elsewhere : (i n : ℕ) (end : End) (e : Entry) → (n ≡ i → ⊥) → waits_for n (served i end e) ≡ waits_for n e
served_elsewhere i n end e ne =
    ⊎_elim
    (λ (w : waits_for i e ≡ true).
    let stream : e.stream ≡ i = eqb-true e.stream i (and_parts (is_waiting e.status) (eqb e.stream i) w).1 in
    let apart : eqb e.stream n ≡ false = ne_eqb e.stream n (λ z. ne (sym z ∙ stream)) in
    ap (waits_for n) (served_waiting i end e w) ∙ and_right (is_waiting (status_after end)) (eqb e.stream n) apart ∙ sym (and_right (is_waiting e.status) (eqb e.stream n) apart))
    (λ (w : waits_for i e ≡ false). ap (waits_for n) (served_other i end e w))
    (cases_Bool (waits_for i e))

served_here : (i : ℕ) (end : End) (e : Entry) → waits_for i (served i end e) ≡ (is_waiting (status_after end) && waits_for i e)
served_here i end e =
    ⊎_elim
    (λ (w : waits_for i e ≡ true).
    let there = (and_parts (is_waiting e.status) (eqb e.stream i) w).1 in
    ap (waits_for i) (served_waiting i end e w) ∙ ap (λ (b : Bool). is_waiting (status_after end) && b) (there ∙ sym w))
    (λ (w : waits_for i e ≡ false). ap (waits_for i) (served_other i end e w) ∙ w ∙ sym (and_right (is_waiting (status_after end)) (waits_for i e) w))
    (cases_Bool (waits_for i e))

module _ (R : ℕ → Option Record) (s : State) (l : Ledger) (room : length s.jobs ≡ 32) (h : Tracks R s l) (i : ℕ) (some : 1 ≤ i) (in_range : i ≤ 32) (r : Record) (e : R i ≡ Some r) (j : Job) (is : job_of s.jobs i ≡ Some j) where
  one_waits : count_by (waits_for i) l.entries ≡ 1
  one_waits = h.each i some in_range ∙ ap (λ (x : Option Job). one_if (is_some x)) is

  sort_served : (p : Status → Bool) (end : End) → p waits ≡ false → sort p (map (served i end) l.entries) ≡ sort p l.entries + one_if (p (status_after end))
  sort_served p end no_wait =
      let one = one_waits in
      let all = sort_changed (served i end) (waits_for i) (status_after end) (λ en w. status_served i end en w) (λ en w. ap (λ (x : Entry). x.status) (served_other i end en w)) p l.entries in
      omega (arith, cond-false (p waits) (count_by (waits_for i) l.entries) 0 no_wait, ap (λ (c : ℕ). cond {A = ℕ} (p (status_after end)) c 0) one)

  known_all : (x : Option Job) (end : End) → Leaves r.row j x end → AllByRecursion (Known R s.moment (put s.jobs i x)) (map (served i end) l.entries)
  known_all x end left = All-map (Known R s.moment (put s.jobs i x)) (served i end) l.entries (All-weaker (Known R s.moment s.jobs) (λ en. Known R s.moment (put s.jobs i x) (served i end en)) (λ en k. known_served R s.moment s.jobs room i some in_range r e j is x end left en k) l.entries h.known)

  -- one entry waits for the stream as long as its job does
  matched : (x : Option Job) (end : End) → is_waiting (status_after end) ≡ is_some x → Matched (put s.jobs i x) (map (served i end) l.entries)
  matched x end same =
      put_each (λ n slot. count_by (waits_for n) (map (served i end) l.entries) ≡ one_if (is_some slot)) s.jobs i x room some in_range
      (sum_map (served i end) (λ en. one_if (waits_for i en)) (λ en. one_if (is_some x && waits_for i en)) (λ en. ap one_if (served_here i end en ∙ ap (λ (b : Bool). b && waits_for i en) same)) l.entries ∙ here (is_some x))
      (λ n a b ne. sum_map (served i end) (λ en. one_if (waits_for n en)) (λ en. one_if (waits_for n en)) (λ en. ap one_if (served_elsewhere i n end en ne)) l.entries ∙ h.each n a b)
    where
      here : (b : Bool) → count_by (λ en. b && waits_for i en) l.entries ≡ one_if b
      here true = one_waits
      here false = sum_none (λ en. 0) (λ _. refl) l.entries

  -- the ledger's end of the turn is the worker's
  first_waits : (mode : Phase) (done : Bool) (es : List Entry) → AllByRecursion (Known R s.moment s.jobs) es → 0 < count_by (waits_for i) es → end_in mode (Some r) done i es ≡ ending mode r.row (j.units + 1) done
  first_waits mode done [] k some = let z : ⊥ = omega arith in absurd z
  first_waits mode done (en ∷ es) k some =
      ⊎_elim
      (λ (w : waits_for i en ≡ true).
      let parts = and_parts (is_waiting en.status) (eqb en.stream i) w in
      let known : Known R s.moment s.jobs en = k.0 in
      let status : StatusOk known.record_of s.moment (job_of s.jobs en.stream) en waits = subst (StatusOk known.record_of s.moment (job_of s.jobs en.stream) en) (waits_true en.status parts.0) known.status in
      let same : Some status.0 ≡ Some j = sym status.1 ∙ ap (job_of s.jobs) (eqb-true en.stream i parts.1) ∙ is in
      let one : status.0 ≡ j = cc in
      let units : en.units ≡ j.units = status.2 ∙ ap (λ (o : Job). o.units) one in
      cond-true (waits_for i en) (ending mode r.row (en.units + 1) done) (end_in mode (Some r) done i es) w ∙ ap (λ (u : ℕ). ending mode r.row (u + 1) done) units)
      (λ (w : waits_for i en ≡ false).
      let rest = first_waits mode done es k.1 (omega (arith, sum_by-cons (λ x. one_if (waits_for i x)) en es, ap one_if w)) in
      cond-false (waits_for i en) (ending mode r.row (en.units + 1) done) (end_in mode (Some r) done i es) w ∙ rest)
      (cases_Bool (waits_for i en))

  pub same_end : (done : Bool) → end_in l.mode (R i) done i l.entries ≡ ending s.mode r.row (j.units + 1) done
  same_end done =
      let one = one_waits in
      ap (λ (f : Option Record). end_in l.mode f done i l.entries) e ∙ first_waits l.mode done l.entries h.known (omega arith) ∙ ap (λ (m : Phase). ending m r.row (j.units + 1) done) (sym h.mode)

  -- a turn after which nothing is dropped
  tracks_served : (x : Option Job) (end : End) → Leaves r.row j x end → is_waiting (status_after end) ≡ is_some x → (t : State) → t.moment ≡ s.moment → t.jobs ≡ put s.jobs i x → (mode : Phase) → t.mode ≡ mode
      → t.tally.accepted ≡ s.tally.accepted → t.tally.finished ≡ s.tally.finished + one_if (is_finished (status_after end)) → t.tally.cut ≡ s.tally.cut + one_if (is_cut (status_after end)) → t.tally.dropped ≡ s.tally.dropped + one_if (is_dropped (status_after end))
      → Tracks R t (record { mode = mode; entries = map (served i end) l.entries })
  tracks_served x end left same t moment jobs mode is_mode a f c d = record {
    mode = is_mode;
    known = subst (λ (m : ℕ). AllByRecursion (Known R m t.jobs) (map (served i end) l.entries)) (sym moment) (subst (λ (js : List (Option Job)). AllByRecursion (Known R s.moment js) (map (served i end) l.entries)) (sym jobs) (known_all x end left));
    each = subst (λ (js : List (Option Job)). Matched js (map (served i end) l.entries)) (sym jobs) (matched x end same);
    accepted = a ∙ h.accepted ∙ sym (length-map l.entries (served i end));
    finishes = let b = h.finishes in omega (arith, sort_served is_finished end refl);
    cuts = let b = h.cuts in omega (arith, sort_served is_cut end refl);
    drops = let b = h.drops in omega (arith, sort_served is_dropped end refl);
  }

-- The drop of background jobs.

abbrev pub gives_up : (ℕ → Option Record) → Entry → Bool
gives_up R e = is_waiting e.status && of_background (R e.stream)

module _ (R : ℕ → Option Record) (jobs : List (Option Job)) (room : length jobs ≡ 32) (rows : (n : ℕ) (j : Job) → 1 ≤ n → n ≤ 32 → job_of jobs n ≡ Some j → (r : Record) × (R n ≡ Some r) × (j.row ≡ r.row)) where
  -- a stream's job is of the background as its record is
  background_job : (n : ℕ) → 1 ≤ n → n ≤ 32 → (slot : Option Job) → job_of jobs n ≡ slot → cond (of_background (R n)) (one_if (is_some slot)) 0 ≡ one_if (is_background slot)
  background_job n a b None e = ⊎_elim (λ (h : of_background (R n) ≡ true). cond-true _ 0 0 h) (λ (h : of_background (R n) ≡ false). cond-false _ 0 0 h) (cases_Bool (of_background (R n)))
  background_job n a b (Some j) e =
      let known = rows n j a b e in
      let class : of_background (R n) ≡ background j.row.class = ap of_background known.1 ∙ ap (λ (q : Row). background q.class) (sym known.2) in
      ap (λ (t : Bool). cond t 1 0) class

  -- as many entries are given up as jobs
  pub given_up_count : (es : List Entry) → AllByRecursion (λ en. (1 ≤ en.stream) × (en.stream ≤ 32)) es → Matched jobs es → count_by (gives_up R) es ≡ count_by is_background jobs
  given_up_count es range each =
      count_numbers (λ en. is_waiting en.status) (λ en. en.stream) (λ n. of_background (R n)) 32 es range
      ∙ total_same 32 (λ n. cond (of_background (R n)) (count_by (waits_for n) es) 0) (λ n. one_if (is_background (job_of jobs n))) (λ n a b. ap (λ (c : ℕ). cond {A = ℕ} (of_background (R n)) c 0) (each n a b) ∙ background_job n a b (job_of jobs n) refl)
      ∙ sym (sum_places (λ x. one_if (is_background x)) None 32 jobs room)

  shed_slot : (n : ℕ) → 1 ≤ n → n ≤ 32 → (slot : Option Job) → job_of jobs n ≡ slot → cond (of_background (R n)) 0 (one_if (is_some slot)) ≡ one_if (is_some (shed slot))
  shed_slot n a b None e = ⊎_elim (λ (h : of_background (R n) ≡ true). cond-true _ 0 0 h) (λ (h : of_background (R n) ≡ false). cond-false _ 0 0 h) (cases_Bool (of_background (R n)))
  shed_slot n a b (Some j) e =
      let known = rows n j a b e in
      let class : of_background (R n) ≡ background j.row.class = ap of_background known.1 ∙ ap (λ (q : Row). background q.class) (sym known.2) in
      ap (λ (t : Bool). cond t 0 1) class ∙ by (background j.row.class) refl
    where
      by : (t : Bool) → background j.row.class ≡ t → cond {A = ℕ} (background j.row.class) 0 1 ≡ one_if (is_some (cond (background j.row.class) None (Some j)))
      by true z = ap (λ (t : Bool). cond {A = ℕ} t 0 1) z ∙ sym (ap (λ (t : Bool). one_if (is_some (cond t None (Some j)))) z)
      by false z = ap (λ (t : Bool). cond {A = ℕ} t 0 1) z ∙ sym (ap (λ (t : Bool). one_if (is_some (cond t None (Some j)))) z)

  abandoned_waits : (n : ℕ) (en : Entry) → waits_for n (abandoned R en) ≡ cond (of_background (R n)) false (waits_for n en)
  abandoned_waits n en =
      ⊎_elim
      (λ (w : gives_up R en ≡ true).
      let parts = and_parts (is_waiting en.status) (of_background (R en.stream)) w in
      ap (waits_for n) (abandoned_yes R en w)
      ∙ ⊎_elim
      (λ (z : en.stream ≡ n). sym (cond-true _ false (waits_for n en) (sym (ap (λ (m : ℕ). of_background (R m)) z) ∙ parts.1)))
      (λ (z : en.stream ≡ n → ⊥). sym (none (of_background (R n)) (waits_for n en) (and_right (is_waiting en.status) (eqb en.stream n) (ne_eqb en.stream n z))))
      (cases_eq en.stream n))
      (λ (w : gives_up R en ≡ false).
      ap (waits_for n) (abandoned_no R en w)
      ∙ ⊎_elim
      (λ (z : waits_for n en ≡ true).
      let parts = and_parts (is_waiting en.status) (eqb en.stream n) z in
      let stays : of_background (R n) ≡ false = sym (ap (λ (m : ℕ). of_background (R m)) (eqb-true en.stream n parts.1)) ∙ sym (ap (λ (t : Bool). t && of_background (R en.stream)) parts.0) ∙ w in
      sym (cond-false _ false (waits_for n en) stays))
      (λ (z : waits_for n en ≡ false). z ∙ sym (none (of_background (R n)) (waits_for n en) z))
      (cases_Bool (waits_for n en)))
      (cases_Bool (gives_up R en))
    where
      none : (t u : Bool) → u ≡ false → cond t false u ≡ false
      none true u e = refl
      none false u e = e

  pub matched_shed : (es : List Entry) → Matched jobs es → Matched (map shed jobs) (map (abandoned R) es)
  matched_shed es each n a b =
      sum_map (abandoned R) (λ en. one_if (waits_for n en)) (λ en. one_if (cond (of_background (R n)) false (waits_for n en))) (λ en. ap one_if (abandoned_waits n en)) es
      ∙ counts (of_background (R n)) ∙ ap (λ (c : ℕ). cond {A = ℕ} (of_background (R n)) 0 c) (each n a b) ∙ shed_slot n a b (job_of jobs n) refl ∙ sym (ap (λ (x : Option Job). one_if (is_some x)) (job_shed jobs n room a b))
    where
      counts : (t : Bool) → sum_by (λ en. one_if (cond t false (waits_for n en))) es ≡ cond t 0 (count_by (waits_for n) es)
      counts true = sum_none (λ en. 0) (λ _. refl) es
      counts false = refl

pub tracks_shed : (R : ℕ → Option Record) (s : State) (l : Ledger) → length s.jobs ≡ 32 → ((n : ℕ) (j : Job) → 1 ≤ n → n ≤ 32 → job_of s.jobs n ≡ Some j → (r : Record) × (R n ≡ Some r) × (j.row ≡ r.row)) → Tracks R s l → Tracks R (overrun_begun s) (record { mode = Overrun; entries = map (abandoned R) l.entries })
tracks_shed R s l room rows h =
    let range = All-weaker (Known R s.moment s.jobs) (λ en. (1 ≤ en.stream) × (en.stream ≤ 32)) (λ en k. k.numbered) l.entries h.known in
    let as_many = given_up_count R s.jobs room rows l.entries range h.each in
    record {
      mode = refl;
      known = All-map (Known R s.moment (map shed s.jobs)) (abandoned R) l.entries (All-weaker (Known R s.moment s.jobs) (λ en. Known R s.moment (map shed s.jobs) (abandoned R en)) (λ en k. known_shed R s.moment s.jobs room same_row en k) l.entries h.known);
      each = matched_shed R s.jobs room rows l.entries h.each;
      accepted = h.accepted ∙ sym (length-map l.entries (abandoned R));
      finishes = let b = h.finishes in let c = changed is_finished in omega arith;
      cuts = let b = h.cuts in let c = changed is_cut in omega arith;
      drops = let b = h.drops in let c = changed is_dropped in omega arith;
    }
  where
    same_row : (n : ℕ) (r : Record) (j : Job) → 1 ≤ n → n ≤ 32 → R n ≡ Some r → job_of s.jobs n ≡ Some j → j.row ≡ r.row
    same_row n r j a b e is = let k = rows n j a b is in let same : Some k.0 ≡ Some r = sym k.1 ∙ e in let one : k.0 ≡ r = cc in k.2 ∙ ap (λ (q : Record). q.row) one

    changed : (p : Status → Bool) → sort p (map (abandoned R) l.entries) + cond (p waits) (count_by (gives_up R) l.entries) 0 ≡ sort p l.entries + cond (p dropped) (count_by (gives_up R) l.entries) 0
    changed p = sort_changed (abandoned R) (gives_up R) dropped (λ en w. (waits_true en.status (and_parts (is_waiting en.status) (of_background (R en.stream)) w).0, ap (λ (x : Entry). x.status) (abandoned_yes R en w))) (λ en w. ap (λ (x : Entry). x.status) (abandoned_no R en w)) p l.entries

-- All ends of a turn.
pub tracks_ended : (R : ℕ → Option Record) (s : State) (l : Ledger) → length s.jobs ≡ 32 → Tracks R s l → (i : ℕ) → 1 ≤ i → i ≤ 32 → (r : Record) → R i ≡ Some r → (j : Job) → job_of s.jobs i ≡ Some j → j.row ≡ r.row → ((n : ℕ) (o : Job) → 1 ≤ n → n ≤ 32 → job_of s.jobs n ≡ Some o → (q : Record) × (R n ≡ Some q) × (o.row ≡ q.row)) → (end : End) → (end ≡ Cut → Leaves r.row j None Cut) → Tracks R (ended s i (worked j) end) (record { mode = mode_after end l.mode; entries = left_after R end (map (served i end) l.entries) })
tracks_ended R s l room h i some in_range r e j is row rows Going says = tracks_served R s l room h i some in_range r e j is (Some (worked j)) Going refl refl (ended s i (worked j) Going) refl refl l.mode h.mode refl (omega arith) (omega arith) (omega arith)
tracks_ended R s l room h i some in_range r e j is row rows Finished says = tracks_served R s l room h i some in_range r e j is None Finished tt refl (ended s i (worked j) Finished) refl refl l.mode h.mode refl refl (omega arith) (omega arith)
tracks_ended R s l room h i some in_range r e j is row rows Cut says = tracks_served R s l room h i some in_range r e j is None Cut (says refl) refl (ended s i (worked j) Cut) refl refl l.mode h.mode refl (omega arith) refl (omega arith)
tracks_ended R s l room h i some in_range r e j is row rows Switch says =
    let going = tracks_served R s l room h i some in_range r e j is (Some (worked j)) Switch refl refl (ended s i (worked j) Going) refl refl l.mode h.mode refl (omega arith) (omega arith) (omega arith) in
    tracks_shed R (ended s i (worked j) Going) (record { mode = l.mode; entries = map (served i Switch) l.entries }) (length-set s.jobs (i - 1) (Some (worked j)) ∙ room)
    (λ n o a b z. put_each (λ n slot. (o : Job) → slot ≡ Some o → (q : Record) × (R n ≡ Some q) × (o.row ≡ q.row)) s.jobs i (Some (worked j)) room some in_range
    (λ o z. let one : worked j ≡ o = cc in (r, e, ap (λ (x : Job). x.row) (sym one) ∙ row))
    (λ n a b _ o z. rows n o a b z)
    n a b o z)
    going

-- what the law says of the counts
waiting_count : (R : ℕ → Option Record) (s : State) (l : Ledger) → length s.jobs ≡ 32 → Tracks R s l → waiting s.jobs ≡ sort is_waiting l.entries
waiting_count R s l room h =
    let range = All-weaker (Known R s.moment s.jobs) (λ en. (1 ≤ en.stream) × (en.stream ≤ 32)) (λ en k. k.numbered) l.entries h.known in
    sum_places (λ x. one_if (is_some x)) None 32 s.jobs room
    ∙ total_same 32 (λ n. one_if (is_some (job_of s.jobs n))) (λ n. count_by (waits_for n) l.entries) (λ n a b. sym (h.each n a b))
    ∙ sym (count_numbers (λ en. is_waiting en.status) (λ en. en.stream) (λ _. true) 32 l.entries range)
    ∙ sum_same (λ en. one_if (is_waiting en.status && true)) (λ en. one_if (is_waiting en.status)) (λ en. ap one_if (and_true (is_waiting en.status))) l.entries
  where
    and_true : (b : Bool) → (b && true) ≡ b
    and_true true = refl
    and_true false = refl

all_sorts : (es : List Entry) → length es ≡ sort is_finished es + sort is_cut es + sort is_dropped es + sort is_waiting es
all_sorts es =
    let f : Entry → ℕ = λ en. one_if (is_finished en.status) in
    let c : Entry → ℕ = λ en. one_if (is_cut en.status) in
    let d : Entry → ℕ = λ en. one_if (is_dropped en.status) in
    let w : Entry → ℕ = λ en. one_if (is_waiting en.status) in
    let one = sum_plus (λ en. f en + c en) f c (λ _. refl) es in
    let two = sum_plus (λ en. f en + c en + d en) (λ en. f en + c en) d (λ _. refl) es in
    let three = sum_plus (λ en. f en + c en + d en + w en) (λ en. f en + c en + d en) w (λ _. refl) es in
    let all = sum_ones (λ en. f en + c en + d en + w en) (λ en. each en.status) es in
    omega arith
  where
    each : (st : Status) → one_if (is_finished st) + one_if (is_cut st) + one_if (is_dropped st) + one_if (is_waiting st) ≡ 1
    each waits = refl
    each finished = refl
    each cut = refl
    each dropped = refl

pub tracked_counts : (R : ℕ → Option Record) (s : State) (l : Ledger) → length s.jobs ≡ 32 → Tracks R s l → Counted s l
tracked_counts R s l room h =
    let w = waiting_count R s l room h in
    record {
      accepted = h.accepted;
      finishes = h.finishes;
      cuts = h.cuts;
      drops = h.drops;
      waiting_jobs = w;
      none_lost = let a = h.accepted in let f = h.finishes in let c = h.cuts in let d = h.drops in omega (arith, all_sorts l.entries);
    }
