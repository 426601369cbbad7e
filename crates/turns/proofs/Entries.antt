-- The entries of a ledger against the jobs of a worker: which job each entry stands for, and how both change together.

use Rattle.std.proofs.Common.{◌≡◌, ℕ, ◌+◌, ◌≤◌, Bool, true, false, ◌&&◌, eqb, List, map, length, Some, None, Option, sym, refl, ap, ◌∙◌, subst, ⊎_elim, arith}
use borrow.Author.Tests.{clash}
use Rattle.std.proofs.lemmas.Bool.{cases_Bool, and_parts, cond-true, cond-false, eqb-true, eq-eqb}
use Rattle.stream.specs.declared.Class.{Class}
use Rattle.stream.specs.declared.Class.TheVariants.{Critical, Background}
use Rattle.stream.specs.declared.Row.{Row}
use Rattle.stream.specs.declared.limits.Record.{Record}
use Rattle.turns.specs.Jobs.{job_of, put, worked, background, shed}
use Rattle.turns.specs.Ledgers.{Status, waits, finished, cut, dropped, Entry, is_waiting, waits_for, older, status_after, served, of_background, abandoned}
use Rattle.turns.specs.declared.End.{End}
use Rattle.turns.specs.declared.End.TheVariants.{Going, Finished, Cut, Switch}
use Rattle.turns.specs.declared.Job.{Job}
use Rattle.turns.proofs.Slots.{job_put_same, job_put_other, job_shed}

-- a waiting entry stands for the job of its stream; one that was cut has had what it was owed; one that was dropped is of the background
abbrev pub StatusOk : Record → ℕ → Option Job → Entry → Status → Type 0
StatusOk r now slot e waits = (j : Job) × (slot ≡ Some j) × (e.units ≡ j.units) × (e.age + j.since ≡ now)
StatusOk r now slot e finished = Unit {0}
StatusOk r now slot e cut = (r.row.class ≡ Critical → e.units ≡ r.row.certain) × (r.row.class ≡ Background → e.units ≡ r.row.budget)
StatusOk r now slot e dropped = r.row.class ≡ Background

pub record Known (R : ℕ → Option Record) (now : ℕ) (jobs : List (Option Job)) (e : Entry) : Type 0 where
  pub record_of : Record
  pub found : R e.stream ≡ Some record_of
  pub numbered : (1 ≤ e.stream) × (e.stream ≤ 32)
  pub status : StatusOk record_of now (job_of jobs e.stream) e e.status

-- A tick: every entry is a turn older.

status_older : (r : Record) (now : ℕ) (slot : Option Job) (e : Entry) (st : Status) → StatusOk r now slot e st → StatusOk r (now + 1) slot (older e) st
status_older r now slot e waits h = let age = h.3 in (h.0, h.1, h.2, omega arith)
status_older r now slot e finished h = tt
status_older r now slot e cut h = h
status_older r now slot e dropped h = h

pub known_older : (R : ℕ → Option Record) (now : ℕ) (jobs : List (Option Job)) (e : Entry) → Known R now jobs e → Known R (now + 1) jobs (older e)
known_older R now jobs e h = record { record_of = h.record_of; found = h.found; numbered = h.numbered; status = status_older h.record_of now (job_of jobs e.stream) e e.status h.status }

-- Another job in a stream's place touches only the entry that waits for that stream.

-- an entry that waits, but not for stream i, is of another stream
other_stream : (i : ℕ) (e : Entry) → waits_for i e ≡ false → is_waiting e.status ≡ true → e.stream ≡ i → ⊥
other_stream i e no_wait waiting same = clash (sym no_wait ∙ ap (λ (b : Bool). b && eqb e.stream i) waiting ∙ eq-eqb e.stream i same)

status_put : (r : Record) (now : ℕ) (a b : Option Job) (e : Entry) (st : Status) → (st ≡ waits → b ≡ a) → StatusOk r now a e st → StatusOk r now b e st
status_put r now a b e waits same h = (h.0, same refl ∙ h.1, h.2, h.3)
status_put r now a b e finished same h = tt
status_put r now a b e cut same h = h
status_put r now a b e dropped same h = h

pub known_put : (R : ℕ → Option Record) (now : ℕ) (jobs : List (Option Job)) (i : ℕ) (x : Option Job) (e : Entry) → 1 ≤ i → waits_for i e ≡ false → Known R now jobs e → Known R now (put jobs i x) e
known_put R now jobs i x e some no_wait h = record {
  record_of = h.record_of;
  found = h.found;
  numbered = h.numbered;
  status = status_put h.record_of now (job_of jobs e.stream) (job_of (put jobs i x) e.stream) e e.status (λ w. job_put_other jobs i e.stream x some h.numbered.0 (other_stream i e no_wait (ap is_waiting w))) h.status;
}

-- A turn of stream i's job.

-- what the end of the turn leaves in the slot, and says of the units
abbrev pub Leaves : Row → Job → Option Job → End → Type 0
Leaves row j x Going = x ≡ Some (worked j)
Leaves row j x Finished = Unit {0}
Leaves row j x Cut = (row.class ≡ Critical → j.units + 1 ≡ row.certain) × (row.class ≡ Background → j.units + 1 ≡ row.budget)
Leaves row j x Switch = x ≡ Some (worked j)

abbrev pub with_turn_more : Entry → End → Entry
with_turn_more e end = record { stream = e.stream; age = e.age; units = e.units + 1; status = status_after end }

pub served_waiting : (i : ℕ) (end : End) (e : Entry) → waits_for i e ≡ true → served i end e ≡ with_turn_more e end
served_waiting i end e h = cond-true _ (with_turn_more e end) e h

pub served_other : (i : ℕ) (end : End) (e : Entry) → waits_for i e ≡ false → served i end e ≡ e
served_other i end e h = cond-false _ (with_turn_more e end) e h

pub waits_true : (st : Status) → is_waiting st ≡ true → st ≡ waits
waits_true waits h = refl
waits_true finished h = absurd (clash h)
waits_true cut h = absurd (clash h)
waits_true dropped h = absurd (clash h)

status_served : (r : Record) (now : ℕ) (slot x : Option Job) (j : Job) (e : Entry) (end : End) → slot ≡ Some j → Leaves r.row j x end → StatusOk r now slot e waits → StatusOk r now x (with_turn_more e end) (status_after end)
status_served r now slot x j e Going is left h = let same : Some h.0 ≡ Some j = sym h.1 ∙ is in let one : h.0 ≡ j = cc in let u = h.2 in let a = h.3 in (worked j, left, omega (arith, ap (λ (o : Job). o.units) one), omega (arith, ap (λ (o : Job). o.since) one))
status_served r now slot x j e Finished is left h = tt
status_served r now slot x j e Cut is left h =
    let same : Some h.0 ≡ Some j = sym h.1 ∙ is in
    let one : h.0 ≡ j = cc in
    let u = h.2 in
    (λ z. let l = left.0 z in omega (arith, ap (λ (o : Job). o.units) one), λ z. let l = left.1 z in omega (arith, ap (λ (o : Job). o.units) one))
status_served r now slot x j e Switch is left h = let same : Some h.0 ≡ Some j = sym h.1 ∙ is in let one : h.0 ≡ j = cc in let u = h.2 in let a = h.3 in (worked j, left, omega (arith, ap (λ (o : Job). o.units) one), omega (arith, ap (λ (o : Job). o.since) one))

module _ (R : ℕ → Option Record) (now : ℕ) (jobs : List (Option Job)) (room : length jobs ≡ 32) (i : ℕ) (some : 1 ≤ i) (in_range : i ≤ 32) (r : Record) (e : R i ≡ Some r) (j : Job) (is : job_of jobs i ≡ Some j) (x : Option Job) (end : End) (left : Leaves r.row j x end) where
  known_runner : (en : Entry) → waits_for i en ≡ true → Known R now jobs en → Known R now (put jobs i x) (with_turn_more en end)
  known_runner en w h =
      let parts = and_parts (is_waiting en.status) (eqb en.stream i) w in
      let stream : en.stream ≡ i = eqb-true en.stream i parts.1 in
      let waiting : en.status ≡ waits = waits_true en.status parts.0 in
      let record_is : Some h.record_of ≡ Some r = sym h.found ∙ ap R stream ∙ e in
      let one : h.record_of ≡ r = cc in
      let status : StatusOk r now (job_of jobs en.stream) en waits = subst (λ (q : Record). StatusOk q now (job_of jobs en.stream) en waits) one (subst (StatusOk h.record_of now (job_of jobs en.stream) en) waiting h.status) in
      let put_here : job_of (put jobs i x) en.stream ≡ x = ap (job_of (put jobs i x)) stream ∙ job_put_same jobs i x room some in_range in
      record {
        record_of = r;
        found = ap R stream ∙ e;
        numbered = h.numbered;
        status = subst (λ (o : Option Job). StatusOk r now o (with_turn_more en end) (status_after end)) (sym put_here) (status_served r now (job_of jobs en.stream) x j en end (ap (job_of jobs) stream ∙ is) left status);
      }

  pub known_served : (en : Entry) → Known R now jobs en → Known R now (put jobs i x) (served i end en)
  known_served en h =
      ⊎_elim
      (λ (w : waits_for i en ≡ true). subst (Known R now (put jobs i x)) (sym (served_waiting i end en w)) (known_runner en w h))
      (λ (w : waits_for i en ≡ false). subst (Known R now (put jobs i x)) (sym (served_other i end en w)) (known_put R now jobs i x en some w h))
      (cases_Bool (waits_for i en))

-- The drop of background jobs.

abbrev pub given_up : Entry → Entry
given_up e = record { stream = e.stream; age = e.age; units = e.units; status = dropped }

pub abandoned_yes : (R : ℕ → Option Record) (e : Entry) → (is_waiting e.status && of_background (R e.stream)) ≡ true → abandoned R e ≡ given_up e
abandoned_yes R e h = cond-true _ (given_up e) e h

pub abandoned_no : (R : ℕ → Option Record) (e : Entry) → (is_waiting e.status && of_background (R e.stream)) ≡ false → abandoned R e ≡ e
abandoned_no R e h = cond-false _ (given_up e) e h

background_true : (c : Class) → background c ≡ true → c ≡ Background
background_true Critical h = absurd (clash h)
background_true Background h = refl

shed_kept : (j : Job) → background j.row.class ≡ false → shed (Some j) ≡ Some j
shed_kept j h = cond-false _ None (Some j) h

status_shed : (r : Record) (now : ℕ) (slot : Option Job) (e : Entry) (st : Status) → ((j : Job) → slot ≡ Some j → j.row ≡ r.row) → (is_waiting st && background r.row.class) ≡ false → StatusOk r now slot e st → StatusOk r now (shed slot) e st
status_shed r now slot e waits rows keep h =
    let row = rows h.0 h.1 in
    let stays : background h.0.row.class ≡ false = ap (λ (q : Row). background q.class) row ∙ keep in
    (h.0, ap shed h.1 ∙ shed_kept h.0 stays, h.2, h.3)
status_shed r now slot e finished rows keep h = tt
status_shed r now slot e cut rows keep h = h
status_shed r now slot e dropped rows keep h = h

module _ (R : ℕ → Option Record) (now : ℕ) (jobs : List (Option Job)) (room : length jobs ≡ 32) (rows : (n : ℕ) (r : Record) (j : Job) → 1 ≤ n → n ≤ 32 → R n ≡ Some r → job_of jobs n ≡ Some j → j.row ≡ r.row) where
  pub known_shed : (e : Entry) → Known R now jobs e → Known R now (map shed jobs) (abandoned R e)
  known_shed e h =
      let at : job_of (map shed jobs) e.stream ≡ shed (job_of jobs e.stream) = job_shed jobs e.stream room h.numbered.0 h.numbered.1 in
      let class : of_background (R e.stream) ≡ background h.record_of.row.class = ap of_background h.found in
      ⊎_elim
      (λ (w : (is_waiting e.status && of_background (R e.stream)) ≡ true).
      subst (Known R now (map shed jobs)) (sym (abandoned_yes R e w))
      (record { record_of = h.record_of; found = h.found; numbered = h.numbered; status = background_true h.record_of.row.class (sym class ∙ (and_parts (is_waiting e.status) (of_background (R e.stream)) w).1) }))
      (λ (w : (is_waiting e.status && of_background (R e.stream)) ≡ false).
      subst (Known R now (map shed jobs)) (sym (abandoned_no R e w))
      (record {
        record_of = h.record_of;
        found = h.found;
        numbered = h.numbered;
        status = subst (λ (o : Option Job). StatusOk h.record_of now o e e.status) (sym at) (status_shed h.record_of now (job_of jobs e.stream) e e.status (λ j z. rows e.stream h.record_of j h.numbered.0 h.numbered.1 h.found z) (ap (λ (b : Bool). is_waiting e.status && b) (sym class) ∙ w) h.status);
      }))
      (cases_Bool (is_waiting e.status && of_background (R e.stream)))
