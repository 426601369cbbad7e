-- Each call keeps a worker sane, whatever the openings of its bank, if they are within the rules of a bank.

use Rattle.std.proofs.Common.{◌≡◌, ℕ, ◌+◌, ◌-◌, ◌<◌, ◌≤◌, false, cond, ltb, ◌⊎◌, List, map, length, replicate, Some, None, Option, sym, refl, ap, ◌∙◌, subst, inl, inr, ⊎_elim, arith}
use Rattle.std.proofs.lemmas.List.{length-set, length-map, get_or-replicate}
use Rattle.std.proofs.lemmas.Bool.{cases_lt, or_parts, ltb-false}
use Rattle.stream.specs.declared.Class.{Class}
use Rattle.stream.specs.declared.Class.TheVariants.{Critical, Background}
use Rattle.stream.specs.declared.Phase.{Phase}
use Rattle.stream.specs.declared.Phase.TheVariants.{Normal, Overrun}
use Rattle.stream.specs.declared.Row.{Row}
use Rattle.stream.specs.declared.limits.Record.{Record}
use Rattle.demand.specs.Demands.{total, share}
use Rattle.least.specs.Orders.{pair_below}
use Rattle.turns.specs.Jobs.{deadline_of, job_of, put, released, worked, background, shed}
use Rattle.turns.specs.Steps.{with_job, Next, key, ticked, ended}
use Rattle.turns.specs.declared.End.{End}
use Rattle.turns.specs.declared.End.TheVariants.{Going, Finished, Cut, Switch}
use Rattle.turns.specs.declared.Job.{Job}
use Rattle.turns.specs.declared.State.{State}
use Rattle.turns.specs.declared.Turn.TheVariants.{Idle, Of}
use Rattle.turns.proofs.Burdens.{owed, burden, owed_due, owed_later, owed_ticked, owed_worked, coming_less, coming_ticked, coming_demanded, burden_released, burden_carried}
use Rattle.turns.proofs.Ends.{Says, allowance}
use Rattle.turns.proofs.Invariants.{Plan, Inside, Later, burden_at, burden_of, Bearable, Held, SlotOk, SlotsOk, TurnOk, Sane, quiet_bears, before_deadline, owed_in_time}
use Rattle.turns.proofs.Slots.{job_put_same, put_each, job_shed}
use Rattle.turns.proofs.Sums.{total_le, total_lt}

-- Start, and calm: no job waits.

pub none_waits : (i : ℕ) → 1 ≤ i → i ≤ 32 → job_of (replicate 32 None) i ≡ None
none_waits i some in_range = get_or-replicate 32 (i - 1) None None (omega arith)

pub sane_idle : (p : Plan) (O : ℕ → ℕ → ℕ) (s : State) → Inside p O → length s.jobs ≡ 32 → ((i : ℕ) → 1 ≤ i → i ≤ 32 → job_of s.jobs i ≡ None) → s.turn ≡ None → Sane p O s
sane_idle p O s inside room none out = record {
  room = room;
  slots = λ i a b. subst (SlotOk (p.records i) (p.ceiling i) (O i) s.mode s.moment) (sym (none i a b)) tt;
  bears = λ t. quiet_bears p O s.mode s.moment s.jobs t inside (λ i a b. ap (owed s.mode s.moment t) (none i a b));
  turn = subst (TurnOk s) (sym out) tt;
}

-- Release: the bank lets stream i in, so its openings fall, and no other's rise.

held_opens : (r : Record) (N O P : ℕ → ℕ) (mode : Phase) (now : ℕ) (j : Job) → ((m : ℕ) → P m ≤ O m) → Held r N O mode now j → Held r N P mode now j
held_opens r N O P mode now j less h = record { row = h.row; since = h.since; more = h.more; opens = λ m. let a = h.opens m in let b = less m in omega arith }

module _ (p : Plan) (O P : ℕ → ℕ → ℕ) (s : State) (i : ℕ) (r : Record) (e : p.records i ≡ Some r)
    (inside : Inside p O) (sane : Sane p O s) (free : job_of s.jobs i ≡ None) (lasts : 0 < allowance s.mode r.row) (out : s.turn ≡ None)
    (falls : (m : ℕ) → P i m + 1 ≤ O i m) (others : (j : ℕ) (q : Record) (m : ℕ) → p.records j ≡ Some q → (j ≡ i → ⊥) → P j m ≤ O j m) where
  abbrev let_in : List (Option Job)
  let_in = put s.jobs i (Some (released r.row s.moment))

  range : (1 ≤ i) × (i ≤ p.streams)
  range = p.numbered i r e

  here : i ≤ 32
  here = let a = range in let b = p.few in omega arith

  released_less : (t j : ℕ) → 1 ≤ j → j ≤ 32 → burden_of p P s.mode s.moment let_in t j ≤ burden_of p O s.mode s.moment s.jobs t j
  released_less t j a b =
      put_each (λ n slot. burden_at (p.records n) s.mode (P n) s.moment t slot ≤ burden_of p O s.mode s.moment s.jobs t n) s.jobs i (Some (released r.row s.moment)) sane.room range.0 here
      (subst (λ (f : Option Record). burden_at f s.mode (P i) s.moment t (Some (released r.row s.moment)) ≤ burden_at f s.mode (O i) s.moment t (job_of s.jobs i)) (sym e)
      (subst (λ (x : Option Job). burden s.mode r.row (P i) s.moment t (Some (released r.row s.moment)) ≤ burden s.mode r.row (O i) s.moment t x) (sym free)
      (burden_released s.mode r.row (P i) (O i) s.moment t falls)))
      (λ n _ _ ne. other n ne (p.records n) refl)
      j a b
    where
      other : (n : ℕ) → (n ≡ i → ⊥) → (f : Option Record) → p.records n ≡ f → burden_at f s.mode (P n) s.moment t (job_of s.jobs n) ≤ burden_at f s.mode (O n) s.moment t (job_of s.jobs n)
      other n ne None z = omega arith
      other n ne (Some q) z = let le = coming_less s.mode q.row (P n) (O n) t (λ m. others n q m z ne) in omega arith

  newly_held : Held r (p.ceiling i) (P i) s.mode s.moment (released r.row s.moment)
  newly_held = record {
    row = refl;
    since = omega arith;
    more = lasts;
    opens = λ m. let a = falls m in let b = inside i r m e in let at : m + (s.moment - s.moment) ≡ m = omega arith in omega (arith, ap (p.ceiling i) at);
  }

  slot_kept : (n : ℕ) → (n ≡ i → ⊥) → (slot : Option Job) → SlotOk (p.records n) (p.ceiling n) (O n) s.mode s.moment slot → SlotOk (p.records n) (p.ceiling n) (P n) s.mode s.moment slot
  slot_kept n ne None h = tt
  slot_kept n ne (Some j) h = (h.0, h.1, held_opens h.0 (p.ceiling n) (O n) (P n) s.mode s.moment j (λ m. others n h.0 m h.1 ne) h.2)

  pub sane_released : Sane p P (with_job s i (released r.row s.moment))
  sane_released = record {
    room = length-set s.jobs (i - 1) (Some (released r.row s.moment)) ∙ sane.room;
    slots = put_each (λ n slot. SlotOk (p.records n) (p.ceiling n) (P n) s.mode s.moment slot) s.jobs i (Some (released r.row s.moment)) sane.room range.0 here (r, e, newly_held) (λ n a b ne. slot_kept n ne (job_of s.jobs n) (sane.slots n a b));
    bears = λ t. let few = p.few in let less = total_le p.streams (burden_of p P s.mode s.moment let_in t) (burden_of p O s.mode s.moment s.jobs t) (λ j a b. released_less t j a (omega arith)) in let before = sane.bears t in omega arith;
    turn = subst (TurnOk (with_job s i (released r.row s.moment))) (sym out) tt;
  }

-- Settle. The openings are those a tick later.

-- what a turn leaves in its slot: the job with a turn more, or nothing
abbrev pub Served : Job → Option Job → Type 0
Served j x = (x ≡ None) ⊎ (x ≡ Some (worked j))

owed_served : (mode : Phase) (now t : ℕ) (j : Job) (x : Option Job) → Served j x → j.units < allowance mode j.row → deadline_of mode j ≤ now + (t + 1) → owed mode (now + 1) t x + 1 ≤ owed mode now (t + 1) (Some j)
owed_served mode now t j x served more due =
    let before = owed_due mode now (t + 1) j due in
    ⊎_elim
    (λ (e : x ≡ None). omega (arith, ap (owed mode (now + 1) t) e))
    (λ (e : x ≡ Some (worked j)). let less = owed_worked mode now (t + 1) j more due in omega (arith, ap (owed mode (now + 1) t) e, owed_ticked mode now t (Some (worked j))))
    served

owed_after : (mode : Phase) (now t : ℕ) (j : Job) (x : Option Job) → Served j x → now + 1 + t < deadline_of mode j → owed mode (now + 1) t x ≡ 0
owed_after mode now t j x served later =
    ⊎_elim
    (λ (e : x ≡ None). ap (owed mode (now + 1) t) e)
    (λ (e : x ≡ Some (worked j)). ap (owed mode (now + 1) t) e ∙ owed_later mode (now + 1) t (worked j) later)
    served

-- of two keys, the one that is not below has no earlier deadline
not_earlier : (mode : Phase) (n i : ℕ) (o j : Job) → pair_below (key mode n o) (key mode i j) ≡ false → deadline_of mode j ≤ deadline_of mode o
not_earlier mode n i o j h = ltb-false (deadline_of mode o) (deadline_of mode j) (or_parts (ltb (deadline_of mode o) (deadline_of mode j)) _ h).0

burden_later : (p : Plan) (O P : ℕ → ℕ → ℕ) (later : Later p O P) (mode : Phase) (now t n : ℕ) (slot : Option Job) (f : Option Record) → p.records n ≡ f → burden_at f mode (P n) (now + 1) t slot ≤ burden_at f mode (O n) now (t + 1) slot
burden_later p O P later mode now t n slot None z = omega arith
burden_later p O P later mode now t n slot (Some q) z = let le = coming_ticked mode q.row (P n) (O n) t (λ m. later n q m z) in omega (arith, owed_ticked mode now t slot)

module _ (p : Plan) (O P : ℕ → ℕ → ℕ) (s : State) (inside : Inside p P) (later : Later p O P) (sane : Sane p O s)
    (i : ℕ) (some : 1 ≤ i) (in_range : i ≤ 32) (j : Job) (is : job_of s.jobs i ≡ Some j) (next : Next s (Of i)) (x : Option Job) (served : Served j x) where
  -- the runner's record and what is known of it
  found : SlotOk (p.records i) (p.ceiling i) (O i) s.mode s.moment (Some j)
  found = subst (SlotOk (p.records i) (p.ceiling i) (O i) s.mode s.moment) is (sane.slots i some in_range)

  more_turns : j.units < allowance s.mode j.row
  more_turns = let h = found.2.more in omega (arith, ap (allowance s.mode) found.2.row)

  -- the runner is due: everybody else has no more than before, and the runner has less
  due_bears : (t : ℕ) → deadline_of s.mode j ≤ s.moment + (t + 1) → total p.streams (burden_of p P s.mode (s.moment + 1) (put s.jobs i x) t) ≤ t
  due_bears t due =
      let few = p.few in
      let range = p.numbered i found.0 found.1 in
      let less = total_lt p.streams (burden_of p P s.mode (s.moment + 1) (put s.jobs i x) t) (burden_of p O s.mode s.moment s.jobs (t + 1)) i some range.1 here (λ n a b. each n a (omega arith)) in
      let before = sane.bears (t + 1) in
      omega arith
    where
      here : burden_of p P s.mode (s.moment + 1) (put s.jobs i x) t i < burden_of p O s.mode s.moment s.jobs (t + 1) i
      here =
          let le = coming_ticked s.mode found.0.row (P i) (O i) t (λ m. later i found.0 m found.1) in
          let fall = owed_served s.mode s.moment t j x served more_turns due in
          let left : burden_of p P s.mode (s.moment + 1) (put s.jobs i x) t i ≡ burden s.mode found.0.row (P i) (s.moment + 1) t x =
          ap (λ (slot : Option Job). burden_at (p.records i) s.mode (P i) (s.moment + 1) t slot) (job_put_same s.jobs i x sane.room some in_range) ∙ ap (λ (f : Option Record). burden_at f s.mode (P i) (s.moment + 1) t x) found.1 in
          let right : burden_of p O s.mode s.moment s.jobs (t + 1) i ≡ burden s.mode found.0.row (O i) s.moment (t + 1) (Some j) =
          ap (λ (slot : Option Job). burden_at (p.records i) s.mode (O i) s.moment (t + 1) slot) is ∙ ap (λ (f : Option Record). burden_at f s.mode (O i) s.moment (t + 1) (Some j)) found.1 in
          omega arith

      each : (n : ℕ) → 1 ≤ n → n ≤ 32 → burden_of p P s.mode (s.moment + 1) (put s.jobs i x) t n ≤ burden_of p O s.mode s.moment s.jobs (t + 1) n
      each n a b =
          put_each (λ m slot. burden_at (p.records m) s.mode (P m) (s.moment + 1) t slot ≤ burden_of p O s.mode s.moment s.jobs (t + 1) m) s.jobs i x sane.room some in_range
          (let h = here in let e : burden_of p P s.mode (s.moment + 1) (put s.jobs i x) t i ≡ burden_at (p.records i) s.mode (P i) (s.moment + 1) t x = ap (λ (slot : Option Job). burden_at (p.records i) s.mode (P i) (s.moment + 1) t slot) (job_put_same s.jobs i x sane.room some in_range) in omega arith)
          (λ m _ _ _. burden_later p O P later s.mode s.moment t m (job_of s.jobs m) (p.records m) refl)
          n a b

  -- the runner is due later, and so is everybody else
  later_bears : (t : ℕ) → s.moment + (t + 1) < deadline_of s.mode j → total p.streams (burden_of p P s.mode (s.moment + 1) (put s.jobs i x) t) ≤ t
  later_bears t h =
      quiet_bears p P s.mode (s.moment + 1) (put s.jobs i x) t inside
      (put_each (λ n slot. owed s.mode (s.moment + 1) t slot ≡ 0) s.jobs i x sane.room some in_range
      (owed_after s.mode s.moment t j x served (omega arith))
      (λ n a b _. other n a (job_of s.jobs n) refl))
    where
      other : (n : ℕ) → 1 ≤ n → (slot : Option Job) → job_of s.jobs n ≡ slot → owed s.mode (s.moment + 1) t slot ≡ 0
      other n a None e = refl
      other n a (Some o) e =
          let same : Some next.1 ≡ Some j = sym next.2 ∙ is in
          let one : next.1 ≡ j = cc in
          let after = not_earlier s.mode n i o next.1 (next.3 n o a e) in
          owed_later s.mode (s.moment + 1) t o (omega (arith, ap (deadline_of s.mode) one))

  pub served_bears : Bearable p P s.mode (s.moment + 1) (put s.jobs i x)
  served_bears t =
      ⊎_elim
      (λ (l : s.moment + (t + 1) < deadline_of s.mode j). later_bears t l)
      (λ (l : deadline_of s.mode j ≤ s.moment + (t + 1)). due_bears t l)
      (cases_lt (s.moment + (t + 1)) (deadline_of s.mode j))

held_ticked : (r : Record) (N O P : ℕ → ℕ) (mode : Phase) (now : ℕ) (j k : Job) → ((m : ℕ) → P m ≤ O (m + 1)) → k.row ≡ j.row → k.since ≡ j.since → k.units < allowance mode r.row → Held r N O mode now j → Held r N P mode (now + 1) k
held_ticked r N O P mode now j k later row since more h =
    let before = h.since in
    record {
      row = row ∙ h.row;
      since = omega arith;
      more = more;
      opens = λ m. let a = h.opens (m + 1) in let b = later m in let at : m + 1 + (now - j.since) ≡ m + (now + 1 - k.since) = omega arith in omega (arith, ap N at);
    }

-- The switch.

-- a job that is carried over: it is before its short deadline and within its budget, and a critical one has turns left
pub record Carried (r : Record) (N O : ℕ → ℕ) (now : ℕ) (j : Job) : Type 0 where
  pub row : j.row ≡ r.row
  pub since : j.since ≤ now
  pub early : now ≤ deadline_of Normal j
  pub few : j.units ≤ r.row.budget
  pub more : r.row.class ≡ Critical → j.units < r.row.certain
  pub opens : (m : ℕ) → O m + 1 ≤ N (m + (now - j.since))

abbrev pub CarriedSlot : Option Record → (ℕ → ℕ) → (ℕ → ℕ) → ℕ → Option Job → Type 0
CarriedSlot known N O now None = Unit {0}
CarriedSlot known N O now (Some j) = (r : Record) × (known ≡ Some r) × Carried r N O now j

-- a critical job stays, a background one goes
shed_critical : (j : Job) → j.row.class ≡ Critical → shed (Some j) ≡ Some j
shed_critical j e = ap (λ (c : Class). cond (background c) None (Some j)) e

shed_background : (j : Job) → j.row.class ≡ Background → shed (Some j) ≡ None
shed_background j e = ap (λ (c : Class). cond (background c) None (Some j)) e

module _ (p : Plan) (P : ℕ → ℕ → ℕ) (now : ℕ) (jobs : List (Option Job)) (inside : Inside p P) (room : length jobs ≡ 32) (bears : Bearable p P Normal now jobs)
    (carried : (n : ℕ) → 1 ≤ n → n ≤ 32 → CarriedSlot (p.records n) (p.ceiling n) (P n) now (job_of jobs n)) where
  share_free : (n t : ℕ) (r : Record) → p.records n ≡ Some r → burden Overrun r.row (P n) now t None ≤ share (Some r) Overrun (p.ceiling n) t
  share_free n t r e = let within = coming_demanded Overrun r (p.ceiling n) (P n) t (λ m. inside n r m e) in omega arith

  -- by the class of a job's stream
  share_carried : (n t : ℕ) (r : Record) → p.records n ≡ Some r → (j : Job) → job_of jobs n ≡ Some j → Carried r (p.ceiling n) (P n) now j → (c : Class) → r.row.class ≡ c → burden Overrun r.row (P n) now t (shed (Some j)) ≤ share (Some r) Overrun (p.ceiling n) t
  share_carried n t r e j is h Background z =
      let class : j.row.class ≡ Background = ap (λ (x : Row). x.class) h.row ∙ z in
      subst (λ (x : Option Job). burden Overrun r.row (P n) now t x ≤ share (Some r) Overrun (p.ceiling n) t) (sym (shed_background j class)) (share_free n t r e)
  share_carried n t r e j is h Critical z =
      let class : j.row.class ≡ Critical = ap (λ (x : Row). x.class) h.row ∙ z in
      let due : deadline_of Normal j ≡ j.since + r.row.short = ap (λ (x : Row). j.since + x.short) h.row in
      let early = h.early in
      let left = owed_in_time p P Normal now jobs bears n r e j is h.row early in
      subst (λ (x : Option Job). burden Overrun r.row (P n) now t x ≤ share (Some r) Overrun (p.ceiling n) t) (sym (shed_critical j class))
      (burden_carried r.row (p.count n) (p.ceiling n) (P n) now t j r.within z (p.ceilings n r e) h.row h.since (omega arith) h.few (omega arith) h.opens)

  share_shed : (n t : ℕ) (slot : Option Job) → job_of jobs n ≡ slot → CarriedSlot (p.records n) (p.ceiling n) (P n) now slot → (f : Option Record) → p.records n ≡ f → burden_at f Overrun (P n) now t (shed slot) ≤ share f Overrun (p.ceiling n) t
  share_shed n t slot is h None e = omega arith
  share_shed n t None is h (Some r) e = share_free n t r e
  share_shed n t (Some j) is h (Some r) e =
      let same : Some h.0 ≡ Some r = sym h.1 ∙ e in
      let one : h.0 ≡ r = cc in
      share_carried n t r e j is (subst (λ (q : Record). Carried q (p.ceiling n) (P n) now j) one h.2) r.row.class refl

  pub shed_bears : Bearable p P Overrun now (map shed jobs)
  shed_bears t =
      let few = p.few in
      let all = total_le p.streams (burden_of p P Overrun now (map shed jobs) t) (λ n. share (p.records n) Overrun (p.ceiling n) t)
      (λ n a b. subst (λ (x : Option Job). burden_at (p.records n) Overrun (P n) now t x ≤ share (p.records n) Overrun (p.ceiling n) t) (sym (job_shed jobs n room a (omega arith))) (share_shed n t (job_of jobs n) refl (carried n a (omega arith)) (p.records n) refl)) in
      let fits = p.feasible Overrun t in
      omega arith

  shed_held : (n : ℕ) (r : Record) → p.records n ≡ Some r → (j : Job) → Carried r (p.ceiling n) (P n) now j → (c : Class) → r.row.class ≡ c → SlotOk (p.records n) (p.ceiling n) (P n) Overrun now (shed (Some j))
  shed_held n r e j h Background z =
      let class : j.row.class ≡ Background = ap (λ (x : Row). x.class) h.row ∙ z in
      subst (SlotOk (p.records n) (p.ceiling n) (P n) Overrun now) (sym (shed_background j class)) tt
  shed_held n r e j h Critical z =
      let class : j.row.class ≡ Critical = ap (λ (x : Row). x.class) h.row ∙ z in
      subst (SlotOk (p.records n) (p.ceiling n) (P n) Overrun now) (sym (shed_critical j class)) (r, e, record { row = h.row; since = h.since; more = h.more z; opens = h.opens })

  shed_slot : (n : ℕ) (slot : Option Job) → CarriedSlot (p.records n) (p.ceiling n) (P n) now slot → SlotOk (p.records n) (p.ceiling n) (P n) Overrun now (shed slot)
  shed_slot n None h = tt
  shed_slot n (Some j) h = shed_held n h.0 h.1 j h.2 h.0.row.class refl

  pub shed_slots : SlotsOk p P Overrun now (map shed jobs)
  shed_slots n a b = subst (SlotOk (p.records n) (p.ceiling n) (P n) Overrun now) (sym (job_shed jobs n room a b)) (shed_slot n (job_of jobs n) (carried n a b))

-- All ends of a turn.

module _ (p : Plan) (O P : ℕ → ℕ → ℕ) (s : State) (inside : Inside p P) (later : Later p O P) (sane : Sane p O s)
    (i : ℕ) (some : 1 ≤ i) (in_range : i ≤ 32) (j : Job) (is : job_of s.jobs i ≡ Some j) (next : Next s (Of i)) where
  runner_held : SlotOk (p.records i) (p.ceiling i) (O i) s.mode s.moment (Some j)
  runner_held = subst (SlotOk (p.records i) (p.ceiling i) (O i) s.mode s.moment) is (sane.slots i some in_range)

  slot_ticked : (n : ℕ) (slot : Option Job) → SlotOk (p.records n) (p.ceiling n) (O n) s.mode s.moment slot → SlotOk (p.records n) (p.ceiling n) (P n) s.mode (s.moment + 1) slot
  slot_ticked n None h = tt
  slot_ticked n (Some o) h = (h.0, h.1, held_ticked h.0 (p.ceiling n) (O n) (P n) s.mode s.moment o o (λ m. later n h.0 m h.1) refl refl h.2.more h.2)

  slots_served : (x : Option Job) → SlotOk (p.records i) (p.ceiling i) (P i) s.mode (s.moment + 1) x → SlotsOk p P s.mode (s.moment + 1) (put s.jobs i x)
  slots_served x h = put_each (λ n slot. SlotOk (p.records n) (p.ceiling n) (P n) s.mode (s.moment + 1) slot) s.jobs i x sane.room some in_range h (λ n a b _. slot_ticked n (job_of s.jobs n) (sane.slots n a b))

  bears_served : (x : Option Job) → Served j x → Bearable p P s.mode (s.moment + 1) (put s.jobs i x)
  bears_served x served = served_bears p O P s inside later sane i some in_range j is next x served

  room_served : (x : Option Job) → length (put s.jobs i x) ≡ 32
  room_served x = length-set s.jobs (i - 1) x ∙ sane.room

  going_held : (j.units + 1 ≡ allowance s.mode j.row → ⊥) → SlotOk (p.records i) (p.ceiling i) (P i) s.mode (s.moment + 1) (Some (worked j))
  going_held left =
      let h = runner_held in
      let more = h.2.more in
      (h.0, h.1, held_ticked h.0 (p.ceiling i) (O i) (P i) s.mode s.moment j (worked j) (λ m. later i h.0 m h.1) refl refl (omega (arith, left, ap (allowance s.mode) h.2.row)) h.2)

  -- in normal mode every job that waits is carried over, and so is the runner at its budget
  carried_other : s.mode ≡ Normal → (n : ℕ) (slot : Option Job) → job_of s.jobs n ≡ slot → SlotOk (p.records n) (p.ceiling n) (O n) s.mode s.moment slot → CarriedSlot (p.records n) (p.ceiling n) (P n) (s.moment + 1) slot
  carried_other normal n None at h = tt
  carried_other normal n (Some o) at h =
      let r = h.0 in
      let ticked_on = held_ticked r (p.ceiling n) (O n) (P n) s.mode s.moment o o (λ m. later n r m h.1) refl refl h.2.more h.2 in
      let early = before_deadline p O s.mode s.moment s.jobs sane.bears n r h.1 o at h.2.row h.2.more in
      let more = ticked_on.more in
      let budget : allowance s.mode r.row ≡ r.row.budget = ap (λ (m : Phase). allowance m r.row) normal in
      let due : deadline_of s.mode o ≡ deadline_of Normal o = ap (λ (m : Phase). deadline_of m o) normal in (
        r,
        h.1,
        record {
          row = h.2.row;
          since = ticked_on.since;
          early = omega arith;
          few = omega arith;
          more = λ z. let all = r.within.2.2 z in omega arith;
          opens = ticked_on.opens;
        },
      )

  carried_runner : Says s.mode j.row (j.units + 1) Switch → CarriedSlot (p.records i) (p.ceiling i) (P i) (s.moment + 1) (Some (worked j))
  carried_runner says =
      let h = runner_held in
      let r = h.0 in
      let other = carried_other says.0 i (Some j) is h in
      let budget : j.row.budget ≡ r.row.budget = ap (λ (x : Row). x.budget) h.2.row in
      let certain : j.row.certain ≡ r.row.certain = ap (λ (x : Row). x.certain) h.2.row in
      let units = says.2 in
      let above = says.3 in (
        r,
        h.1,
        record {
          row = h.2.row;
          since = let a = h.2.since in omega arith;
          early = let a = before_deadline p O s.mode s.moment s.jobs sane.bears i r h.1 j is h.2.row h.2.more in let due : deadline_of s.mode j ≡ deadline_of Normal j = ap (λ (m : Phase). deadline_of m j) says.0 in omega arith;
          few = omega arith;
          more = λ z. omega arith;
          opens = (held_ticked r (p.ceiling i) (O i) (P i) s.mode s.moment j j (λ m. later i r m h.1) refl refl h.2.more h.2).opens;
        },
      )

  carried_all : Says s.mode j.row (j.units + 1) Switch → (n : ℕ) → 1 ≤ n → n ≤ 32 → CarriedSlot (p.records n) (p.ceiling n) (P n) (s.moment + 1) (job_of (put s.jobs i (Some (worked j))) n)
  carried_all says = put_each (λ n slot. CarriedSlot (p.records n) (p.ceiling n) (P n) (s.moment + 1) slot) s.jobs i (Some (worked j)) sane.room some in_range (carried_runner says) (λ n a b _. carried_other says.0 n (job_of s.jobs n) refl (sane.slots n a b))

  pub sane_ended : (end : End) → Says s.mode j.row (j.units + 1) end → Sane p P (ended (ticked s) i (worked j) end)
  sane_ended Going says = record { room = room_served (Some (worked j)); slots = slots_served (Some (worked j)) (going_held says); bears = bears_served (Some (worked j)) (inr refl); turn = tt }
  sane_ended Finished says = record { room = room_served None; slots = slots_served None tt; bears = bears_served None (inl refl); turn = tt }
  sane_ended Cut says = record { room = room_served None; slots = slots_served None tt; bears = bears_served None (inl refl); turn = tt }
  sane_ended Switch says =
      let jobs = put s.jobs i (Some (worked j)) in
      let normal : Bearable p P Normal (s.moment + 1) jobs = subst (λ (m : Phase). Bearable p P m (s.moment + 1) jobs) says.0 (bears_served (Some (worked j)) (inr refl)) in
      record {
        room = length-map jobs shed ∙ room_served (Some (worked j));
        slots = shed_slots p P (s.moment + 1) jobs inside (room_served (Some (worked j))) normal (carried_all says);
        bears = shed_bears p P (s.moment + 1) jobs inside (room_served (Some (worked j))) normal (carried_all says);
        turn = tt;
      }

pub sane_idled : (p : Plan) (O P : ℕ → ℕ → ℕ) (s : State) → Inside p P → Sane p O s → Next s Idle → Sane p P (ticked s)
sane_idled p O P s inside sane none = sane_idle p P (ticked s) inside sane.room (λ i _ _. none i) refl
