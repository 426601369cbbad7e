-- The law of every run, from what each call keeps.

use Rattle.std.proofs.Common.{◌≡◌, ℕ, ◌+◌, ◌-◌, ◌<◌, ◌≤◌, Bool, true, false, cond, ◌&&◌, ◌||◌, eqb, ltb, ◌⊎◌, List, [], ◌∷◌, ◌++◌, map, length, is_some, Some, None, Ok, Err, Option, Result, sym, refl, ap, ◌∙◌, subst, inl, inr, ⊎_elim, arith}
use borrow.Author.Tests.{clash}
use Rattle.std.proofs.ByRecursion.{All-weaker}
use Rattle.std.proofs.lemmas.List.{get_or_past}
use Rattle.std.proofs.lemmas.List.Sums.{get_or-le-sum_by}
use Rattle.std.proofs.lemmas.Bool.{cases_Bool, cases_lt, or_parts, eqb-true, eqb-false}
use Rattle.stream.specs.Limits.{Within}
use Rattle.stream.specs.declared.Class.{Class}
use Rattle.stream.specs.declared.Class.TheVariants.{Critical, Background}
use Rattle.stream.specs.declared.Phase.{Phase}
use Rattle.stream.specs.declared.Phase.TheVariants.{Normal, Overrun}
use Rattle.stream.specs.declared.Refusal.{Refusal}
use Rattle.stream.specs.declared.Row.{Row}
use Rattle.stream.specs.declared.Verdict.{Verdict}
use Rattle.stream.specs.declared.limits.Record.{Record}
use Rattle.bank.specs.Kinds.{Kind}
use Rattle.bank.specs.Laws.{Laws, Same}
use Rattle.bank.proofs.Windows.{same_then, same_self}
use Rattle.demand.proofs.Widths.{short_fits}
use Rattle.demand.specs.Demands.{demand, Feasible}
use Rattle.demand.specs.Verdicts.{Decided}
use Rattle.turns.specs.Jobs.{deadline_of, job_of, released, worked, waiting, background, ending}
use Rattle.turns.specs.Law.{InTime, BeginsOverrun, Kept, NoneLate}
use Rattle.turns.specs.Ledgers.{Status, waits, finished, cut, dropped, Entry, Ledger, empty, is_waiting, is_finished, is_cut, newcomer, older, end_in, served, mode_after, left_after, settled_in, entered, kept}
use Rattle.turns.specs.Runs.{Call, release, pick, settle, calm, Heard, heard_turn, Step, Run, still, step}
use Rattle.turns.specs.Steps.{last_moment, fresh, Started, is_shut, in_overrun, barred, release_refusal, with_job, Next, with_turn, settle_refusal, ticked, ended, numbered, runner, end_of, after_turn, told_of, calm_refusal, calmed}
use Rattle.turns.specs.declared.End.{End}
use Rattle.turns.specs.declared.End.TheVariants.{Going, Finished, Cut, Switch}
use Rattle.turns.specs.declared.Job.{Job}
use Rattle.turns.specs.declared.Settled.{Settled}
use Rattle.turns.specs.declared.State.{State}
use Rattle.turns.specs.declared.Turn.{Turn}
use Rattle.turns.specs.declared.Turn.TheVariants.{Idle, Of}
use Rattle.turns.proofs.Ends.{Says, allowance, end_says}
use Rattle.turns.proofs.Entries.{StatusOk, Known, Leaves}
use Rattle.turns.proofs.Invariants.{Plan, Inside, SlotOk, TurnOk, Sane, before_deadline}
use Rattle.turns.proofs.Keeping.{none_waits, sane_idle, sane_released, sane_ended, sane_idled}
use Rattle.turns.proofs.Tracking.{Tracks, tracks_new, tracks_older, same_end, tracks_ended, tracked_counts}

-- a test of a call's refusal did not hold
pub passed : {X : Type 0} (t : Bool) (e : X) (rest : Option X) → cond t (Some e) rest ≡ None → (t ≡ false) × (rest ≡ None)
passed true e rest h = absurd (clash (sym (ap is_some h)))
passed false e rest h = (refl, h)

pub none_is : {X : Type 0} (o : Option X) → is_some o ≡ false → o ≡ None
none_is None h = refl
none_is (Some x) h = absurd (clash (sym h))

-- a job is only found at one of the 32 places
pub job_place : (jobs : List (Option Job)) (i : ℕ) (j : Job) → length jobs ≡ 32 → job_of jobs i ≡ Some j → i ≤ 32
job_place jobs i j room is =
    ⊎_elim
    (λ (l : 32 < i). absurd (clash (ap is_some (sym (get_or_past jobs (i - 1) None (omega arith)) ∙ is))))
    (λ (l : i ≤ 32). l)
    (cases_lt 32 i)

-- where no job is counted, none waits
none_counted : (jobs : List (Option Job)) → length jobs ≡ 32 → waiting jobs ≡ 0 → (i : ℕ) → 1 ≤ i → i ≤ 32 → job_of jobs i ≡ None
none_counted jobs room none i a b =
    let here = get_or-le-sum_by (λ x. cond {A = ℕ} (is_some x) 1 0) jobs (i - 1) None (omega arith) in
    none_is (job_of jobs i) (at (is_some (job_of jobs i)) (omega arith))
  where
    at : (t : Bool) → cond {A = ℕ} t 1 0 ≤ 0 → t ≡ false
    at true l = let z : ⊥ = omega arith in absurd z
    at false l = refl

abbrev is_switch : End → Bool
is_switch Going = false
is_switch Finished = false
is_switch Cut = false
is_switch Switch = true

-- only in normal mode does an end switch
switch_normal : (mode : Phase) (r : Row) (units : ℕ) (done : Bool) → ending mode r units done ≡ Switch → mode ≡ Normal
switch_normal Normal r units done e = refl
switch_normal Overrun r units true e = absurd (clash (ap is_switch e))
switch_normal Overrun r units false e = absurd (clash (sym (cond_either (eqb units r.certain)) ∙ ap is_switch e))
  where
    cond_either : (t : Bool) → is_switch (cond t Cut Going) ≡ false
    cond_either true = refl
    cond_either false = refl

module _ {S : Type 0} (k : Kind S) (laws : Laws k) (origin : S) (few : k.streams origin ≤ 32) (feasible : Feasible k origin) where
  abbrev pub R : ℕ → Option Record
  R = k.records origin

  pub fits : (p : Phase) (t : ℕ) → demand k origin p t ≤ t
  fits Normal t = (feasible t).0
  fits Overrun t = (feasible t).1

  abbrev pub plan : Plan
  plan = record {
    streams = k.streams origin;
    records = R;
    count = k.count origin;
    ceiling = k.ceiling origin;
    few = few;
    numbered = laws.numbered origin;
    ceilings = laws.ceilings origin;
    feasible = fits;
  }

  -- bank, worker and ledger at some point of a run
  pub record Live (b : S) (s : State) (l : Ledger) : Type 0 where
    pub begun : k.begun b
    pub same : Same k origin b
    pub sane : Sane plan (k.opening b) s
    pub tracks : Tracks R s l

  inside : (b : S) → k.begun b → Same k origin b → Inside plan (k.opening b)
  inside b begun same i r m e = let le = laws.within b i r m begun (same.records i ∙ e) in omega (arith, same.ceiling i m)

  -- Release.

  lasts : (mode : Phase) (r : Record) → (background r.row.class && in_overrun mode) ≡ false → 0 < allowance mode r.row
  lasts Normal r h = r.within.2.0
  lasts Overrun r h = by_class r.row.class refl
    where
      by_class : (c : Class) → r.row.class ≡ c → 0 < r.row.certain
      by_class Critical e = let a = r.within.2.2 e in let b = r.within.2.0 in omega arith
      by_class Background e = absurd (clash (sym h ∙ ap (λ (c : Class). background c && true) e))

  live_released : (b c : S) (s : State) (l : Ledger) (i : ℕ) (r : Record) → Live b s l → k.records b i ≡ Some r → release_refusal s i (Some r) (k.opening b i 0) ≡ None → k.accepts b i c → Live c (with_job s i (released r.row s.moment)) (record { mode = l.mode; entries = l.entries ++ newcomer i ∷ [] })
  live_released b c s l i r live e free accepts =
      let not_shut = passed (is_shut s.verdict) 23 (barred s i (Some r) (k.opening b i 0)) free in
      let placed = passed (ltb 32 i) 14 _ not_shut.1 in
      let no_turn = passed (is_some s.turn) 15 _ placed.1 in
      let allowed = passed (background r.row.class && in_overrun s.mode) 16 _ no_turn.1 in
      let opens = passed (is_some (job_of s.jobs i) || eqb (k.opening b i 0) 0) 17 None allowed.1 in
      let parts = or_parts (is_some (job_of s.jobs i)) (eqb (k.opening b i 0) 0) opens.0 in
      let some_open : 0 < k.opening b i 0 = let ne = eqb-false (k.opening b i 0) 0 parts.1 in omega (arith, ne) in
      let there : R i ≡ Some r = sym (live.same.records i) ∙ e in
      let range = laws.numbered origin i r there in
      let empty_place = none_is (job_of s.jobs i) parts.0 in
      record {
        begun = laws.accept_begun b c i live.begun accepts;
        same = same_then k live.same (laws.accept_keeps b c i accepts);
        sane = sane_released plan (k.opening b) (k.opening c) s i r there (inside b live.begun live.same) live.sane empty_place (lasts s.mode r allowed.0) (none_is s.turn no_turn.0)
            (λ m. laws.accepted b c i r m e some_open accepts)
            (λ j q m z ne. laws.others b c i j q m (live.same.records j ∙ z) ne accepts);
        tracks = tracks_new R s l i r range.0 (omega arith) there live.sane.room empty_place live.tracks;
      }

  -- Settle.

  -- every job has its stream's row
  job_rows : (b : S) (s : State) (l : Ledger) → Live b s l → (n : ℕ) (o : Job) → 1 ≤ n → n ≤ 32 → job_of s.jobs n ≡ Some o → (q : Record) × (R n ≡ Some q) × (o.row ≡ q.row)
  job_rows b s l live n o x y is =
      let h = subst (SlotOk (R n) (k.ceiling origin n) (k.opening b n) s.mode s.moment) is (live.sane.slots n x y) in
      (h.0, h.1, h.2.row)

  -- a job that is cut has had what it was owed
  cut_leaves : (mode : Phase) (r : Record) (j : Job) → j.row ≡ r.row → Says mode j.row (j.units + 1) Cut → Leaves r.row j None Cut
  cut_leaves mode r j row says =
      (λ z. says.1 (ap (λ (x : Row). x.class) row ∙ z) ∙ ap (λ (x : Row). x.certain) row, λ z. in_mode mode says.0 z)
    where
      in_mode : (m : Phase) → j.units + 1 ≡ allowance m j.row → r.row.class ≡ Background → j.units + 1 ≡ r.row.budget
      in_mode Normal e z = e ∙ ap (λ (x : Row). x.budget) row
      in_mode Overrun e z = let none = r.within.2.3 z in let certain : j.row.certain ≡ r.row.certain = ap (λ (x : Row). x.certain) row in let f : ⊥ = omega arith in absurd f

  live_ended : (b c : S) (s : State) (l : Ledger) (i : ℕ) (j : Job) (done : Bool) → Live b s l → Next s (Of i) → 1 ≤ i → job_of s.jobs i ≡ Some j → k.ticks b c → Live c (ended (ticked s) i (worked j) (end_of s.mode j done)) (settled_in R l (Of i) done)
  live_ended b c s l i j done live next some is ticks =
      let in_range = job_place s.jobs i j live.sane.room is in
      let known = job_rows b s l live i j some in_range is in
      let r = known.0 in
      let says = end_says s.mode j.row (j.units + 1) done (subst Within (sym known.2) r.within) in
      let end = end_of s.mode j done in
      let now_same = same_then k live.same (laws.tick_keeps b c ticks) in
      let now_begun = laws.tick_begun b c live.begun ticks in
      let ledger_end : end_in l.mode (R i) done i l.entries ≡ end =
      same_end R s l live.sane.room live.tracks i some in_range r known.1 j is done ∙ ap (λ (x : Row). ending s.mode x (j.units + 1) done) (sym known.2) in
      record {
        begun = now_begun;
        same = now_same;
        sane = sane_ended plan (k.opening b) (k.opening c) s (inside c now_begun now_same) (λ n q m z. laws.ticked b c n q m (live.same.records n ∙ z) ticks) live.sane i some in_range j is next end says;
        tracks = subst (λ (x : End). Tracks R (ended (ticked s) i (worked j) end) (record { mode = mode_after x l.mode; entries = left_after R x (map (served i x) (map older l.entries)) })) (sym ledger_end)
            (tracks_ended R (ticked s) (record { mode = l.mode; entries = map older l.entries }) live.sane.room (tracks_older R s l live.tracks) i some in_range r known.1 j is known.2 (λ n o x y z. job_rows b s l live n o x y z) end (λ z. cut_leaves s.mode r j known.2 (subst (Says s.mode j.row (j.units + 1)) z says)));
      }

  live_idled : (b c : S) (s : State) (l : Ledger) → Live b s l → Next s Idle → k.ticks b c → Live c (ticked s) (record { mode = l.mode; entries = map older l.entries })
  live_idled b c s l live none ticks =
      let now_same = same_then k live.same (laws.tick_keeps b c ticks) in
      let now_begun = laws.tick_begun b c live.begun ticks in
      record { begun = now_begun; same = now_same; sane = sane_idled plan (k.opening b) (k.opening c) s (inside c now_begun now_same) live.sane none; tracks = tracks_older R s l live.tracks }

  settled_after : (b c : S) (s : State) (l : Ledger) (slip : Option Refusal) (done : Bool) → Live b s l → k.ticks b c → (turn : Option Turn) → s.turn ≡ turn → is_some turn ≡ true → (h : Heard) → h ≡ heard_turn (Ok (told_of s (runner turn s.jobs) done)) → Live c (after_turn s (runner turn s.jobs) done) (entered R l (settle slip done) h)
  settled_after b c s l slip done live ticks None e out h heard_is = absurd (clash out)
  settled_after b c s l slip done live ticks (Some Idle) e out h heard_is =
      subst (λ (x : Heard). Live c (ticked s) (entered R l (settle slip done) x)) (sym heard_is) (live_idled b c s l live (subst (TurnOk s) e live.sane.turn) ticks)
  settled_after b c s l slip done live ticks (Some (Of i)) e out h heard_is =
      let next = subst (TurnOk s) e live.sane.turn in
      let j = next.1 in
      subst (λ (o : Option Job). (x : Heard) → x ≡ heard_turn (Ok (told_of s (numbered i o) done)) → Live c (after_turn s (numbered i o) done) (entered R l (settle slip done) x)) (sym next.2)
      (λ x z. subst (λ (y : Heard). Live c (ended (ticked s) i (worked j) (end_of s.mode j done)) (entered R l (settle slip done) y)) (sym z) (live_ended b c s l i j done live next next.0 next.2 ticks))
      h heard_is

  -- Calm.

  live_calmed : (b : S) (s : State) (l : Ledger) → Live b s l → calm_refusal s ≡ None → Live b (calmed s) (record { mode = Normal; entries = l.entries })
  live_calmed b s l live free =
      let not_shut = passed (is_shut s.verdict) 23 _ free in
      let no_turn = passed (is_some s.turn) 15 _ not_shut.1 in
      let none : waiting s.jobs ≡ 0 = quiet (in_overrun s.mode) no_turn.1 in
      let t = live.tracks in
      record {
        begun = live.begun;
        same = live.same;
        sane = sane_idle plan (k.opening b) (calmed s) (inside b live.begun live.same) live.sane.room (none_counted s.jobs live.sane.room none) (none_is s.turn no_turn.0);
        tracks = record { mode = refl; known = t.known; each = t.each; accepted = t.accepted; finishes = t.finishes; cuts = t.cuts; drops = t.drops };
      }
    where
      quiet : (t : Bool) → cond {A = Option ℕ} t (cond (eqb (waiting s.jobs) 0) None (Some 19)) (Some 20) ≡ None → waiting s.jobs ≡ 0
      quiet true h = ⊎_elim (λ (z : eqb (waiting s.jobs) 0 ≡ true). eqb-true (waiting s.jobs) 0 z) (λ (z : eqb (waiting s.jobs) 0 ≡ false). absurd (clash (sym (ap is_some (sym (ap (λ (b : Bool). cond {A = Option ℕ} b None (Some 19)) z) ∙ h))))) (cases_Bool (eqb (waiting s.jobs) 0))
      quiet false h = absurd (clash (sym (ap is_some h)))

  -- Any call.

  live_same : (b c : S) (s t : State) (l : Ledger) → Live b s l → c ≡ b → t ≡ s → Live c t l
  live_same b c s t l live e f = subst (λ (x : S). Live x t l) (sym e) (subst (λ (x : State). Live b x l) (sym f) live)

  live_step : (b c : S) (s t : State) (l : Ledger) (call : Call) (h : Heard) → Live b s l → Step k b s call h c t → Live c t (entered R l call h)
  live_step b c s t l (release i) h live (Err e, (_, e1, e2), z) = subst (λ (x : Heard). Live c t (entered R l (release i) x)) (sym z) (live_same b c s t l live e1 e2)
  live_step b c s t l (release i) h live (Ok _, (r, found, free, accepts, e2), z) =
      subst (λ (x : Heard). Live c t (entered R l (release i) x)) (sym z) (subst (λ (x : State). Live c x (record { mode = l.mode; entries = l.entries ++ newcomer i ∷ [] })) (sym e2) (live_released b c s l i r live found free accepts))
  live_step b c s t l pick h live (Some e, (_, e2), e1, z) = live_same b c s t l live e1 e2
  live_step b c s t l pick h live (None, (_, turn, next, e2), e1, z) =
      let sane = live.sane in
      let tracks = live.tracks in
      live_same b c (with_turn s turn) t l (record {
        begun = live.begun;
        same = live.same;
        sane = record { room = sane.room; slots = sane.slots; bears = sane.bears; turn = next };
        tracks = record { mode = tracks.mode; known = tracks.known; each = tracks.each; accepted = tracks.accepted; finishes = tracks.finishes; cuts = tracks.cuts; drops = tracks.drops };
      }) e1 e2
  live_step b c s t l (settle slip done) h live (Err e, (_, e1, e2), z) = subst (λ (x : Heard). Live c t (entered R l (settle slip done) x)) (sym z) (live_same b c s t l live e1 e2)
  live_step b c s t l (settle slip done) h live (Ok answer, (free, ticks, is, e2), z) =
      subst (λ (x : State). Live c x (entered R l (settle slip done) h)) (sym e2)
      (settled_after b c s l slip done live ticks s.turn refl (turn_out slip s.turn free) h (z ∙ ap (λ (x : Settled). heard_turn (Ok x)) is))
    where
      turn_out : (slip : Option Refusal) (turn : Option Turn) → cond {A = Option ℕ} (is_some slip || (cond (is_some turn) false true)) (Some 18) None ≡ None → is_some turn ≡ true
      turn_out (Some e) turn w = absurd (clash (sym (ap is_some w)))
      turn_out None None w = absurd (clash (sym (ap is_some w)))
      turn_out None (Some turn) w = refl
  live_step b c s t l calm h live (Err e, (_, e2), e1, z) = subst (λ (x : Heard). Live c t (entered R l calm x)) (sym z) (live_same b c s t l live e1 e2)
  live_step b c s t l calm h live (Ok _, (free, e2), e1, z) =
      subst (λ (x : Heard). Live c t (entered R l calm x)) (sym z) (live_same b c (calmed s) t (record { mode = Normal; entries = l.entries }) (live_calmed b s l live free) e1 e2)

  -- What holds at any point of a run.

  in_time : (b : S) (s : State) (l : Ledger) → Live b s l → (e : Entry) → Known R s.moment s.jobs e → InTime R e
  in_time b s l live e h = by_status h.record_of h.found e.status refl h.status
    where
      by_status : (r : Record) → R e.stream ≡ Some r → (st : Status) → e.status ≡ st → StatusOk r s.moment (job_of s.jobs e.stream) e st → InTime R e
      by_status r found waits is w =
          let j = w.0 in
          let slot = subst (SlotOk (R e.stream) (k.ceiling origin e.stream) (k.opening b e.stream) s.mode s.moment) w.1 (live.sane.slots e.stream h.numbered.0 h.numbered.1) in
          let early = before_deadline plan (k.opening b) s.mode s.moment s.jobs live.sane.bears e.stream slot.0 slot.1 j w.1 slot.2.row slot.2.more in
          let one : Some slot.0 ≡ Some r = sym slot.1 ∙ found in
          let same : slot.0 ≡ r = cc in
          let row : j.row ≡ r.row = slot.2.row ∙ ap (λ (q : Record). q.row) same in
          let due = term_within s.mode j row in
          let age = w.3 in
          record {
            record_of = r;
            found = found;
            critical = λ _ l. let z : ⊥ = omega arith in absurd z;
            background = λ _ l. let z : ⊥ = omega arith in absurd z;
            drops = λ z. absurd (waits_not_dropped (sym is ∙ z));
          }
        where
          term_within : (mode : Phase) (j : Job) → j.row ≡ r.row → deadline_of mode j ≤ j.since + r.row.deadline
          term_within Normal j row = let short = short_fits r.within in omega (arith, ap (λ (q : Row). q.short) row)
          term_within Overrun j row = omega (arith, ap (λ (q : Row). q.deadline) row)

          waits_not_dropped : waits ≡ dropped → ⊥
          waits_not_dropped z = clash (sym (ap is_waiting z))
      by_status r found finished is w = record { record_of = r; found = found; critical = λ _ _. inl is; background = λ _ _. inl is; drops = λ z. absurd (clash (sym (ap is_finished (sym is ∙ z)))) }
      by_status r found cut is w = record { record_of = r; found = found; critical = λ c _. inr (w.0 c); background = λ c _. inr (inl (w.1 c)); drops = λ z. absurd (clash (sym (ap is_cut (sym is ∙ z)))) }
      by_status r found dropped is w = record { record_of = r; found = found; critical = λ c _. absurd (clash (ap background (sym c ∙ w))); background = λ _ _. inr (inr is); drops = λ _. w }

-- jobs are dropped only by a settle that begins an overrun
only_switch_drops : {S : Type 0} (k : Kind S) (b c : S) (s t : State) (call : Call) (h : Heard) → Step k b s call h c t → (t.tally.dropped ≡ s.tally.dropped) ⊎ BeginsOverrun call s t
only_switch_drops k b c s t (release i) h (Err e, (_, e1, e2), z) = inl (ap (λ (x : State). x.tally.dropped) e2)
only_switch_drops k b c s t (release i) h (Ok _, (r, found, free, accepts, e2), z) = inl (ap (λ (x : State). x.tally.dropped) e2)
only_switch_drops k b c s t pick h (Some e, (_, e2), e1, z) = inl (ap (λ (x : State). x.tally.dropped) e2)
only_switch_drops k b c s t pick h (None, (_, turn, next, e2), e1, z) = inl (ap (λ (x : State). x.tally.dropped) e2)
only_switch_drops k b c s t (settle slip done) h (Err e, (_, e1, e2), z) = inl (ap (λ (x : State). x.tally.dropped) e2)
only_switch_drops k b c s t (settle slip done) h (Ok answer, (free, ticks, is, e2), z) =
    ⊎_elim
    (λ (same : (after_turn s (runner s.turn s.jobs) done).tally.dropped ≡ s.tally.dropped). inl (ap (λ (x : State). x.tally.dropped) e2 ∙ same))
    (λ (begins : (s.mode ≡ Normal) × ((after_turn s (runner s.turn s.jobs) done).mode ≡ Overrun)). inr (begins.0, ap (λ (x : State). x.mode) e2 ∙ begins.1))
    (by_runner (runner s.turn s.jobs))
  where
    by_end : (i : ℕ) (j : Job) (end : End) → end_of s.mode j done ≡ end → ((ended (ticked s) i (worked j) end).tally.dropped ≡ s.tally.dropped) ⊎ ((s.mode ≡ Normal) × ((ended (ticked s) i (worked j) end).mode ≡ Overrun))
    by_end i j Going e = inl refl
    by_end i j Finished e = inl refl
    by_end i j Cut e = inl refl
    by_end i j Switch e = inr (switch_normal s.mode j.row (j.units + 1) done e, refl)

    by_runner : (x : Option (ℕ × Job)) → ((after_turn s x done).tally.dropped ≡ s.tally.dropped) ⊎ ((s.mode ≡ Normal) × ((after_turn s x done).mode ≡ Overrun))
    by_runner None = inl refl
    by_runner (Some (i, j)) = by_end i j (end_of s.mode j done) refl
only_switch_drops k b c s t calm h (Err e, (_, e2), e1, z) = inl (ap (λ (x : State). x.tally.dropped) e2)
only_switch_drops k b c s t calm h (Ok _, (free, e2), e1, z) = inl (ap (λ (x : State). x.tally.dropped) e2)

module _ {S : Type 0} (k : Kind S) (laws : Laws k) (origin : S) where
  -- An open worker.

  live_kept : (few : k.streams origin ≤ 32) (feasible : Feasible k origin) (b : S) (s : State) (l : Ledger) → Live k laws origin few feasible b s l → Kept k (k.records origin) b s l
  live_kept few feasible b s l live = record {
    mode = live.tracks.mode;
    in_time = All-weaker (Known (k.records origin) s.moment s.jobs) (InTime (k.records origin)) (λ e h. in_time k laws origin few feasible b s l live e h) l.entries live.tracks.known;
    counted = tracked_counts (k.records origin) s l live.sane.room live.tracks;
    turn_out = λ turn e. subst (TurnOk s) e live.sane.turn;
    places = λ unshut. let same = live.same.streams in omega (arith, few);
    dropping = λ c t call h st. only_switch_drops k b c s t call h st;
  }

  live_run : (few : k.streams origin ≤ 32) (feasible : Feasible k origin) (l : Ledger) {b c : S} {s t : State} {calls : List (Call × Heard)} → Live k laws origin few feasible b s l → Run k b s calls c t → Kept k (k.records origin) c t (kept (k.records origin) l calls)
  live_run few feasible l live (still {b} {s}) = live_kept few feasible b s l live
  live_run few feasible l live (step {b} {c} {d} {s} {t} {u} {call = act} {h = h} {calls = rest} st run) =
      live_run few feasible (entered (k.records origin) l act h) (live_step k laws origin few feasible b c s t l act h live st) run

  fresh_tracks : (moment : ℕ) (verdict : Result Verdict Refusal) → Tracks (k.records origin) (fresh moment verdict) empty
  fresh_tracks moment verdict = record {
    mode = refl;
    known = tt;
    each = λ n a b. sym (ap (λ (x : Option Job). cond {A = ℕ} (is_some x) 1 0) (none_waits n a b));
    accepted = refl;
    finishes = refl;
    cuts = refl;
    drops = refl;
  }

  -- A shut worker refuses every call.

  shut_kept : (moment : ℕ) (e : Refusal) (b : S) → Kept k (k.records origin) b (fresh moment (Err e)) empty
  shut_kept moment e b = record {
    mode = refl;
    in_time = tt;
    counted = tracked_counts (k.records origin) (fresh moment (Err e)) empty refl (fresh_tracks moment (Err e));
    turn_out = λ turn e. absurd (clash (ap is_some e));
    places = λ unshut. absurd (clash (sym unshut));
    dropping = λ c t call h st. only_switch_drops k b c (fresh moment (Err e)) t call h st;
  }

  shut_step : (moment : ℕ) (e : Refusal) (b c : S) (t : State) (call : Call) (h : Heard) → Step k b (fresh moment (Err e)) call h c t → (t ≡ fresh moment (Err e)) × (entered (k.records origin) empty call h ≡ empty)
  shut_step moment e b c t (release i) h (Err x, (_, _, same), z) = (same, ap (entered (k.records origin) empty (release i)) z)
  shut_step moment e b c t (release i) h (Ok _, (r, found, free, accepts, same), z) = absurd (clash (sym (ap is_some free)))
  shut_step moment e b c t pick h (Some x, (_, same), _, z) = (same, refl)
  shut_step moment e b c t pick h (None, (free, turn, next, same), _, z) = absurd (clash (sym (ap is_some free)))
  shut_step moment e b c t (settle slip done) h (Err x, (_, _, same), z) = (same, ap (entered (k.records origin) empty (settle slip done)) z)
  shut_step moment e b c t (settle slip done) h (Ok answer, (free, ticks, is, same), z) = absurd (none_out slip free)
    where
      none_out : (slip : Option Refusal) → settle_refusal (fresh moment (Err e)) slip ≡ None → ⊥
      none_out None w = clash (sym (ap is_some w))
      none_out (Some x) w = clash (sym (ap is_some w))
  shut_step moment e b c t calm h (Err x, (_, same), _, z) = (same, ap (entered (k.records origin) empty calm) z)
  shut_step moment e b c t calm h (Ok _, (free, same), _, z) = absurd (clash (sym (ap is_some free)))

  shut_run : (moment : ℕ) (e : Refusal) (l : Ledger) {b c : S} {s t : State} {calls : List (Call × Heard)} → s ≡ fresh moment (Err e) → l ≡ empty → Run k b s calls c t → Kept k (k.records origin) c t (kept (k.records origin) l calls)
  shut_run moment e l is none (still {b} {s}) = subst (λ (x : State). Kept k (k.records origin) b x l) (sym is) (subst (λ (x : Ledger). Kept k (k.records origin) b (fresh moment (Err e)) x) (sym none) (shut_kept moment e b))
  shut_run moment e l is none (step {b} {c} {d} {s} {t} {u} {call = act} {h = h} {calls = rest} st run) =
      let after = shut_step moment e b c t act h (subst (λ (x : State). Step k b x act h c t) is st) in
      shut_run moment e (entered (k.records origin) l act h) after.0 (ap (λ (x : Ledger). entered (k.records origin) x act h) none ∙ after.1) run

-- The law.

pub none_late : {S : Type 0} (k : Kind S) (laws : Laws k) (bank : S) (moment : ℕ) (b : S) (s : State) → Started k bank moment b s → NoneLate k b s
none_late {S} k laws bank moment b s started calls c t run =
    ⊎_elim
    (λ (late : last_moment < moment). let (same, (e, told, numbered), is) = started.late late in shut_run k laws b moment e empty (is ∙ ap (fresh moment) told) refl run)
    (λ (early : moment ≤ last_moment). let h = started.begun early in judged_run s.verdict h.0 h.1 h.2)
    (cases_lt last_moment moment)
  where
    judged_run : (verdict : Result Verdict Refusal) → k.begins bank moment b → Decided k b verdict → s ≡ fresh moment verdict → Kept k (k.records b) c t (kept (k.records b) empty calls)
    judged_run (Err e) begins judged is = shut_run k laws b moment e empty is refl run
    judged_run (Ok v) begins judged is =
        let accepts = judged.says in
        let few = accepts.looked.reach.few in
        let begun = laws.begin_begins bank b moment begins in
        let same = same_self k b in
        live_run k laws b few accepts.feasible empty
        (subst (λ (x : State). Live k laws b few accepts.feasible b x empty) (sym is) (record {
          begun = begun;
          same = same;
          sane = sane_idle (plan k laws b few accepts.feasible) (k.opening b) (fresh moment (Ok v)) (inside k laws b few accepts.feasible b begun same) refl none_waits refl;
          tracks = fresh_tracks k laws b moment (Ok v);
        }))
        run
