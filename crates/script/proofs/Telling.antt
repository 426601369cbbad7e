-- What one call of a script tells is of ordinary size.

use Rattle.std.proofs.Common.{◌≡◌, ℕ, ◌+◌, ◌≤◌, ◌<◌, Bool, true, false, cond, eqb, ltb, leb, ◌-◌, ◌&&◌, ◌||◌, length, is_some, Some, None, Ok, Err, Option, Result, refl, sym, ap, ◌∙◌, subst, lit≤, arith}
use borrow.Author.Tests.{clash}
use Rattle.std.proofs.lemmas.Bool.{leb-false}
use Rattle.std.proofs.lemmas.List.{length-set, length-map}
use Rattle.stream.specs.Faults.{whole_line}
use Rattle.stream.specs.declared.Layer.TheVariants.{Engine}
use Rattle.stream.specs.declared.Refusal.{Refusal}
use Rattle.stream.specs.Refusals.{number}
use Rattle.stream.specs.declared.limits.Record.{Record}
use Rattle.bank.specs.Kinds.{Kind}
use Rattle.turns.proofs.Lasting.{passed, job_place}
use Rattle.turns.specs.Jobs.{background, job_of, put, shed, waiting, worked}
use Rattle.turns.specs.Steps.{last_moment, is_shut, in_overrun, barred, release_refusal, pick_refusal, calm_refusal, settle_refusal, Next, Picked, TurnSettled, with_turn, ticked, ended, runner, numbered, after_turn, told_of, end_of}
use Rattle.turns.specs.declared.End.{End}
use Rattle.turns.specs.declared.End.TheVariants.{Going, Finished, Cut, Switch}
use Rattle.turns.specs.declared.Job.{Job}
use Rattle.turns.specs.declared.Settled.{Settled}
use Rattle.turns.specs.declared.Settled.TheVariants.{Ran as HadBy}
use Rattle.turns.specs.declared.State.{State}
use Rattle.turns.specs.declared.Turn.{Turn}
use Rattle.turns.specs.declared.Turn.TheVariants.{Idle, Of}
use Rattle.text.specs.Calls.{ValidCall}
use Rattle.text.proofs.Ordinary.{OrdinarySettled, Ordinary}
use Rattle.text.specs.declared.answer.Answer.{Answer}
use Rattle.text.specs.declared.answer.Answer.TheVariants.{Refused, Ran}
use Rattle.text.specs.declared.call.Call.{Call}
use Rattle.text.specs.declared.call.Call.TheVariants.{Release, Turn as TurnCall, Calm}
use Rattle.script.specs.Performing.{telling, told, turn_given, Performed}

-- not refused by 11, which alone shows a point
abbrev Pointless : Option ℕ → Type 0
Pointless o = o ≡ Some 11 → ⊥

none_pointless : Pointless None
none_pointless is = absurd (clash (ap is_some is))

-- a test that refuses by another number, and then others
test_pointless : (t : Bool) (n : ℕ) (rest : Option ℕ) → Pointless (Some n) → Pointless rest → Pointless (cond t (Some n) rest)
test_pointless true n rest here later = here
test_pointless false n rest here later = later

other : (n : ℕ) → (n ≡ 11 → ⊥) → Pointless (Some n)
other n differs is = let same : n ≡ 11 = cc in differs same

release_pointless : (s : State) (i : ℕ) (found : Option Record) (opening : ℕ) → Pointless (release_refusal s i found opening)
release_pointless s i found opening = test_pointless (is_shut s.verdict) 23 (barred s i found opening) (other _ (λ e. omega arith)) (by_record found)
  where
    by_record : (found : Option Record) → Pointless (barred s i found opening)
    by_record None = other _ (λ e. omega arith)
    by_record (Some r) =
        test_pointless (ltb 32 i) 14 _ (other _ (λ e. omega arith))
        (test_pointless (is_some s.turn) 15 _ (other _ (λ e. omega arith))
        (test_pointless (background r.row.class && in_overrun s.mode) 16 _ (other _ (λ e. omega arith))
        (test_pointless (is_some (job_of s.jobs i) || eqb opening 0) 17 None (other _ (λ e. omega arith)) none_pointless)))

pick_pointless : (s : State) → Pointless (pick_refusal s)
pick_pointless s =
    test_pointless (is_shut s.verdict) 23 _ (other _ (λ e. omega arith))
    (test_pointless (is_some s.turn) 15 _ (other _ (λ e. omega arith))
    (test_pointless (leb last_moment s.moment) 24 None (other _ (λ e. omega arith)) none_pointless))

calm_pointless : (s : State) → Pointless (calm_refusal s)
calm_pointless s =
    test_pointless (is_shut s.verdict) 23 _ (other _ (λ e. omega arith))
    (test_pointless (is_some s.turn) 15 _ (other _ (λ e. omega arith)) (by_mode (in_overrun s.mode)))
  where
    by_waiting : (t : Bool) → Pointless (cond {A = Option ℕ} t None (Some 19))
    by_waiting true = none_pointless
    by_waiting false = other _ (λ e. omega arith)

    by_mode : (t : Bool) → Pointless (cond {A = Option ℕ} t (cond (eqb (waiting s.jobs) 0) None (Some 19)) (Some 20))
    by_mode true = by_waiting (eqb (waiting s.jobs) 0)
    by_mode false = other _ (λ e. omega arith)

-- a worker between two calls
pub record Between (s : State) : Type 0 where
  pub early : s.moment ≤ last_moment
  pub room : length s.jobs ≡ 32

pub record Tells (s : State) (answer : Answer) (t : State) : Type 0 where
  pub ordinary : Ordinary answer
  pub between : Between t
  pub few : t.tally.accepted ≤ s.tally.accepted + 1

-- a refused call is told at its line, and nothing changes
refused_tells : (s t : State) (line : ℕ) (e : Refusal) (answer : Answer) (o : Option ℕ) → Between s → line ≤ 65537 → Pointless o → o ≡ Some (number e) → t ≡ s → answer ≡ Refused (whole_line e Engine line) → Tells s answer t
refused_tells s t line e answer o between near pointless was same is = record {
  ordinary = subst Ordinary (sym is) (near, lit≤ tt, λ v z. absurd (pointless (was ∙ ap (λ (r : Refusal). Some (number r)) z)));
  between = subst Between (sym same) between;
  few = omega (arith, ap (λ (x : State). x.tally.accepted) same);
}

-- a turn of stream i's job leaves the places, and accepts nothing
ended_between : (s : State) (i : ℕ) (j : Job) (end : End) → s.moment < last_moment → length s.jobs ≡ 32 → Between (ended (ticked s) i j end) × ((ended (ticked s) i j end).tally.accepted ≡ s.tally.accepted)
ended_between s i j Going before room = (record { early = omega arith; room = length-set s.jobs (i - 1) (Some j) ∙ room }, refl)
ended_between s i j Finished before room = (record { early = omega arith; room = length-set s.jobs (i - 1) None ∙ room }, refl)
ended_between s i j Cut before room = (record { early = omega arith; room = length-set s.jobs (i - 1) None ∙ room }, refl)
ended_between s i j Switch before room = (record { early = omega arith; room = length-map (put s.jobs i (Some j)) shed ∙ length-set s.jobs (i - 1) (Some j) ∙ room }, refl)

-- a turn that was handed out is settled
settled_tells : (s t : State) (turn : Turn) (done : Bool) (settled : Settled) → Between s → s.moment < last_moment → Next s turn → settled ≡ told_of (with_turn s turn) (runner (Some turn) s.jobs) done → t ≡ after_turn (with_turn s turn) (runner (Some turn) s.jobs) done → Tells s (Ran settled) t
settled_tells s t Idle done settled between before next is left = record {
  ordinary = subst OrdinarySettled (sym is) tt;
  between = subst Between (sym left) (record { early = omega arith; room = between.room });
  few = omega (arith, ap (λ (x : State). x.tally.accepted) left);
}
settled_tells s t (Of i) done settled between before (some, j, found, least) is left =
    let place = job_place s.jobs i j between.room found in
    let after = λ (o : Option Job). after_turn (with_turn s (Of i)) (numbered i o) done in
    let end = end_of s.mode j done in
    let ends = ended_between (with_turn s (Of i)) i (worked j) end before between.room in
    let small : OrdinarySettled (HadBy i end) = omega arith in
    record {
      ordinary = subst OrdinarySettled (sym (is ∙ ap (λ (o : Option Job). told_of (with_turn s (Of i)) (numbered i o) done) found)) small;
      between = subst Between (sym (left ∙ ap after found)) ends.0;
      few = omega (arith, ap (λ (x : State). x.tally.accepted) (left ∙ ap after found), ends.1);
    }

module _ {S : Type 0} (k : Kind S) where
  turn_tells : (b c : S) (s mid t : State) (done : Bool) (line : ℕ) (slip : Option Refusal) (settled : Result Settled Refusal) → Between s → line ≤ 65537 → Picked s slip mid → TurnSettled k b mid slip done settled c t → Tells s (told line (telling Ran (turn_given slip settled))) t
  turn_tells b c s mid t done line (Some e) (Err f) between near picked was =
      refused_tells s t line e _ (pick_refusal s) between near (pick_pointless s) picked.0 (was.2 ∙ picked.1) refl
  turn_tells b c s mid t done line (Some e) (Ok settled) between near picked was = absurd (clash (sym (ap is_some was.0)))
  turn_tells b c s mid t done line None (Err f) between near (free, turn, next, out) was =
      absurd (clash (sym (ap (λ (m : State). is_some (settle_refusal m None)) out) ∙ ap is_some was.0))
  turn_tells b c s mid t done line None (Ok settled) between near (free, turn, next, out) (clear, ticks, is, left) =
      let not_shut = passed (is_shut s.verdict) 23 _ free in
      let no_turn = passed (is_some s.turn) 15 _ not_shut.1 in
      let in_time = passed (leb last_moment s.moment) 24 None no_turn.1 in
      let before = leb-false last_moment s.moment in_time.0 in
      settled_tells s t turn done settled between (omega (arith, before)) next
      (is ∙ ap (λ (m : State). told_of m (runner m.turn m.jobs) done) out)
      (left ∙ ap (λ (m : State). after_turn m (runner m.turn m.jobs) done) out)

  pub call_tells : (b c : S) (s t : State) (call : Call) (line : ℕ) (answer : Answer) → Between s → ValidCall call → line ≤ 65537 → Performed k b s call line answer c t → Tells s answer t
  call_tells b c s t (Release i) line answer between valid near (r, (Ok x, (record_of, found, free, accepts, next), gave), e) = record {
    ordinary = subst Ordinary (sym (e ∙ ap (told line) gave)) valid;
    between = subst Between (sym next) (record { early = between.early; room = length-set s.jobs (i - 1) _ ∙ between.room });
    few = omega (arith, ap (λ (x : State). x.tally.accepted) next);
  }
  call_tells b c s t (Release i) line answer between valid near (r, (Err f, (was, left, same), gave), e) =
      refused_tells s t line f answer _ between near (release_pointless s i (k.records b i) (k.opening b i 0)) was same (e ∙ ap (told line) gave)
  call_tells b c s t (TurnCall done) line answer between valid near (r, (g, (slip, mid, settled, picked, was, given), gave), e) =
      subst (λ (a : Answer). Tells s a t) (sym (e ∙ ap (told line) (gave ∙ ap (telling Ran) given))) (turn_tells b c s mid t done line slip settled between near picked was)
  call_tells b c s t Calm line answer between valid near (r, (Ok x, (free, next), same, gave), e) = record {
    ordinary = subst Ordinary (sym (e ∙ ap (told line) gave)) (subst (λ (m : ℕ). m ≤ last_moment) (sym (ap (λ (x : State). x.moment) next)) between.early);
    between = subst Between (sym next) (record { early = between.early; room = between.room });
    few = omega (arith, ap (λ (x : State). x.tally.accepted) next);
  }
  call_tells b c s t Calm line answer between valid near (r, (Err f, (was, left), same, gave), e) =
      refused_tells s t line f answer _ between near (calm_pointless s) was left (e ∙ ap (told line) gave)
