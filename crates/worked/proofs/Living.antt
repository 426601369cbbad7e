-- The runs, step by step. Each bank on the way is the first one with other waits.

use Rattle.std.proofs.Common.{◌≡◌, ℕ, ◌+◌, ◌-◌, ◌<◌, ◌≤◌, Bool, true, false, cond, ◌&&◌, eqb, List, [], ◌∷◌, ◌++◌, map, length, set, replicate, pos, is_some, Some, None, Ok, Err, Option, sym, refl, ap, ◌∙◌, subst, arith}
use borrow.Author.Tests.{clash}
use Rattle.stream.specs.declared.Phase.{Phase}
use Rattle.stream.specs.declared.Phase.TheVariants.{Normal, Overrun}
use Rattle.stream.specs.declared.Refusal.TheVariants.{BackgroundInOverrun}
use Rattle.stream.specs.declared.Row.{Row}
use Rattle.stream.specs.declared.Verdict.{Verdict}
use Rattle.stream.specs.declared.limits.Record.{Record}
use Rattle.least.specs.Orders.{pair_below}
use Rattle.demand.proofs.Deciding.{judged}
use Rattle.table.specs.Sporadics.{sporadic, states_in, Sporadic}
use Rattle.table.specs.Tables.{closed, fresh as idle, opening_of, record_of, state_of, RecordState as Wait}
use Rattle.table.specs.Waits.{after}
use Rattle.table.proofs.Lawful.{sporadic_lawful}
use Rattle.table.proofs.Views.{lowered, opened, sporadic_begins}
use Rattle.turns.specs.Jobs.{background as background_class, released}
use Rattle.turns.specs.Runs.{Call, release, pick, settle, calm, Heard, refused, granted, named, Run, Step, still, step}
use Rattle.turns.specs.Steps.{Next, Started, after_turn, fresh, in_overrun, last_moment, key, pick_refusal, release_refusal, runner, told_of, with_job, with_turn}
use Rattle.turns.specs.declared.Job.{Job}
use Rattle.turns.specs.declared.Settled.TheVariants.{Ran}
use Rattle.turns.specs.declared.End.{End}
use Rattle.turns.specs.declared.End.TheVariants.{Going, Finished, Cut, Switch}
use Rattle.turns.specs.declared.State.{State}
use Rattle.turns.specs.declared.Tally.{Tally}
use Rattle.turns.specs.declared.Turn.{Turn}
use Rattle.turns.specs.declared.Turn.TheVariants.{Of}
use Rattle.worked.specs.Lives.{Lived, Opened, tally, both_in, to_the_switch, to_the_end, to_the_cut}
use Rattle.worked.specs.Plans.{background, critical, rows, verdict}
use Rattle.worked.proofs.Twos.{two, sporadic_pair}
use Rattle.worked.proofs.Picking.{first_next, second_next}
use Rattle.worked.proofs.Working.{worked}

-- a worker with jobs of the first two streams
abbrev worker : Verdict → ℕ → Phase → Option Turn → Option Job → Option Job → Tally → State
worker v moment mode turn first second counts = record { moment = moment; mode = mode; verdict = Ok v; turn = turn; jobs = first ∷ second ∷ replicate 30 None; tally = counts }

-- jobs of them, released at a moment, that have had so many units
abbrev lock : ℕ → ℕ → Job
lock since units = record { row = critical 4 2; since = since; units = units }

abbrev preview : ℕ → ℕ → Job
preview since units = record { row = background 3 6; since = since; units = units }

run_then : {b c d : Sporadic} {s t u : State} {xs ys : List (Call × Heard)} → Run sporadic b s xs c t → Run sporadic c t ys d u → Run sporadic b s (xs ++ ys) d u
run_then still rest = rest
run_then (step st run) rest = step st (run_then run rest)

-- a turn is picked and settled
turn_taken : (c d : Sporadic) (s t : State) (i : ℕ) (done : Bool) (how : End) → pick_refusal s ≡ None → Next s (Of i) → sporadic.ticks c d → Ran i how ≡ told_of (with_turn s (Of i)) (runner (Some (Of i)) s.jobs) done → t ≡ after_turn (with_turn s (Of i)) (runner (Some (Of i)) s.jobs) done → Run sporadic c s ((pick, granted) ∷ (settle None done, named (Of i)) ∷ []) d t
turn_taken c d s t i done how free next ticks told is = step {c = c} {t = with_turn s (Of i)} (None, (free, Of i, next, refl), refl, refl) (step {c = d} {t = t} (Ok (Ran i how), (refl, ticks, told, is), refl) still)

-- a bank with other states, as many
with_states : (b : Sporadic) (xs : List Wait) → length xs ≡ length (states_in b) → (c : Sporadic) × (states_in c ≡ xs)
with_states b xs size = (record { table = record { states = record { items = xs } }; few = omega (arith, b.few) }, refl)

module _ (b : Sporadic) (x y : Record) (lock_row : x.row ≡ critical 4 2) (preview_row : y.row ≡ background 3 6) (is : states_in b ≡ record { stream = x; wait = 0 } ∷ record { stream = y; wait = 0 } ∷ []) where
  abbrev waits : ℕ → ℕ → List Wait
  waits p q = record { stream = x; wait = p } ∷ record { stream = y; wait = q } ∷ []

  held : ℕ → ℕ → Sporadic
  held p q = (with_states b (waits p q) (ap (λ (xs : List Wait). length xs) (sym is))).0

  held_states : (p q : ℕ) → states_in (held p q) ≡ waits p q
  unfolding held
  held_states p q = (with_states b (waits p q) (ap (λ (xs : List Wait). length xs) (sym is))).1

  abbrev At : Sporadic → ℕ → ℕ → Type 0
  At c p q = states_in c ≡ waits p q

  -- the acts of the bank
  ticked_on : (c d : Sporadic) (p q : ℕ) → At c p q → At d (p - 1) (q - 1) → sporadic.ticks c d
  ticked_on c d p q from to = to ∙ sym (ap (map lowered) from)

  lock_in : (c d : Sporadic) (q : ℕ) → At c 0 q → At d 6 q → sporadic.accepts c 1 d
  lock_in c d q from to =
      let gap : x.row.gap ≡ 6 = ap (λ (r : Row). r.gap) lock_row in
      (record { stream = x; wait = 0 }, ap (λ (xs : List Wait). state_of xs 1) from, to ∙ ap (λ (n : ℕ). waits n q) (sym gap) ∙ sym (ap (λ (xs : List Wait). set xs 0 (closed (λ r. r) (record { stream = x; wait = 0 }))) from))

  preview_in : (c d : Sporadic) (p : ℕ) → At c p 0 → At d p 6 → sporadic.accepts c 2 d
  preview_in c d p from to =
      let gap : y.row.gap ≡ 6 = ap (λ (r : Row). r.gap) preview_row in
      (record { stream = y; wait = 0 }, ap (λ (xs : List Wait). state_of xs 2) from, to ∙ ap (λ (n : ℕ). waits p n) (sym gap) ∙ sym (ap (λ (xs : List Wait). set xs 1 (closed (λ r. r) (record { stream = y; wait = 0 }))) from))

  lock_open : (c : Sporadic) (q : ℕ) → At c 0 q → sporadic.opening c 1 0 ≡ 1
  lock_open c q at = ap (λ (xs : List Wait). opening_of (λ r. r) xs 1 0) at ∙ ap (λ (r : Row). after 0 r.gap 0) lock_row

  preview_open : (c : Sporadic) (p : ℕ) → At c p 0 → sporadic.opening c 2 0 ≡ 1
  preview_open c p at = ap (λ (xs : List Wait). opening_of (λ r. r) xs 2 0) at ∙ ap (λ (r : Row). after 0 r.gap 0) preview_row

  -- the calls
  lock_taken : (v : Verdict) (m : ℕ) (c d : Sporadic) → At c 0 0 → At d 6 0 → Step sporadic c (worker v m Normal None None None (tally 0 0 0 0)) (release 1) granted d (worker v m Normal None (Some (lock m 0)) None (tally 1 0 0 0))
  lock_taken v m c d from to =
      let s = worker v m Normal None None None (tally 0 0 0 0) in
      (Ok tt, (x, ap (λ (xs : List Wait). record_of (λ r. r) xs 1) from, ap (λ (n : ℕ). release_refusal s 1 (Some x) n) (lock_open c 0 from) ∙ ap (λ (r : Row). cond {A = Option ℕ} (background_class r.class && in_overrun Normal) (Some 16) None) lock_row, lock_in c d 0 from to, sym (ap (λ (r : Row). with_job s 1 (released r m)) lock_row)), refl)

  preview_taken : (v : Verdict) (m : ℕ) (c d : Sporadic) (p : ℕ) (first : Option Job) (n : ℕ) → At c p 0 → At d p 6 → Step sporadic c (worker v m Normal None first None (tally n 0 0 0)) (release 2) granted d (worker v m Normal None first (Some (preview m 0)) (tally (n + 1) 0 0 0))
  preview_taken v m c d p first n from to =
      let s = worker v m Normal None first None (tally n 0 0 0) in
      (Ok tt, (y, ap (λ (xs : List Wait). record_of (λ r. r) xs 2) from, ap (λ (o : ℕ). release_refusal s 2 (Some y) o) (preview_open c p from) ∙ ap (λ (r : Row). cond {A = Option ℕ} (background_class r.class && in_overrun Normal) (Some 16) None) preview_row, preview_in c d p from to, sym (ap (λ (r : Row). with_job s 2 (released r m)) preview_row)), refl)

  preview_refused : (v : Verdict) (c : Sporadic) (p q : ℕ) (m : ℕ) (first : Option Job) (counts : Tally) → At c p q → Step sporadic c (worker v m Overrun None first None counts) (release 2) refused c (worker v m Overrun None first None counts)
  preview_refused v c p q m first counts at =
      let s = worker v m Overrun None first None counts in
      (Err BackgroundInOverrun, (ap (λ (f : Option Record). release_refusal s 2 f (sporadic.opening c 2 0)) (ap (λ (xs : List Wait). record_of (λ r. r) xs 2) at) ∙ ap (λ (r : Row). cond {A = Option ℕ} (background_class r.class && in_overrun Overrun) (Some 16) (cond (eqb (sporadic.opening c 2 0) 0) (Some 17) None)) preview_row, refl, refl), refl)

  -- the lock's turn beside the preview, or alone, and the preview's alone
  lock_turn : (v : Verdict) (m : ℕ) (u : ℕ) (n : ℕ) → m < 1000000000000 → Next (worker v m Normal None (Some (lock 0 u)) (Some (preview 0 n)) (tally 2 0 0 0)) (Of 1)
  lock_turn v m u n early = first_next (worker v m Normal None (Some (lock 0 u)) (Some (preview 0 n)) (tally 2 0 0 0)) (lock 0 u) (Some (preview 0 n)) refl refl (λ o e. let one : preview 0 n ≡ o = cc in subst (λ (j : Job). pair_below (key Normal 2 j) (key Normal 1 (lock 0 u)) ≡ false) one refl)

  lock_alone : (v : Verdict) (m u : ℕ) → Next (worker v m Overrun None (Some (lock 0 u)) None (tally 2 0 0 1)) (Of 1)
  lock_alone v m u = first_next (worker v m Overrun None (Some (lock 0 u)) None (tally 2 0 0 1)) (lock 0 u) None refl refl (λ o e. absurd (clash (ap is_some e)))

  preview_alone : (v : Verdict) (m u : ℕ) → Next (worker v m Normal None None (Some (preview 0 u)) (tally 1 0 0 0)) (Of 2)
  preview_alone v m u = second_next (worker v m Normal None None (Some (preview 0 u)) (tally 1 0 0 0)) (preview 0 u) refl refl

  both_taken : (v : Verdict) (m : ℕ) → Run sporadic b (fresh m (Ok v)) both_in (held 6 6) (worker v m Normal None (Some (lock m 0)) (Some (preview m 0)) (tally 2 0 0 0))
  both_taken v m =
      step {c = held 6 0} {t = worker v m Normal None (Some (lock m 0)) None (tally 1 0 0 0)} (lock_taken v m b (held 6 0) is (held_states 6 0))
      (step {c = held 6 6} {t = worker v m Normal None (Some (lock m 0)) (Some (preview m 0)) (tally 2 0 0 0)} (preview_taken v m (held 6 0) (held 6 6) 6 (Some (lock m 0)) 1 (held_states 6 0) (held_states 6 6)) still)

  switched : (v : Verdict) → Run sporadic b (fresh 0 (Ok v)) to_the_switch (held 4 4) (worker v 2 Overrun None (Some (lock 0 2)) None (tally 2 0 0 1))
  switched v =
      let two_zero = worker v 0 Normal None (Some (lock 0 0)) (Some (preview 0 0)) (tally 2 0 0 0) in
      let two_one = worker v 1 Normal None (Some (lock 0 1)) (Some (preview 0 0)) (tally 2 0 0 0) in
      let over = worker v 2 Overrun None (Some (lock 0 2)) None (tally 2 0 0 1) in
      run_then (both_taken v 0)
      (run_then
      (turn_taken (held 6 6) (held 5 5) two_zero two_one 1 false Going refl (lock_turn v 0 0 0 (omega arith)) (ticked_on (held 6 6) (held 5 5) 6 6 (held_states 6 6) (held_states 5 5)) refl refl)
      (turn_taken (held 5 5) (held 4 4) two_one over 1 false Switch refl (lock_turn v 1 1 0 (omega arith)) (ticked_on (held 5 5) (held 4 4) 5 5 (held_states 5 5) (held_states 4 4)) refl refl))

  done_over : (v : Verdict) → Run sporadic (held 4 4) (worker v 2 Overrun None (Some (lock 0 2)) None (tally 2 0 0 1)) to_the_end (held 2 2) (worker v 4 Overrun None None None (tally 2 1 0 1))
  done_over v =
      let over = worker v 2 Overrun None (Some (lock 0 2)) None (tally 2 0 0 1) in
      let further = worker v 3 Overrun None (Some (lock 0 3)) None (tally 2 0 0 1) in
      let over_done = worker v 4 Overrun None None None (tally 2 1 0 1) in
      step {c = held 4 4} {t = over} (preview_refused v (held 4 4) 4 4 2 (Some (lock 0 2)) (tally 2 0 0 1) (held_states 4 4))
      (run_then
      (turn_taken (held 4 4) (held 3 3) over further 1 false Going refl (lock_alone v 2 2) (ticked_on (held 4 4) (held 3 3) 4 4 (held_states 4 4) (held_states 3 3)) refl refl)
      (turn_taken (held 3 3) (held 2 2) further over_done 1 true Finished refl (lock_alone v 3 3) (ticked_on (held 3 3) (held 2 2) 3 3 (held_states 3 3) (held_states 2 2)) refl refl))

  calm_again : (v : Verdict) → Run sporadic (held 2 2) (worker v 4 Overrun None None None (tally 2 1 0 1)) ((calm, granted) ∷ []) (held 2 2) (worker v 4 Normal None None None (tally 2 1 0 1))
  calm_again v = step {c = held 2 2} {t = worker v 4 Normal None None None (tally 2 1 0 1)} (Ok tt, (refl, refl), refl, refl) still

  cut_off : (v : Verdict) → Run sporadic b (fresh 0 (Ok v)) to_the_cut (held 0 3) (worker v 3 Normal None None None (tally 1 0 1 0))
  cut_off v =
      let zero_units = worker v 0 Normal None None (Some (preview 0 0)) (tally 1 0 0 0) in
      let one_unit = worker v 1 Normal None None (Some (preview 0 1)) (tally 1 0 0 0) in
      let two_units = worker v 2 Normal None None (Some (preview 0 2)) (tally 1 0 0 0) in
      let none_left = worker v 3 Normal None None None (tally 1 0 1 0) in
      step {c = held 0 6} {t = zero_units} (preview_taken v 0 b (held 0 6) 0 None 0 is (held_states 0 6))
      (run_then
      (turn_taken (held 0 6) (held 0 5) zero_units one_unit 2 false Going refl (preview_alone v 0 0) (ticked_on (held 0 6) (held 0 5) 0 6 (held_states 0 6) (held_states 0 5)) refl refl)
      (run_then
      (turn_taken (held 0 5) (held 0 4) one_unit two_units 2 false Going refl (preview_alone v 1 1) (ticked_on (held 0 5) (held 0 4) 0 5 (held_states 0 5) (held_states 0 4)) refl refl)
      (turn_taken (held 0 4) (held 0 3) two_units none_left 2 false Cut refl (preview_alone v 2 2) (ticked_on (held 0 4) (held 0 3) 0 4 (held_states 0 4) (held_states 0 3)) refl refl)))

opened_so : (bank : Sporadic) (moment : ℕ) → rows (states_in bank) ≡ critical 4 2 ∷ background 3 6 ∷ [] → moment ≤ last_moment → (b : Sporadic) × Opened (critical 4 2) (background 3 6) b × Started sporadic bank moment b (fresh moment (Ok (verdict 6 7 Normal 2 (pos 0))))
opened_so bank moment pair early =
    let w = two (critical 4 2) (background 3 6) (states_in bank) pair in
    let x = w.first.stream in
    let y = w.second.stream in
    let made = with_states bank (idle x ∷ idle y ∷ []) (ap (λ (xs : List Wait). length xs) (sym w.is)) in
    let b = made.0 in
    let at : states_in b ≡ idle x ∷ idle y ∷ [] = made.1 in
    let same_rows : rows (states_in b) ≡ critical 4 2 ∷ background 3 6 ∷ [] = ap rows at ∙ ap (λ (r : Row). r ∷ y.row ∷ []) w.first_row ∙ ap (λ (r : Row). critical 4 2 ∷ r ∷ []) w.second_row in (
      b,
      (x, y, w.first_row, w.second_row, at),
      record {
        late = λ l. let z : ⊥ = omega arith in absurd z;
        begun = λ _. (sporadic_begins bank b moment (at ∙ sym (ap (map opened) w.is)), judged sporadic b (Ok (verdict 6 7 Normal 2 (pos 0))) ((worked sporadic sporadic_lawful).accepted b (sporadic_pair (critical 4 2) (background 3 6) b same_rows)), refl);
      },
    )

pub lived : Lived (critical 4 2) (background 3 6)
lived = record {
  opens = opened_so;
  gets_both = λ b v m (x, y, ex, ey, is). (held b x y ex ey is 6 6, both_taken b x y ex ey is v m);
  switches = λ b v (x, y, ex, ey, is). (held b x y ex ey is 4 4, _, switched b x y ex ey is v, refl, refl);
  finishes = λ b v (x, y, ex, ey, is). (held b x y ex ey is 2 2, _, run_then (switched b x y ex ey is v) (done_over b x y ex ey is v), refl, refl);
  calms = λ b v (x, y, ex, ey, is). (held b x y ex ey is 2 2, _, run_then (switched b x y ex ey is v) (run_then (done_over b x y ex ey is v) (calm_again b x y ex ey is v)), refl, refl);
  cuts = λ b v (x, y, ex, ey, is). (held b x y ex ey is 0 3, _, cut_off b x y ex ey is v, refl, refl);
}
