-- The run that a script makes.

use Rattle.std.proofs.Common.{◌≡◌, ℕ, Bool, List, [], ◌++◌, Some, None, Ok, Err, Option, Result, sym, refl, ap, ◌∙◌, subst, arith}
use Rattle.stream.specs.declared.Fault.{Fault}
use Rattle.stream.specs.declared.Refusal.{Refusal}
use Rattle.bank.specs.Kinds.{Kind}
use Rattle.engine.specs.Reports.{counts_of}
use Rattle.turns.specs.Law.{Counted, NoneLate}
use Rattle.turns.specs.Ledgers.{Ledger}
use Rattle.turns.specs.Runs.{Call as Act, Heard, granted, heard, Run, still, step}
use Rattle.turns.specs.Steps.{Picked, TurnSettled, settle_refusal}
use Rattle.turns.specs.declared.Counts.{Counts}
use Rattle.turns.specs.declared.Settled.{Settled}
use Rattle.turns.specs.declared.Settled.TheVariants.{Idle as NoJob, Ran as HadBy}
use Rattle.turns.specs.declared.State.{State}
use Rattle.text.specs.declared.answer.Answer.{Answer}
use Rattle.text.specs.declared.answer.Answer.TheVariants.{Refused, Took, Ran, Calm as CalmAt, Total}
use Rattle.text.specs.declared.call.Call.{Call}
use Rattle.text.specs.declared.call.Call.TheVariants.{Release, Turn, Calm}
use Rattle.script.specs.Accounts.{heard_answer, heard_line, Logged, last, line, Booked, Accounted}
use Rattle.script.specs.Performing.{telling, told, turn_given, Performed}
use Rattle.script.specs.Playing.{Played, finished, broken, called}

clash : {X E : Type 0} → {e : E} → ◌≡◌ {A = Option E} (Some e) None → X
clash was = let z : ◌≡◌ {A = ℕ} 0 1 = cc in absurd (let w : ⊥ = omega arith in w)

no_total : {X : Type 0} → {fault : Fault} {counts : Counts} → Refused fault ≡ Total counts → X
no_total was = let z : ◌≡◌ {A = ℕ} 0 1 = cc in absurd (let w : ⊥ = omega arith in w)

same_counts : {n m : Counts} → Total n ≡ Total m → m ≡ n
same_counts e = cc

heard_told : (tell : Unit {0} → Answer) (at : ℕ) (g : Result (Unit {0}) Refusal) → ((x : Unit {0}) → heard_answer (tell x) ≡ granted) → heard_answer (told at (telling tell g)) ≡ heard g
heard_told tell at (Ok x) h = h x
heard_told tell at (Err e) h = refl

-- the counts that a worker reports, where it is counted by a ledger
booked : {s : State} {l : Ledger} → Counted s l → Booked l (counts_of s)
booked counted = record {
  accepted = counted.accepted;
  finished = counted.finishes;
  cut = counted.cuts;
  dropped = counted.drops;
  waiting = counted.waiting_jobs;
  none_lost = counted.none_lost;
}

module _ {S : Type 0} (k : Kind S) where
  -- a slip that is void cannot be settled, and one that is not can
  turn_run : (b c d : S) (s mid t u : State) (done : Bool) (at : ℕ) (slip : Option Refusal) (settled : Result Settled Refusal) (log : List (Act × Heard)) → Picked s slip mid → TurnSettled k b mid slip done settled c t → Run k c t log d u → Run k b s (heard_line (Turn done) (told at (telling Ran (turn_given slip settled))) ++ log) d u
  turn_run b c d s mid t u done at (Some e) (Err f) log picked was run =
      step {c = b} {t = mid} (Some e, picked, refl, refl) (step {c = c} {t = t} (Err f, was, refl) run)
  turn_run b c d s mid t u done at (Some e) (Ok answer) log picked was run = clash was.0
  turn_run b c d s mid t u done at None (Err f) log picked was run = clash (sym was.0 ∙ ap (λ (m : State). settle_refusal m None) picked.3)
  turn_run b c d s mid t u done at None (Ok NoJob) log picked was run =
      step {c = b} {t = mid} (None, picked, refl, refl) (step {c = c} {t = t} (Ok NoJob, was, refl) run)
  turn_run b c d s mid t u done at None (Ok (HadBy i how)) log picked was run =
      step {c = b} {t = mid} (None, picked, refl, refl) (step {c = c} {t = t} (Ok (HadBy i how), was, refl) run)

  pub line_run : (b c d : S) (s t u : State) (call : Call) (at : ℕ) (answer : Answer) (log : List (Act × Heard)) → Performed k b s call at answer c t → Run k c t log d u → Run k b s (heard_line call answer ++ log) d u
  line_run b c d s t u (Release i) at answer log (r, (g, was, gave), e) run =
      step {c = c} {t = t} (g, was, ap heard_answer (e ∙ ap (told at) gave) ∙ heard_told (λ (x : Unit {0}). Took i) at g (λ x. refl)) run
  line_run b c d s t u (Turn done) at answer log (r, (g, (slip, mid, settled, picked, was, given), gave), e) run =
      subst (λ (a : Answer). Run k b s (heard_line (Turn done) a ++ log) d u) (sym (e ∙ ap (told at) (gave ∙ ap (telling Ran) given))) (turn_run b c d s mid t u done at slip settled log picked was run)
  line_run b c d s t u Calm at answer log (r, (g, was, same, gave), e) run =
      step {c = c} {t = t} (g, was, same, ap heard_answer (e ∙ ap (told at) gave) ∙ heard_told (λ (x : Unit {0}). CalmAt t.moment) at g (λ x. refl)) run

  abbrev Ran_as : S → State → List ℕ → List Answer → Type 0
  Ran_as b s text answers = (log : List (Act × Heard)) × (final : Answer) × (c : S) × (t : State) × Logged text answers log final × Run k b s log c t × ((counts : Counts) → final ≡ Total counts → counts ≡ counts_of t)

  script_run : {text : List ℕ} {at : ℕ} {b : S} {s : State} {answers : List Answer} → Played k text at b s answers → Ran_as b s text answers
  script_run (finished {line = at} {b} {s}) = ([], Total (counts_of s), b, s, last, still, λ counts e. same_counts e)
  script_run (broken {b = b} {s = s} {fault = fault} some off) = ([], Refused fault, b, s, last, still, λ counts e. no_total e)
  script_run (called {line = at} {b = b} {c = c} {s = s} {t = t} {answer = answer} call valid whole was rest) =
      let (log, final, d, u, logged, run, ends) = script_run rest in
      (heard_line call answer ++ log, final, d, u, line call whole logged, line_run b c d s t u call at answer log was run, ends)

  pub accounted : {text : List ℕ} {at : ℕ} {b : S} {s : State} {answers : List Answer} → NoneLate k b s → Played k text at b s answers → Accounted k b s text answers
  accounted promise played =
      let (log, final, d, u, logged, run, ends) = script_run played in
      let lawful = promise log d u run in
      record { log = log; final = final; bank = d; worker = u; logged = logged; run = run; booked = λ counts e. simp (ends counts e) (booked lawful.counted); lawful = lawful }
