-- The answers to a text have room in a buffer that has 80 bytes for each of its newlines and for two lines more.

use Rattle.std.proofs.Common.{◌∙◌, ◌≡◌, ℕ, ◌+◌, ◌*◌, ◌≤◌, ◌<◌, List, [], ◌∷◌, ◌++◌, length, drop, codes, None, Option, Ok, refl, sym, ap, subst, ⊎_elim, lit≤, arith, length-append, true, false}
use Rattle.std.proofs.lemmas.Bool.{cases_lt}
use Rattle.std.proofs.lemmas.List.{length-replicate}
use Rattle.std.specs.List.{AllByRecursion}
use Rattle.stream.specs.declared.Fault.{Fault}
use Rattle.stream.specs.declared.Refusal.TheVariants.{DemandExceeded}
use Rattle.stream.specs.declared.Verdict.{Verdict}
use Rattle.bank.specs.Kinds.{Kind}
use Rattle.demand.specs.Verdicts.{Says}
use Rattle.turns.specs.Jobs.{waiting}
use Rattle.turns.specs.Runs.{Call as Act, Heard, Run, still}
use Rattle.turns.specs.Steps.{last_moment}
use Rattle.turns.specs.declared.Job.{Job}
use Rattle.turns.specs.declared.State.{State}
use Rattle.text.proofs.Sizes.{line_fits}
use Rattle.text.specs.Calls.{order_bytes, call_bytes}
use Rattle.text.specs.Shown.{answer_line}
use Rattle.text.proofs.Ordinary.{OrdinaryPoint, OrdinaryVerdict, OrdinaryFault, Ordinary}
use Rattle.text.specs.declared.answer.Answer.{Answer}
use Rattle.text.specs.declared.call.Call.{Call}
use Rattle.text.specs.declared.call.Call.TheVariants.{Release, Turn, Calm}
use Rattle.plan.proofs.Lawful.{plan_lawful}
use Rattle.plan.specs.Openings.{Opened, Unopened, unread, endless, shut}
use Rattle.plan.specs.Plans.{PlanBank, no_rows, plan_kind}
use Rattle.plan.specs.Written.{line_of, lines_of}
use Rattle.script.proofs.Accounting.{line_run}
use Rattle.script.proofs.Sizes.{accepted_small, refused_small}
use Rattle.script.proofs.Spans.{numbered_pointless, Near, newlines_append, numbered_newline, rest_shorter, misshapen_near, plan_spans}
use Rattle.script.proofs.Telling.{Between, call_tells}
use Rattle.script.specs.Buffers.{Filled, newlines, room_for}
use Rattle.script.specs.Playing.{Played, finished, broken, called}
use Rattle.script.specs.Replays.{Answered, refused, accepted, WroteAll}

-- answers of ordinary size, no more than so many
record Modest (most : ℕ) (answers : List Answer) : Type 0 where
  ordinary : AllByRecursion Ordinary answers
  count : length answers ≤ most

-- their lines fit
lines_fit : (answers : List Answer) → AllByRecursion Ordinary answers → length (lines_of answers) ≤ 80 * length answers
lines_fit [] all = omega arith
lines_fit (answer ∷ answers) all =
    let here = line_fits answer all.0 in
    let rest = lines_fit answers all.1 in
    omega (arith, length-append (line_of answer) (lines_of answers), length-append (answer_line answer) (10 ∷ []))

-- a call has a newline
call_newline : (call : Call) → 1 ≤ newlines (call_bytes call)
call_newline (Release stream) = let own = numbered_newline (codes "release ") stream in omega (arith, newlines_append (codes "(") (order_bytes (Release stream)))
call_newline (Turn true) = lit≤ tt
call_newline (Turn false) = lit≤ tt
call_newline Calm = lit≤ tt

-- a fault that shows no point
near_ordinary : (fault : Fault) → Near 65537 65537 fault → OrdinaryFault fault
near_ordinary fault near = (near.line, near.byte, λ v is. absurd (near.pointless v is))

module _ {S : Type 0} (k : Kind S) where
  -- in whatever run from here on, no job is lost
  abbrev NoneLost : S → State → Type 0
  NoneLost b s = (log : List (Act × Heard)) (c : S) (t : State) → Run k b s log c t → t.tally.accepted ≡ t.tally.finished + t.tally.cut + t.tally.dropped + waiting t.jobs

  played_modest : {text : List ℕ} {line : ℕ} {b : S} {s : State} {answers : List Answer} → NoneLost b s → Between s → line + length text ≤ 65537 → s.tally.accepted + length text ≤ 65536 → Played k text line b s answers → Modest (newlines text + 1) answers
  played_modest none_lost between near few (finished {b = b} {s = s}) =
      let all = none_lost [] b s still in
      record { ordinary = ((omega arith, omega arith, omega arith, omega arith, omega arith), tt); count = omega arith }
  played_modest none_lost between near few (broken {text = text} {line = line} {fault = fault} some off) =
      let at = misshapen_near off in
      record { ordinary = (near_ordinary fault (record { line = omega (arith, at.line); byte = omega (arith, at.byte); pointless = at.pointless }), tt); count = omega arith }
  played_modest none_lost between near few (called {text = text} {rest = rest} {line = line} {b = b} {c = c} {s = s} {t = t} {answer = answer} {answers = answers} call valid whole was later) =
      let shorter : length rest + 1 ≤ length text = rest_shorter text (order_bytes call) rest whole in
      let tells = call_tells k b c s t call line answer between valid (omega arith) was in
      let after : NoneLost c t = λ log d u run. none_lost _ d u (line_run k b c d s t u call line answer log was run) in
      let others = played_modest after tells.between (omega arith) (omega (arith, tells.few)) later in
      record {
        ordinary = (tells.ordinary, others.ordinary);
        count = omega (arith, others.count, call_newline call, ap newlines whole, newlines_append (call_bytes call) rest);
      }

-- a plan that is refused is told by one fault
unopened_ordinary : (text : List ℕ) (fault : Fault) {rest : List ℕ} {end : ℕ} → length text ≤ 65536 → Unopened text 1 no_rows fault rest end → OrdinaryFault fault
unopened_ordinary text fault few (unread planned) =
    let near = (plan_spans planned).told in
    near_ordinary fault (record { line = omega (arith, near.line); byte = omega (arith, near.byte); pointless = near.pointless })
unopened_ordinary text fault few (endless planned) =
    let lines = (plan_spans planned).lines in
    (omega arith, lit≤ tt, λ v is. cc)
unopened_ordinary text fault few (shut {start = start} bank b s e planned started is) =
    let near = (plan_spans planned).told in
    (omega (arith, near.0), lit≤ tt, λ v told. by_moment v told)
  where
    by_moment : (v : Verdict) → e ≡ DemandExceeded v → OrdinaryPoint v.point
    by_moment v told =
        ⊎_elim
        (λ (late : last_moment < start.moment). let (same, (f, was, numbered), fresh) = started.late late in let one : e ≡ f = cc in absurd (numbered_pointless v numbered (λ z. omega arith) (sym one ∙ told)))
        (λ (early : start.moment ≤ last_moment). let decided = (started.begun early).1 in refused_small plan_kind plan_lawful b e (subst (Says plan_kind b) is decided.says) v told)
        (cases_lt last_moment start.moment)

-- a worker that opened is between two calls, and has accepted nothing
opened_between : {text : List ℕ} {verdict : Verdict} {b : PlanBank} {s : State} {rest : List ℕ} {end : ℕ} → Opened text 1 no_rows verdict b s rest end → Between s × (s.tally.accepted ≡ 0) × OrdinaryVerdict verdict
opened_between {verdict = verdict} {b = b} {s = s} opened =
    ⊎_elim
    (λ (late : last_moment < opened.start.moment). let (same, (e, was, numbered), fresh) = opened.begun.late late in let judged = opened.judged in let no : ⊥ = cc in absurd no)
    (λ (early : opened.start.moment ≤ last_moment).
    let (begins, decided, is) = opened.begun.begun early in
    let says = subst (Says plan_kind b) opened.judged decided.says in
    (subst Between (sym is) (record { early = early; room = length-replicate {A = Option Job} 32 None }), ap (λ (x : State). x.tally.accepted) is, accepted_small plan_kind plan_lawful b verdict says.looked))
    (cases_lt last_moment opened.start.moment)

answered_modest : (text : List ℕ) (answers : List Answer) → length text ≤ 65536 → Answered text answers → Modest (newlines text + 1) answers
answered_modest text answers few (refused {fault = fault} off) = record { ordinary = (unopened_ordinary text fault few off, tt); count = omega arith }
answered_modest text answers few (accepted {b = b} {s = s} {rest = rest} opened played account) =
    let (between, none, verdict) = opened_between opened in
    let spans = plan_spans opened.plan in
    let told = spans.told in
    let others = played_modest plan_kind (λ log c t run. (opened.promise log c t run).counted.none_lost) between (omega (arith, spans.lines)) (omega (arith, spans.less)) played in
    record { ordinary = (verdict, others.ordinary); count = omega (arith, others.count, told.1) }

-- so the answers have room, and stand at the front of the buffer
pub answers_fill : (text before after : List ℕ) (m : ℕ) → length text ≤ 65536 → room_for text ≤ length before → WroteAll text before after m → Filled text before (Ok m) after
answers_fill text before after m few room (answers, answered, wrote) =
    let modest = answered_modest text answers few answered in
    let fits : length (lines_of answers) ≤ room_for text = omega (arith, lines_fit answers modest.ordinary, modest.count) in
    let (e, f) = wrote [] before refl refl (omega arith) in
    let is : m ≡ length (lines_of answers) = omega (arith, e) in
    let whole : after ≡ lines_of answers ++ drop (length (lines_of answers)) before = f in
    (few, room, (lines_of answers, (answers, answered, refl), is, omega arith, whole ∙ ap (λ (n : ℕ). lines_of answers ++ drop n before) (sym is)))
