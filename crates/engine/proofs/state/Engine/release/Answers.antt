use Rattle.std.proofs.Common.{◌≡◌, ℕ, false, ◌+◌, ◌<◌, ◌≤◌, ◌&&◌, List, is_some, is_ok, Some, None, Option, sym, ap, ◌∙◌, ⊎_elim, arith, rules}
use borrow.Author.Tests.{clash}
use Rattle.std.proofs.lemmas.List.Sums.{count_by-le-length}
use Rattle.std.proofs.lemmas.Bool.{cases_lt}
use Rattle.stream.specs.declared.Row.{Row}
use Rattle.turns.proofs.Lasting.{none_is}
use Rattle.turns.specs.Jobs.{background, job_of, put, released}
use Rattle.turns.specs.Steps.{in_overrun, is_shut, with_job}
use Rattle.turns.specs.declared.Job.{Job}
use Rattle.turns.specs.declared.State.{State}
use Rattle.engine.proofs.Granting.{release_granted}
use Rattle.engine.proofs.Soundness.{fields, sound_released}
use Rattle.engine.proofs.state.Engine.release.Goals as goal

-- one job more is accepted, with these jobs then
abbrev accepted_with : State → List (Option Job) → State
accepted_with s jobs = record s { jobs = jobs; tally = record s.tally { accepted = s.tally.accepted + 1 } }

same_job : (s : State) (i : ℕ) (w row : Row) (since : ℕ) (jobs : List (Option Job)) → w ≡ row → since ≡ s.moment → jobs ≡ put s.jobs i (Some (released w since)) → accepted_with s jobs ≡ with_job s i (released row s.moment)
same_job s i w row since jobs e f is = ap (accepted_with s) is ∙ ap (λ (x : Row). with_job s i (released x since)) e ∙ ap (λ (n : ℕ). with_job s i (released row n)) f

pub overflow_add-self : goal.overflow_add-self
overflow_add-self g c =
    let e = c.args.self.now in
    let t = e.sound.tallied in
    let not_shut : is_shut e.state.verdict ≡ false = search rules in
    let d = e.sound.early.0 not_shut in
    let w = count_by-le-length is_some e.state.jobs in
    let r = c.of.ensures.room in
    omega arith

pub invariant_of-self-2 : goal.invariant_of-self-2
invariant_of-self-2 g c =
    let e = c.args.self.now in
    let s = e.state in
    let r = c.in_ok-record.record in
    let found : g.B.Bank.kind.records e.bank c.args.stream ≡ Some r = search rules in
    let range = g.met.B.Bank.lawful.numbered e.bank c.args.stream r found in
    let place = c.if-stream.false in
    let no_turn : is_some s.turn ≡ false = search rules in
    let out : s.turn ≡ None = none_is s.turn no_turn in
    let free : job_of s.jobs c.args.stream ≡ None = none_is (job_of s.jobs c.args.stream) (ap is_some (sym c.of.ensures.job) ∙ sym c.is_some.ensures ∙ c.if-is_some.false) in
    let kept = fields (with_job s c.args.stream (released r.row s.moment)) (accepted_with s c.put.new.self) (same_job s c.args.stream c.row-row.result r.row c.moment.result c.put.new.self c.row-row.ensures c.moment.ensures c.put.ensures) (sound_released s e.sound c.of.ensures.room c.args.stream r range.0 place out free) in
    record { sound = kept }

pub returns : goal.returns
returns g c =
    let e = c.args.self.now in
    let s = e.state in
    let k = g.B.Bank.kind in
    let i = c.args.stream in
    let r = c.in_ok-record.record in
    let found : k.records e.bank i ≡ Some r = search rules in
    let accepted = c.in_ok-accept.was in
    let not_shut : is_shut s.verdict ≡ false = search rules in
    let no_turn : is_some s.turn ≡ false = search rules in
    let opens : 0 < k.opening e.bank i 0 =
    ⊎_elim
    (λ (l : 0 < k.opening e.bank i 0). l)
    (λ (l : k.opening e.bank i 0 ≤ 0). let refused = (c.accept.ensures.shut r found (omega arith)).0 in absurd (clash (ap is_ok (sym refused.1 ∙ accepted))))
    (cases_lt 0 (k.opening e.bank i 0)) in
    (r, found, release_granted s i r (k.opening e.bank i 0) not_shut c.if-stream.false no_turn (ap (λ (w : Row). background w.class && in_overrun s.mode) (sym c.row-row.ensures) ∙ sym c.shuns.ensures ∙ c.if-shuns.false) (ap is_some (sym c.of.ensures.job) ∙ sym c.is_some.ensures ∙ c.if-is_some.false) opens, (c.accept.ensures.taken r found opens).1, same_job s i c.row-row.result r.row c.moment.result c.put.new.self c.row-row.ensures c.moment.ensures c.put.ensures)
