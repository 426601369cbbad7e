use Rattle.std.proofs.Common.{◌≡◌, Err, sym, refl, ap, ◌∙◌, subst, arith}
use Rattle.stream.specs.declared.Refusal.TheVariants.{MomentTooLate}
use Rattle.demand.specs.Verdicts.{Decided}
use Rattle.turns.specs.Steps.{Started, fresh}
use Rattle.turns.specs.declared.State.{State}
use Rattle.turns.proofs.Lasting.{none_late}
use Rattle.turns.proofs.begin.Goals as goal

pub returns-then-moment-gt-LAST_MOMENT : goal.returns-then-moment-gt-LAST_MOMENT
returns-then-moment-gt-LAST_MOMENT g c =
    let k = g.B.Bank.kind in
    let late = c.if-moment-gt-LAST_MOMENT.true in
    let verdict : c.new.result.verdict ≡ Err MomentTooLate = ap (λ (s : State). s.verdict) c.new.ensures in
    let started : Started k c.args.bank.now c.args.moment c.args.bank.now c.new.result = record {
      late = λ _. (refl, (MomentTooLate, verdict, refl), c.new.ensures ∙ ap (fresh c.args.moment) (sym verdict));
      begun = λ l. let z : ⊥ = omega arith in absurd z;
    } in
    record { started = started; promise = none_late k g.met.B.Bank.lawful c.args.bank.now c.args.moment c.args.bank.now c.new.result started }

pub returns : goal.returns
returns g c =
    let k = g.B.Bank.kind in
    let early = c.if-moment-gt-LAST_MOMENT.false in
    let is = c.new-2.ensures in
    let verdict : c.new-2.result.verdict ≡ c.admit-verdict.result = ap (λ (s : State). s.verdict) is in
    let started : Started k c.args.bank.now c.args.moment c.begin.new.self c.new-2.result = record {
      late = λ l. let z : ⊥ = omega arith in absurd z;
      begun = λ _. (c.begin.ensures, subst (Decided k c.begin.new.self) (sym verdict) c.admit-verdict.ensures.decided, is ∙ ap (fresh c.args.moment) (sym verdict));
    } in
    record { started = started; promise = none_late k g.met.B.Bank.lawful c.args.bank.now c.args.moment c.begin.new.self c.new-2.result started }
