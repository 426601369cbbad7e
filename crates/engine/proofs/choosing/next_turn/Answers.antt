use Rattle.std.proofs.Common.{◌≡◌, ◌+◌, ◌-◌, ◌≤◌, length, get_or, Some, None, sym, ap, ◌∙◌, subst, arith, rules}
use Rattle.turns.proofs.Lasting.{job_place}
use Rattle.turns.specs.Jobs.{job_of}
use Rattle.turns.specs.Steps.{Next}
use Rattle.turns.specs.declared.Turn.TheVariants.{Of}
use Rattle.engine.proofs.Keying.{collected_all, next_by}
use Rattle.engine.proofs.choosing.next_turn.Goals as goal

there : (c : goal.After-key_of-arg-in-Some-1) → job_of c.args.state.now.jobs (c.loop-at.at + 1) ≡ Some c.in-Some.job
there c =
    let back : c.loop-at.at + 1 - 1 ≡ c.loop-at.at = omega arith in
    ap (λ n. get_or c.args.state.now.jobs n None) back ∙ ap (λ jobs. get_or jobs c.loop-at.at None) (sym c.places-place-items.ensures.all) ∙ c.in-Some.is

pub key_of-requires-clause-since : goal.key_of-requires-clause-since
key_of-requires-clause-since c = let w = c.requires.sound.worked (c.loop-at.at + 1) c.in-Some.job (there c) in omega arith

pub key_of-requires-clause-short : goal.key_of-requires-clause-short
key_of-requires-clause-short c = (c.requires.sound.near (c.loop-at.at + 1) c.in-Some.job (there c)).0

pub key_of-requires-clause-deadline : goal.key_of-requires-clause-deadline
key_of-requires-clause-deadline c = (c.requires.sound.near (c.loop-at.at + 1) c.in-Some.job (there c)).1

next : (c : goal.After-map_or) → Next c.args.state.now c.map_or.result
next c =
    let s = c.args.state.now in
    let past : length s.jobs ≤ c.loop-at.at = omega (arith, c.places-place-items.ensures.room) in
    let all = collected_all s.mode s.jobs c.loop-at.at c.loop-at.keys.items past c.loop-at.invariant.1 in
    next_by s c.as_slice.result.now c.least.result c.map_or.result _ (c.as_slice.ensures.value ∙ all) c.least.ensures c.map_or.ensures (λ item q. search rules)

pub returns-clause-next : goal.returns-clause-next
returns-clause-next c = next c

pub returns-clause-placed : goal.returns-clause-placed
returns-clause-placed c i e =
    let s = c.args.state.now in
    let is : c.map_or.result ≡ Of i = cc in
    let of = subst (Next s) is (next c) in
    (of.0, job_place s.jobs i of.1 c.places-place-items.ensures.room of.2)
