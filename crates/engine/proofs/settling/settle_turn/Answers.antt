use Rattle.std.proofs.Common.{Some, ◌≡◌, ◌∙◌, ap, sym}
use Rattle.turns.specs.Jobs.{job_of}
use Rattle.turns.specs.declared.Turn.TheVariants.{Of}
use Rattle.engine.proofs.Soundness.{fields, sound_ended}
use Rattle.engine.proofs.settling.settle_turn.Goals as goal

pub returns-clause-sound : goal.returns-clause-sound
returns-clause-sound c =
    let s = c.args.state.now in
    let i = c.in-Of.stream in
    let out : s.turn ≡ Some (Of i) = c.requires.out ∙ ap Some c.in-Of.is in
    let is : job_of s.jobs i ≡ Some c.in-Some.job = sym c.of.ensures.job ∙ c.in-Some.is in
    fields _ c.end_turn.new.state c.end_turn.ensures (sound_ended s c.requires.sound c.of.ensures.room i out c.in-Some.job is c.ending-end.result)
