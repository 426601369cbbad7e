use Rattle.std.proofs.Common.{◌<◌, arith}
use Rattle.turns.specs.Steps.{last_moment}
use Rattle.engine.proofs.Soundness.{sound_turn}
use Rattle.engine.proofs.state.Engine.hand_out.Goals as goal

pub invariant_of-self : goal.invariant_of-self
invariant_of-self g c =
    let e = c.args.self.now in
    let before : e.state.moment < last_moment = omega (arith, c.moment.ensures) in
    record { sound = sound_turn e.state e.sound c.next_turn-turn.result before c.next_turn-turn.ensures.placed }
