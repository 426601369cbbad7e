use Rattle.script.proofs.Fitting.{answers_fill}
use Rattle.script.proofs.buffer.replay.Goals as goal

pub returns : goal.returns
returns c = answers_fill c.args.text.now c.args.buffer.now c.answer_to.new.buffer c.answer_to.result c.in_ok-room_for.ensures.0 (rw c.in_ok-room_for.ensures.1 at c.if-branch.false) c.answer_to.ensures
