use Rattle.replay.proofs.Cutting.{answered}
use Rattle.replay.proofs.answers_to.Goals as goal

pub returns : goal.returns
returns g c =
    answered g.R.Read.remaining c.args.input c.take.result.inner c.take.result.limit c.new-text.result.items c.read_to_end.new.buf.items c.deref.result.now c.in_ok-replayed.field-0.items
    c.take.ensures.limit c.take.ensures.inner c.new-text.ensures.items c.deref.ensures.value c.in_ok-read_to_end.ensures.bytes c.in_ok-replayed.ensures
