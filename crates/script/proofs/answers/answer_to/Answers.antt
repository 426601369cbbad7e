use Rattle.text.specs.Reader.{bytes_left, line_number}
use Rattle.script.proofs.Scripts.{play_refused, play_accepted}
use Rattle.script.proofs.answers.answer_to.Goals as goal

pub returns-in-Err : goal.returns-in-Err
returns-in-Err c =
    play_refused c.args.text.now c.in-Err.fault c.args.buffer.now c.tell.new.buffer c.tell.result (simp (c.new-reader.ensures.text, c.new-reader.ensures.line, c.new.ensures) at c.in-Err.ensures) c.tell.ensures.appended

pub returns-in-Ok : goal.returns-in-Ok
returns-in-Ok c =
    let o = c.in-Ok.opening in
    play_accepted c.args.text.now o.verdict o.engine.bank o.engine.state (bytes_left c.open_plan.new.reader) (line_number c.open_plan.new.reader) c.args.buffer.now c.tell-written.new.buffer c.run_script.new.buffer c.tell-written.result c.run_script.result
    (simp (c.new-reader.ensures.text, c.new-reader.ensures.line, c.new.ensures) at c.in-Ok.ensures) c.tell-written.ensures.appended c.run_script.ensures
