use Rattle.std.proofs.Common.{length, sym, eqb-true}
use borrow.Author.Tests.{eqb-false}
use Rattle.text.specs.Reader.{bytes_left}
use Rattle.script.proofs.Scripts.{script_finished, script_broken, script_called}
use Rattle.script.proofs.script.run_script.Goals as goal

pub loop-reader-preserved : goal.loop-reader-preserved
loop-reader-preserved g c after m rest =
    let l = c.loop-reader in
    l.invariant after m
    (script_called g.B.Bank.kind l.reader c.next.new.self l.engine.bank l.engine.state l.buffer l.written
    c.in-Ok.call c.line_number-line.result c.perform.result c.perform.new.engine.bank c.perform.new.engine.state c.tell-written.new.buffer after c.tell-written.result m
    c.in-Ok.ensures.answer c.line_number-line.ensures c.perform.ensures c.tell-written.ensures.appended rest)

pub returns-in-Err : goal.returns-in-Err
returns-in-Err g c =
    let l = c.loop-reader in
    l.invariant c.tell.new.buffer c.tell.result
    (script_broken g.B.Bank.kind l.reader c.next.new.self l.engine.bank l.engine.state l.buffer l.written
    c.in-Err.fault c.tell.new.buffer c.tell.result (eqb-false (length (bytes_left l.reader)) 0 (sym c.loop-reader-test.ensures)) c.in-Err.ensures.answer c.tell.ensures.appended)

pub returns : goal.returns
returns g c =
    let l = c.loop-reader in
    l.invariant c.tell-2.new.buffer c.tell-2.result
    (script_finished g.B.Bank.kind l.reader l.reader l.engine.bank l.engine.state l.buffer l.written
    c.report.result.counts c.tell-2.new.buffer c.tell-2.result (eqb-true (length (bytes_left l.reader)) 0 (sym c.loop-reader-test.ensures)) c.report.ensures.counts c.tell-2.ensures.appended)
