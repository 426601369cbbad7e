use Rattle.text.specs.Lines.{render, Valid}
use Rattle.text.proofs.Answering.{complete}
use Rattle.text.proofs.Unique.{same_line}
use Rattle.text.proofs.cursor.lines.LineFromLine.from_line.Goals as goal

pub returns-clause-complete : goal.returns-clause-complete
returns-clause-complete c = complete render Valid same_line c.args.cursor.now c.line.new.self c.line.result c.line.ensures
