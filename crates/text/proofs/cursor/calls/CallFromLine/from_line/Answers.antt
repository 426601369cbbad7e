use Rattle.text.specs.Calls.{call_bytes, ValidCall}
use Rattle.text.proofs.Answering.{complete}
use Rattle.text.proofs.Calling.{same_call}
use Rattle.text.proofs.cursor.calls.CallFromLine.from_line.Goals as goal

pub returns-clause-complete : goal.returns-clause-complete
returns-clause-complete c = complete call_bytes ValidCall same_call c.args.cursor.now c.call.new.self c.call.result c.call.ensures
