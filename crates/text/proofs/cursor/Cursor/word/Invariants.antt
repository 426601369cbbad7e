use Rattle.std.proofs.Common.{◌≡◌, ◌++◌, take}
use Rattle.text.specs.Reading.{ahead}
use Rattle.text.proofs.cursor.Cursor.word.Given as goal

abbrev pub invariant-loop-due : goal.invariant-loop-due
invariant-loop-due l = (ahead l.initial.self ≡ take l.due-index l.word ++ ahead l.self) × (l.self.reader ≡ l.initial.self.reader)
