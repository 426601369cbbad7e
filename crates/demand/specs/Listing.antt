-- The row of a stream of a bank.

use Rattle.std.specs.Prelude.{◌≡◌, ℕ, Some, None, Option}
use Rattle.stream.specs.declared.Row.{Row}
use Rattle.stream.specs.declared.limits.Record.{Record}
use Rattle.bank.specs.Kinds.{Kind}
use Rattle.demand.specs.declared.entry.Entry.{Entry}

abbrev pub row_of : Option Record → Option Row
row_of None = None
row_of (Some r) = Some r.row

-- stream i of the bank has this row
abbrev pub Listed : {S : Type 0} → Kind S → S → ℕ → Row → Type 0
Listed k b i row = row_of (k.records b i) ≡ Some row

-- what is entered of a stream is what the bank says
pub record Entered {S : Type 0} (k : Kind S) (b : S) (entry : Entry) : Type 0 where
  pub listed : Listed k b entry.number entry.row
  pub counted : entry.count ≡ k.count b entry.number
