-- The load of a bank, in thousandths of the worker: of each stream its budget in each release, rounded down stream by stream.

use Rattle.std.specs.Prelude.{ℕ, ◌*◌, ◌/◌, Some, None, Option}
use Rattle.stream.specs.declared.limits.Record.{Record}
use Rattle.bank.specs.Kinds.{Kind}
use Rattle.demand.specs.Demands.{total}

abbrev pub load_share : Option Record → ℕ → ℕ
load_share None k = 0
load_share (Some r) k = 1000 * k * r.row.budget / r.row.gap

abbrev pub load_of : {S : Type 0} → Kind S → S → ℕ → ℕ
load_of k b i = load_share (k.records b i) (k.count b i)

abbrev pub total_load : {S : Type 0} → Kind S → S → ℕ
total_load k b = total (k.streams b) (load_of k b)
