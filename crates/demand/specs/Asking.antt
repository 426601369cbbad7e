-- A stream that is asked for its ceiling.

use Rattle.std.specs.Prelude.{◌≡◌, ℕ, ◌+◌}
use Rattle.stream.specs.declared.Phase.{Phase}
use Rattle.bank.specs.declared.Bank.{Ghosts}
use Rattle.demand.specs.Shares.{share_of}
use Rattle.demand.specs.Watching.{Kept}
use Rattle.demand.specs.declared.asked.Asked.{Asked}
use Rattle.demand.specs.declared.watch.Watch.{Watch}

module _ {B : Type 0} {bank : Ghosts B} (stream : Asked B bank) where
  -- its ceiling in its bank
  abbrev pub curve : ℕ → ℕ
  curve = bank.kind.ceiling stream.bank.now stream.entry.now.number

  -- once it was asked in a phase, its share at the length is known, and what is remembered serves from the next length on
  pub record Renews (p : Phase) (w : Watch) : Type 0 where
    pub share : w.steady.share ≡ share_of p stream.entry.now.row curve stream.length
    pub kept : Kept p stream.entry.now.row curve (stream.length + 1) w
