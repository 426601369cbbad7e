-- The demand of a whole bank at a length of time, in normal mode and in an overrun.

use Rattle.std.specs.Prelude.{ℕ, zero, suc, ◌+◌, ◌≤◌, Some, None, Option}
use Rattle.stream.specs.declared.Phase.{Phase}
use Rattle.stream.specs.declared.Phase.TheVariants.{Normal, Overrun}
use Rattle.stream.specs.declared.limits.Record.{Record}
use Rattle.bank.specs.Kinds.{Kind}
use Rattle.demand.specs.Shares.{share_of}

-- f 1 + f 2 + .. + f n
unfoldable pub total : ℕ → (ℕ → ℕ) → ℕ
total zero f = 0
total (suc n) f = total n f + f (n + 1)

abbrev pub share : Option Record → Phase → (ℕ → ℕ) → ℕ → ℕ
share None p N t = 0
share (Some r) p N t = share_of p r.row N t

-- what stream i of a bank asks for
abbrev pub asks : {S : Type 0} → Kind S → S → Phase → ℕ → ℕ → ℕ
asks k b p t i = share (k.records b i) p (k.ceiling b i) t

-- the sum over all streams
abbrev pub demand : {S : Type 0} → Kind S → S → Phase → ℕ → ℕ
demand k b p t = total (k.streams b) (asks k b p t)

-- neither demand exceeds the length
abbrev pub Fits : {S : Type 0} → Kind S → S → ℕ → Type 0
Fits k b t = (demand k b Normal t ≤ t) × (demand k b Overrun t ≤ t)

-- the bank can be served: at no length at all does a demand exceed it
abbrev pub Feasible : {S : Type 0} → Kind S → S → Type 0
Feasible k b = (t : ℕ) → Fits k b t
