-- The words that the worked plans are told in.

use Rattle.std.specs.Prelude.{◌≡◌, ℕ, List, [], ◌∷◌, map, replicate, ℤ, Some, Result}
use Rattle.stream.specs.declared.Class.TheVariants.{Critical, Background}
use Rattle.stream.specs.declared.Phase.{Phase}
use Rattle.stream.specs.Refusals.{number}
use Rattle.stream.specs.declared.Refusal.{Refusal}
use Rattle.stream.specs.declared.Refusal.TheVariants.{DemandExceeded}
use Rattle.stream.specs.declared.Row.{Row}
use Rattle.stream.specs.declared.Verdict.{Verdict}
use Rattle.bank.specs.Kinds.{Kind}
use Rattle.bank.specs.Runs.{Run, ticks}
use Rattle.demand.specs.Demands.{demand}
use Rattle.demand.specs.Verdicts.{Decided, Refuses}
use Rattle.demand.specs.Published.{spaced}
use Rattle.join.specs.Joins.{joined}
use Rattle.join.specs.declared.Joined.{Joined}
use Rattle.stream.specs.declared.limits.Record.{Record}
use Rattle.table.specs.Rasters.{raster, Raster}
use Rattle.table.specs.Sporadics.{sporadic, Sporadic}
use Rattle.table.specs.Tables.{RecordState as State}
use Rattle.turns.specs.Jobs.{released}
use Rattle.turns.specs.Steps.{fresh, with_job}
use Rattle.turns.specs.declared.State.{State as Worker}

-- a critical stream with c = 2, D = 6 and T = 6
abbrev pub critical : ℕ → ℕ → Row
critical C V = record { class = Critical; budget = 2; certain = C; short = V; deadline = 6; gap = 6 }

-- a background stream with so long a gap and deadline
abbrev pub background : ℕ → ℕ → Row
background c T = record { class = Background; budget = c; certain = 0; short = T; deadline = T; gap = T }

abbrev pub rows : List State → List Row
rows states = map (λ s. s.stream.row) states

-- stream i has this row
abbrev pub Has : {S : Type 0} → Kind S → S → ℕ → Row → Type 0
Has k b i x = (r : Record) × (k.records b i ≡ Some r) × (r.row ≡ x)

-- Any bank of two streams with these rows, of whatever kind, that tells the ceilings of a table.
pub record Pair {S : Type 0} (k : Kind S) (x y : Row) (b : S) : Type 0 where
  pub two : k.streams b ≡ 2
  pub first : Has k b 1 x
  pub second : Has k b 2 y
  pub ceilings : (i : ℕ) (r : Record) (m : ℕ) → k.records b i ≡ Some r → k.ceiling b i m ≡ spaced r.row m

-- the bank that the lines of a plan make
abbrev pub tables : Kind (Joined Sporadic Raster)
tables = joined sporadic raster

-- there is such a bank among those that a plan makes, and this is the answer on it
abbrev pub JudgedPair : Row → Row → Result Verdict Refusal → Type 0
JudgedPair x y answer = (b : Joined Sporadic Raster) × Pair tables x y b × Decided tables b answer

-- the demands at lengths 0 to 6
abbrev pub demands : {S : Type 0} → Kind S → S → Phase → List ℕ
demands k b p = map (demand k b p) (0 ∷ 1 ∷ 2 ∷ 3 ∷ 4 ∷ 5 ∷ 6 ∷ [])

-- horizon, lengths looked at, and the point: phase, length, margin
abbrev pub verdict : ℕ → ℕ → Phase → ℕ → ℤ → Verdict
verdict h n p t margin = record { horizon = h; lengths = n; point = record { phase = p; length = t; margin = margin } }

-- refused by 11, with this verdict
abbrev pub Over : {S : Type 0} → Kind S → S → Verdict → Type 0
Over k b v = Refuses k b (DemandExceeded v) × (number (DemandExceeded v) ≡ 11)

-- so many ticks on
abbrev pub Later : {S : Type 0} → Kind S → ℕ → S → S → Type 0
Later k n b c = Run k b (replicate n ticks) c

-- a worker begun at a moment, with a job of both streams released there
abbrev pub both_released : Row → Row → ℕ → Result Verdict Refusal → Worker
both_released x y moment v = with_job (with_job (fresh moment v) 1 (released x moment)) 2 (released y moment)
