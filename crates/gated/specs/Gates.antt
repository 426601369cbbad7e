-- A bank behind a gate: while the gate is shut no release is accepted, but it may open by the next tick. Nothing is said of when it shuts or opens.

use Rattle.std.specs.Prelude.{◌≡◌, ℕ, cond, ◌==◌}
use Rattle.bank.specs.Kinds.{Kind}
use Rattle.bank.specs.Loosest.{loosest}
use Rattle.gated.specs.declared.Gate.{Gate}
use Rattle.gated.specs.declared.Gate.TheVariants.{Open, Shut}
use Rattle.gated.specs.declared.Gated.{Gated}

abbrev pub IsOpen : Gate → Type 0
IsOpen gate = (passed : ℕ) × (gate ≡ Open passed)

-- what a gate leaves of an opening
abbrev pub behind : Gate → (ℕ → ℕ) → ℕ → ℕ
behind (Open passed) opening m = opening m
behind Shut opening m = cond (m == 0) 0 (opening m)

abbrev pub behind_gate : {B : Type 0} → Kind B → Kind (Gated B)
behind_gate k = record {
  -- G
  letter = 71;
  streams = λ b. k.streams b.inner;
  records = λ b i. k.records b.inner i;
  count = λ b i. k.count b.inner i;
  ceiling = λ b i m. k.ceiling b.inner i m;
  opening = λ b i m. behind b.gate (k.opening b.inner i) m;
  begun = λ b. k.begun b.inner;
  begins = λ b moment c. k.begins b.inner moment c.inner;
  ticks = λ b c. k.ticks b.inner c.inner;
  -- only through an open gate
  accepts = λ b i c. IsOpen b.gate × k.accepts b.inner i c.inner;
}

-- of an act a caller learns what holds of every bank, and no more
abbrev pub gated : {B : Type 0} → Kind B → Kind (Gated B)
gated k = loosest (behind_gate k)
