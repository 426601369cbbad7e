-- What accept answers: a stream that does not exist and a stream whose opening at 0 is 0 are refused and nothing changes; any other is accepted.

use Rattle.std.specs.Prelude.{◌≡◌, ℕ, ◌<◌, Some, None, Ok, Result}
use Rattle.stream.specs.Refusals.{RefusedBy}
use Rattle.stream.specs.declared.Refusal.{Refusal}
use Rattle.stream.specs.declared.limits.Record.{Record}
use Rattle.bank.specs.Kinds.{Kind}

pub record Accepted {S : Type 0} (k : Kind S) (b : S) (i : ℕ) (answer : Result (Unit {0}) Refusal) (c : S) : Type 0 where
  pub absent : k.records b i ≡ None → RefusedBy 14 answer × (c ≡ b)
  pub shut : (r : Record) → k.records b i ≡ Some r → k.opening b i 0 ≡ 0 → RefusedBy 17 answer × (c ≡ b)
  pub taken : (r : Record) → k.records b i ≡ Some r → 0 < k.opening b i 0 → (answer ≡ Ok tt) × k.accepts b i c
