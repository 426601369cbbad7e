-- Whether a stream more has a place, where there are so many.

use Rattle.std.specs.Prelude.{◌≡◌, ℕ, ◌<◌, ◌≤◌, MatchResult, Result}
use Rattle.stream.specs.declared.Refusal.{Refusal}
use Rattle.stream.specs.Refusals.{number}

abbrev pub RoomTold : ℕ → Result (Unit {0}) Refusal → Type 0
RoomTold streams answer = MatchResult answer (λ _. streams < 32) (λ refusal. (number refusal ≡ 2) × (32 ≤ streams))
