-- What growing answers: a stream is added last and is open at once, unless there are 32 already, or its phase on a raster is not below its gap; then nothing changes.

use Rattle.std.specs.Prelude.{◌≡◌, ℕ, ◌<◌, ◌≤◌, [], ◌∷◌, ◌++◌, length, Ok, Result}
use Rattle.stream.specs.Refusals.{RefusedBy}
use Rattle.stream.specs.declared.Refusal.{Refusal}
use Rattle.stream.specs.declared.limits.Record.{Record}
use Rattle.table.specs.Rasters.{Raster, raster_states, phases_in}
use Rattle.table.specs.Sporadics.{Sporadic, states_in}
use Rattle.table.specs.Tables.{fresh}

pub record Grown (b : Sporadic) (stream : Record) (answer : Result (Unit {0}) Refusal) (c : Sporadic) : Type 0 where
  pub full : 32 ≤ length (states_in b) → RefusedBy 2 answer × (c ≡ b)
  pub added : length (states_in b) < 32 → (answer ≡ Ok tt) × (states_in c ≡ states_in b ++ fresh stream ∷ [])

pub record GrownOn (b : Raster) (stream : Record) (phase : ℕ) (answer : Result (Unit {0}) Refusal) (c : Raster) : Type 0 where
  pub full : 32 ≤ length (raster_states b) → RefusedBy 2 answer × (c ≡ b)
  pub outside : length (raster_states b) < 32 → stream.row.gap ≤ phase → RefusedBy 8 answer × (c ≡ b)
  pub added : length (raster_states b) < 32 → phase < stream.row.gap → (answer ≡ Ok tt) × (raster_states c ≡ raster_states b ++ fresh stream ∷ []) × (phases_in c ≡ phases_in b ++ phase ∷ [])
