-- The worked plans as one fact, at the definitions that admission and the banks are judged by. What is said of demands is said of the banks of any one kind; the acts are those of the two tables.

use Rattle.std.specs.Prelude.{◌≡◌, ℕ, ◌+◌, ◌<◌, true, false, ◌↔◌, [], ◌∷◌, pos, negsuc, Some, Ok, Result}
use Rattle.stream.specs.Refusals.{number, RefusedBy}
use Rattle.stream.specs.declared.Phase.TheVariants.{Normal, Overrun}
use Rattle.stream.specs.declared.Refusal.{Refusal}
use Rattle.stream.specs.declared.Refusal.TheVariants.{HorizonTooFar}
use Rattle.stream.specs.declared.Row.{Row}
use Rattle.stream.specs.declared.Verdict.{Verdict}
use Rattle.bank.specs.Accepting.{Accepted}
use Rattle.bank.specs.Kinds.{Kind}
use Rattle.demand.specs.Verdicts.{InReach, AcceptsAll, Refuses}
use Rattle.table.specs.Rasters.{raster, raster_states, phases_in, Raster}
use Rattle.table.specs.Sporadics.{sporadic, states_in, Sporadic}
use Rattle.turns.specs.Jobs.{released}
use Rattle.turns.specs.Steps.{Next, after_turn, end_of, key}
use Rattle.turns.specs.declared.End.TheVariants.{Finished, Switch}
use Rattle.turns.specs.declared.Job.{Job}
use Rattle.turns.specs.declared.State.{State as Worker}
use Rattle.turns.specs.declared.Turn.{Turn}
use Rattle.turns.specs.declared.Turn.TheVariants.{Of}
use Rattle.worked.specs.Plans.{critical, background, rows, Pair, Over, demands, verdict, Later, both_released}

pub record Worked {S : Type 0} (k : Kind S) (lock preview : Row) : Type 0 where
  -- (S H (2 4) (2 6) 6) and (S L (3 0) (6 6) 6)
  pub lock_row : lock ≡ critical 4 2
  pub preview_row : preview ≡ background 3 6
  pub normal : (b : S) → Pair k lock preview b → demands k b Normal ≡ 0 ∷ 0 ∷ 2 ∷ 2 ∷ 2 ∷ 2 ∷ 5 ∷ []
  pub overrun : (b : S) → Pair k lock preview b → demands k b Overrun ≡ 0 ∷ 0 ∷ 0 ∷ 0 ∷ 2 ∷ 3 ∷ 4 ∷ []
  pub accepted : (b : S) → Pair k lock preview b → AcceptsAll k b (verdict 6 7 Normal 2 (pos 0))
  -- a background budget of 4 still fits, one of 5 does not
  pub budget_four : (b : S) → Pair k lock (background 4 6) b → AcceptsAll k b (verdict 6 7 Normal 2 (pos 0))
  pub budget_five : (b : S) → Pair k lock (background 5 6) b → Over k b (verdict 6 7 Normal 6 (negsuc 0))
  -- a certain budget of 6 is just served, but not with a short deadline of 3
  pub certain_six : (b : S) → Pair k (critical 6 2) preview b → AcceptsAll k b (verdict 6 7 Normal 2 (pos 0))
  pub certain_six_asks : (b : S) → Pair k (critical 6 2) preview b → demands k b Overrun ≡ 0 ∷ 0 ∷ 0 ∷ 0 ∷ 4 ∷ 5 ∷ 6 ∷ []
  pub short_three : (b : S) → Pair k (critical 6 3) preview b → Over k b (verdict 6 4 Overrun 3 (negsuc 0))
  -- without slack length 0 is exceeded already
  pub short_six : (b : S) → Pair k (critical 4 6) preview b → Over k b (verdict 6 1 Overrun 0 (negsuc 1))
  -- the horizon of the gaps 999 and 1,000 is within reach, that of 1,000 and 1,001 is not
  pub horizon_near : (b : S) → Pair k (background 1 999) (background 1 1000) b → InReach k b 999000
  pub horizon_far : (b : S) → Pair k (background 1 1000) (background 1 1001) b → Refuses k b HorizonTooFar × (number HorizonTooFar ≡ 10)
  -- a sporadic stream with gap 6 that was accepted is refused 5 ticks later, and accepted 6 ticks later
  pub too_soon : (bank b c d : Sporadic) (answer : Result (Unit {0}) Refusal) → rows (states_in bank) ≡ lock ∷ preview ∷ [] → sporadic.accepts bank 1 b → Later sporadic 5 b c → Accepted sporadic c 1 answer d → RefusedBy 17 answer
  pub a_gap_later : (bank b c d : Sporadic) (answer : Result (Unit {0}) Refusal) → rows (states_in bank) ≡ lock ∷ preview ∷ [] → sporadic.accepts bank 1 b → Later sporadic 6 b c → Accepted sporadic c 1 answer d → answer ≡ Ok tt
  -- on a raster with gap 6 and phase 2, begun at 4,294,967,296, it is first accepted at 4,294,967,300
  pub off_raster : (bank b c d : Raster) (n : ℕ) (answer : Result (Unit {0}) Refusal) → rows (raster_states bank) ≡ lock ∷ [] → phases_in bank ≡ 2 ∷ [] → raster.begins bank 4294967296 b → Later raster n b c → 4294967296 + n < 4294967300 → Accepted raster c 1 answer d → RefusedBy 17 answer
  pub on_raster : (bank b c d : Raster) (n : ℕ) (answer : Result (Unit {0}) Refusal) → rows (raster_states bank) ≡ lock ∷ [] → phases_in bank ≡ 2 ∷ [] → raster.begins bank 4294967296 b → Later raster n b c → 4294967296 + n ≡ 4294967300 → Accepted raster c 1 answer d → answer ≡ Ok tt
  -- begun at 4,294,967,294 and both released, the deadlines are 4,294,967,296 and 4,294,967,300, and stream 1 is picked
  pub deadlines : (key Normal 1 (released lock 4294967294) ≡ (4294967296, 1)) × (key Normal 2 (released preview 4294967294) ≡ (4294967300, 2))
  pub picked : (v : Result Verdict Refusal) (turn : Turn) → Next (both_released lock preview 4294967294 v) turn ↔ (turn ≡ Of 1)
  -- a critical job that is done on the last unit of its normal budget begins no overrun; one that is not done does
  pub done_in_time : (s : Worker) (j : Job) → s.mode ≡ Normal → j.row ≡ lock → j.units ≡ 1 → (end_of s.mode j true ≡ Finished) × ((after_turn s (Some (1, j)) true).mode ≡ Normal)
  pub not_done : (s : Worker) (j : Job) → s.mode ≡ Normal → j.row ≡ lock → j.units ≡ 1 → (end_of s.mode j false ≡ Switch) × ((after_turn s (Some (1, j)) false).mode ≡ Overrun)
