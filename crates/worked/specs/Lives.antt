-- Runs of a worker on a bank of the lock and the preview, so that the law of runs is seen to speak of something.

use Rattle.std.specs.Prelude.{◌≡◌, ℕ, ◌≤◌, true, false, List, [], ◌∷◌, ◌++◌, pos, None, Ok}
use Rattle.stream.specs.declared.Phase.{Phase}
use Rattle.stream.specs.declared.Phase.TheVariants.{Normal, Overrun}
use Rattle.stream.specs.declared.Row.{Row}
use Rattle.stream.specs.declared.Verdict.{Verdict}
use Rattle.stream.specs.declared.limits.Record.{Record}
use Rattle.table.specs.Sporadics.{sporadic, states_in, Sporadic}
use Rattle.table.specs.Tables.{fresh as idle}
use Rattle.turns.specs.Runs.{Call, release, pick, settle, calm, Heard, refused, granted, named, Run}
use Rattle.turns.specs.Steps.{Started, fresh, last_moment}
use Rattle.turns.specs.declared.State.{State}
use Rattle.turns.specs.declared.Tally.{Tally}
use Rattle.turns.specs.declared.Turn.TheVariants.{Of}
use Rattle.worked.specs.Plans.{both_released, rows, verdict}

-- a turn of stream i, not done, and one that is done
abbrev pub unfinished_turn : ℕ → List (Call × Heard)
unfinished_turn i = (pick, granted) ∷ (settle None false, named (Of i)) ∷ []

abbrev pub last_turn : ℕ → List (Call × Heard)
last_turn i = (pick, granted) ∷ (settle None true, named (Of i)) ∷ []

-- both released
abbrev pub both_in : List (Call × Heard)
both_in = (release 1, granted) ∷ (release 2, granted) ∷ []

-- then the lock needs more than its budget
abbrev pub to_the_switch : List (Call × Heard)
to_the_switch = both_in ++ (unfinished_turn 1 ++ unfinished_turn 1)

-- the preview is refused, and the lock has two turns more
abbrev pub to_the_end : List (Call × Heard)
to_the_end = (release 2, refused) ∷ (unfinished_turn 1 ++ last_turn 1)

-- the preview alone, which never ends by itself
abbrev pub to_the_cut : List (Call × Heard)
to_the_cut = (release 2, granted) ∷ (unfinished_turn 2 ++ (unfinished_turn 2 ++ unfinished_turn 2))

abbrev pub tally : ℕ → ℕ → ℕ → ℕ → Tally
tally a f c d = record { accepted = a; finished = f; cut = c; dropped = d }

-- a bank of these two rows, both open
abbrev pub Opened : Row → Row → Sporadic → Type 0
Opened lock preview b = (x : Record) × (y : Record) × (x.row ≡ lock) × (y.row ≡ preview) × (states_in b ≡ idle x ∷ idle y ∷ [])

-- from a bank and a worker, these calls lead to a worker with this mode and this tally
abbrev pub LeadsTo : Sporadic → State → List (Call × Heard) → Phase → Tally → Type 0
LeadsTo b s calls mode counts = (c : Sporadic) × (t : State) × Run sporadic b s calls c t × (t.mode ≡ mode) × (t.tally ≡ counts)

pub record Lived (lock preview : Row) : Type 0 where
  -- a bank of these rows, begun at any moment that is not too late, is open, and so is the worker
  pub opens : (bank : Sporadic) (moment : ℕ) → rows (states_in bank) ≡ lock ∷ preview ∷ [] → moment ≤ last_moment → (b : Sporadic) × Opened lock preview b × Started sporadic bank moment b (fresh moment (Ok (verdict 6 7 Normal 2 (pos 0))))
  -- at any moment both can be released
  pub gets_both : (b : Sporadic) (v : Verdict) (moment : ℕ) → Opened lock preview b → (c : Sporadic) × Run sporadic b (fresh moment (Ok v)) both_in c (both_released lock preview moment (Ok v))
  -- a switch drops the preview; the lock finishes in the overrun; then it is calm
  pub switches : (b : Sporadic) (v : Verdict) → Opened lock preview b → LeadsTo b (fresh 0 (Ok v)) to_the_switch Overrun (tally 2 0 0 1)
  pub finishes : (b : Sporadic) (v : Verdict) → Opened lock preview b → LeadsTo b (fresh 0 (Ok v)) (to_the_switch ++ to_the_end) Overrun (tally 2 1 0 1)
  pub calms : (b : Sporadic) (v : Verdict) → Opened lock preview b → LeadsTo b (fresh 0 (Ok v)) (to_the_switch ++ (to_the_end ++ (calm, granted) ∷ [])) Normal (tally 2 1 0 1)
  -- the preview is cut at its budget
  pub cuts : (b : Sporadic) (v : Verdict) → Opened lock preview b → LeadsTo b (fresh 0 (Ok v)) to_the_cut Normal (tally 1 0 1 0)
