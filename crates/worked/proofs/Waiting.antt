-- A stream of a table that waits: what accept answers, tick by tick.

use Rattle.std.proofs.Common.{◌≡◌, ℕ, zero, suc, ◌+◌, ◌-◌, ◌<◌, ◌≤◌, Bool, cond, List, Some, Ok, Result, refl, ap, ◌∙◌, ⊎_elim, zero-add, arith}
use Rattle.std.proofs.lemmas.Bool.{cases_lt, ne_eqb}
use Rattle.std.specs.Option.{option_map}
use Rattle.stream.specs.Refusals.{RefusedBy}
use Rattle.stream.specs.declared.Refusal.{Refusal}
use Rattle.bank.specs.Accepting.{Accepted}
use Rattle.bank.specs.Kinds.{Kind}
use Rattle.bank.specs.Runs.{done, tick}
use Rattle.bank.proofs.Backs.{back_before}
use Rattle.table.specs.Phases.{Until, next_wait}
use Rattle.table.specs.Rasters.{raster, raster_states}
use Rattle.table.specs.Sporadics.{sporadic, states_in}
use Rattle.table.specs.Tables.{states_of, state_of, record_of, opening_of, waiting, RecordState as State}
use Rattle.table.specs.Waits.{every}
use Rattle.table.specs.Openings.{opening_at, idle_is_open}
use Rattle.table.specs.TablesLemmas.{state_of_map}
use Rattle.table.proofs.Views.{record_viewed, opening_viewed, raster_ticked, lowered, turned}
use Rattle.worked.specs.Plans.{Later}

-- a kind over a table: a tick takes one off a wait
pub record Tabled {B : Type 0} (k : Kind B) (states : B → List State) : Type 0 where
  pub records : (b : B) (i : ℕ) → k.records b i ≡ record_of (λ r. r) (states b) i
  pub opening : (b : B) (i : ℕ) → k.opening b i 0 ≡ opening_of (λ r. r) (states b) i 0
  pub down : (b c : B) (i wait : ℕ) (s : State) → k.ticks b c → state_of (states b) i ≡ Some (waiting (suc wait) s) → state_of (states c) i ≡ Some (waiting wait s)

pub sporadic_tabled : Tabled sporadic states_in
sporadic_tabled = record {
  records = λ b i. refl;
  opening = λ b i. refl;
  down = λ b c i wait s t e.
      let less : suc wait - 1 ≡ wait = omega arith in
      ap (λ (xs : List State). state_of xs i) t ∙ state_of_map lowered (states_in b) i ∙ ap (option_map lowered) e ∙ ap (λ (w : ℕ). Some (waiting w s)) less;
}

pub raster_tabled : Tabled raster raster_states
raster_tabled = record {
  records = λ b i. record_viewed (states_of b.table) i;
  opening = λ b i. opening_viewed (states_of b.table) i 0;
  down = λ b c i wait s t e.
      let gap : ℕ = s.stream.row.gap in
      let less : suc wait - 1 ≡ wait = omega arith in
      let next : next_wait (suc wait) gap ≡ wait = ap (λ (z : Bool). cond z (gap - 1) (suc wait - 1)) (ne_eqb (suc wait) 0 (λ z. let f : ⊥ = omega arith in absurd f)) ∙ less in
      ap (λ (xs : List State). state_of xs i) (raster_ticked b c t).0 ∙ state_of_map turned (raster_states b) i ∙ ap (option_map turned) e ∙ ap (λ (w : ℕ). Some (waiting w s)) next;
}

module _ {B : Type 0} (k : Kind B) (states : B → List State) (table : Tabled k states) (i : ℕ) (s : State) where
  waits_down : (n wait : ℕ) {b c : B} → Later k n b c → state_of (states b) i ≡ Some (waiting (n + wait) s) → state_of (states c) i ≡ Some (waiting wait s)
  waits_down zero wait done e = e ∙ ap (λ (w : ℕ). Some (waiting w s)) (zero-add wait)
  waits_down (suc n) wait (tick {b} {c} {d} t run) e =
      let more : suc n + wait ≡ suc (n + wait) = omega arith in
      waits_down n wait run (table.down b c i (n + wait) s t (e ∙ ap (λ (w : ℕ). Some (waiting w s)) more))

  -- still waiting after n ticks, or not
  pub refused_then : (n wait : ℕ) (b c d : B) (answer : Result (Unit {0}) Refusal) → state_of (states b) i ≡ Some (waiting wait s) → Later k n b c → n < wait → Accepted k c i answer d → RefusedBy 17 answer
  refused_then n wait b c d answer e run early accepted =
      let whole : wait ≡ n + (wait - n) = omega arith in
      let now = waits_down n (wait - n) run (e ∙ ap (λ (w : ℕ). Some (waiting w s)) whole) in
      let found = table.records c i ∙ ap (option_map (λ (s : State). s.stream)) now in
      let shut = table.opening c i ∙ opening_at (λ r. r) (states c) i 0 (waiting (wait - n) s) now ∙ back_before (every s.stream.row.gap) 0 (wait - n) (omega arith) in
      (accepted.shut s.stream found shut).0

  pub accepted_then : (n wait : ℕ) (b c d : B) (answer : Result (Unit {0}) Refusal) → state_of (states b) i ≡ Some (waiting wait s) → Later k n b c → n ≡ wait → Accepted k c i answer d → answer ≡ Ok tt
  accepted_then n wait b c d answer e run due accepted =
      let whole : wait ≡ n + 0 = omega arith in
      let now = waits_down n 0 run (e ∙ ap (λ (w : ℕ). Some (waiting w s)) whole) in
      let found = table.records c i ∙ ap (option_map (λ (s : State). s.stream)) now in
      let free = idle_is_open (λ r. r) (states c) i (waiting 0 s) now (omega arith) in
      (accepted.taken s.stream found (omega (arith, table.opening c i))).0

-- 4,294,967,296 is 4 modulo 6, so phase 2 is 4 ticks away
pub until_four : (wait : ℕ) → Until 4294967296 6 2 wait → wait ≡ 4
until_four wait (hit, least) =
    ⊎_elim
    (λ (late : 4 < wait). absurd (least 4 late refl))
    (λ (within : wait ≤ 4). omega arith)
    (cases_lt 4 wait)
