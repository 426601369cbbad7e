-- The worked plans, each by computing.

use Rattle.std.proofs.Common.{◌≡◌, ℕ, ◌+◌, ◌*◌, ◌/◌, ◌%◌, ◌<◌, ◌≤◌, List, [], ◌∷◌, map, pos, negsuc, Some, sym, refl, ap, ◌∙◌, subst, ⊎_elim, add-mul, mul-le-mul_left, one-mul, mul-zero, mul-one, mul-add, arith}
use native.Mathlib.Nat.{mod-add-div}
use Rattle.std.proofs.lemmas.Bool.{cases_lt}
use Rattle.stream.specs.declared.Phase.{Phase}
use Rattle.stream.specs.declared.Phase.TheVariants.{Normal, Overrun}
use Rattle.stream.specs.declared.Row.{Row}
use Rattle.bank.specs.Kinds.{Kind}
use Rattle.bank.specs.Laws.{Laws}
use Rattle.demand.specs.Demands.{demand}
use Rattle.demand.specs.Shares.{normal_share, overrun_share, greatest, carrying}
use Rattle.demand.specs.Verdicts.{Far}
use Rattle.table.specs.Phases.{Until}
use Rattle.table.specs.Rasters.{raster, raster_states, phases_in, Raster}
use Rattle.table.specs.Sporadics.{sporadic, states_in, Sporadic}
use Rattle.table.specs.Tables.{state_of, waiting, closed, RecordState as State}
use Rattle.table.specs.TablesLemmas.{state_of_set_same}
use Rattle.table.proofs.Views.{phase_of, raster_begun}
use Rattle.worked.specs.Plans.{critical, background, rows, Pair, demands, verdict}
use Rattle.worked.specs.Worked.{Worked}
use Rattle.worked.proofs.Pairs.{Least, pair_demand, demand_pair, gaps_divide, reach_pair, accepts_pair, exceeds_pair}
use Rattle.worked.proofs.Twos.{two}
use Rattle.worked.proofs.Picking.{lock_first, lock_done, lock_not_done}
use Rattle.worked.proofs.Waiting.{sporadic_tabled, raster_tabled, refused_then, accepted_then, until_four}

map_same : (f g : ℕ → ℕ) → ((n : ℕ) → f n ≡ g n) → (ns : List ℕ) → map f ns ≡ map g ns
map_same f g same [] = refl
map_same f g same (n ∷ ns) = let first = same n in let rest = map_same f g same ns in cc

demands_pair : {S : Type 0} (k : Kind S) (laws : Laws k) (x y : Row) (b : S) → Pair k x y b → (p : Phase) → demands k b p ≡ map (pair_demand x y p) (0 ∷ 1 ∷ 2 ∷ 3 ∷ 4 ∷ 5 ∷ 6 ∷ [])
demands_pair k laws x y b pair p = map_same (demand k b p) (pair_demand x y p) (demand_pair k laws x y b pair p) (0 ∷ 1 ∷ 2 ∷ 3 ∷ 4 ∷ 5 ∷ 6 ∷ [])

-- both gaps are 6
least_six : (C V c : ℕ) → Least (critical C V) (background c 6) 6
least_six C V c = record { some = omega arith; first = refl; second = refl; least = λ m some first second. omega arith }

-- the least common multiple of two gaps that differ by 1 is their product
neighbours : (g m : ℕ) → 1 ≤ m → m % g ≡ 0 → m % (g + 1) ≡ 0 → (g + 1) * g ≤ m
neighbours g m some first second =
    let a : ℕ = m / g in
    let b : ℕ = m / (g + 1) in
    let is : g * a ≡ m = omega (arith, mod-add-div m g) in
    let too : g * b + b ≡ m = omega (arith, mod-add-div m (g + 1), add-mul g 1 b, one-mul b) in
    ⊎_elim
    (λ (more : b < a).
    let up : g * (b + 1) ≤ g * a = mul-le-mul_left g (omega arith) in
    let least : (g + 1) * g ≤ (g + 1) * b = mul-le-mul_left (g + 1) (omega (arith, mul-add g b 1, mul-one g)) in
    omega (arith, add-mul g 1 b, one-mul b))
    (λ (less : a ≤ b).
    let down : g * a ≤ g * b = mul-le-mul_left g less in
    let none : b ≡ 0 = omega arith in
    let z : ⊥ = omega (arith, ap (λ (x : ℕ). g * x) none, mul-zero g) in absurd z)
    (cases_lt b a)

least_near : Least (background 1 999) (background 1 1000) 999000
least_near = record { some = omega arith; first = refl; second = refl; least = neighbours 999 }

far_off : {S : Type 0} (k : Kind S) (laws : Laws k) (b : S) → Pair k (background 1 1000) (background 1 1001) b → Far k b
far_off k laws b pair =
    let long = pair.two in
    record {
      some = omega arith;
      few = omega arith;
      far = λ m common.
          let gaps = gaps_divide k laws (background 1 1000) (background 1 1001) b pair m common in
          let least = neighbours 1000 m common.some gaps.0 gaps.1 in
          omega arith;
    }

-- accepted, stream 1 waits for its gap
closed_for_six : (bank b : Sporadic) → rows (states_in bank) ≡ critical 4 2 ∷ background 3 6 ∷ [] → sporadic.accepts bank 1 b → (s : State) × (state_of (states_in b) 1 ≡ Some (waiting 6 s))
closed_for_six bank b pair (s, is, e) =
    let w = two (critical 4 2) (background 3 6) (states_in bank) pair in
    let first : Some w.first ≡ Some s = sym (ap (λ (xs : List State). state_of xs 1) w.is) ∙ is in
    let same : w.first ≡ s = cc in
    let gap : s.stream.row.gap ≡ 6 = sym (ap (λ (x : State). x.stream.row.gap) same) ∙ ap (λ (r : Row). r.gap) w.first_row in
    (s, ap (λ (xs : List State). state_of xs 1) e ∙ state_of_set_same (states_in bank) 1 s (closed (λ r. r) s) is ∙ ap (λ (n : ℕ). Some (waiting n s)) gap)

-- begun, stream 1 waits for its phase
one_state : (x : Row) (states : List State) → rows states ≡ x ∷ [] → (s : State) × (states ≡ s ∷ []) × (s.stream.row ≡ x)
one_state x [] e = let z : ◌≡◌ {A = ℕ} 0 1 = cc in let f : ⊥ = omega arith in absurd f
one_state x (s ∷ []) e = (s, refl, cc)
one_state x (s ∷ t ∷ more) e = let z : ◌≡◌ {A = ℕ} 0 1 = cc in let f : ⊥ = omega arith in absurd f

four_to_phase : (bank b : Raster) → rows (raster_states bank) ≡ critical 4 2 ∷ [] → phases_in bank ≡ 2 ∷ [] → raster.begins bank 4294967296 b → (s : State) × (state_of (raster_states b) 1 ≡ Some (waiting 4 s))
four_to_phase bank b row phase begins =
    let w = one_state (critical 4 2) (raster_states bank) row in
    let found : state_of (raster_states bank) 1 ≡ Some w.0 = ap (λ (xs : List State). state_of xs 1) w.1 in
    let waits = (raster_begun bank b 4294967296 begins).0.waits 1 w.0 found in
    let gap : w.0.stream.row.gap ≡ 6 = ap (λ (r : Row). r.gap) w.2 in
    let until : Until 4294967296 6 2 waits.0 = subst (λ (p : List ℕ). Until 4294967296 6 (phase_of p 1) waits.0) phase (subst (λ (g : ℕ). Until 4294967296 g (phase_of (phases_in bank) 1) waits.0) gap waits.2) in
    (w.0, waits.1 ∙ ap (λ (n : ℕ). Some (waiting n w.0)) (until_four waits.0 until))

pub worked : {S : Type 0} (k : Kind S) → Laws k → Worked k (critical 4 2) (background 3 6)
unfolding normal_share overrun_share greatest carrying
worked k laws = record {
  lock_row = refl;
  preview_row = refl;
  normal = λ b pair. demands_pair k laws (critical 4 2) (background 3 6) b pair Normal;
  overrun = λ b pair. demands_pair k laws (critical 4 2) (background 3 6) b pair Overrun;
  accepted = λ b pair. accepts_pair k laws (critical 4 2) (background 3 6) b pair (verdict 6 7 Normal 2 (pos 0)) (least_six 4 2 3) (omega arith) refl refl refl (omega arith) (omega arith) refl;
  budget_four = λ b pair. accepts_pair k laws (critical 4 2) (background 4 6) b pair (verdict 6 7 Normal 2 (pos 0)) (least_six 4 2 4) (omega arith) refl refl refl (omega arith) (omega arith) refl;
  budget_five = λ b pair. (exceeds_pair k laws (critical 4 2) (background 5 6) b pair (verdict 6 7 Normal 6 (negsuc 0)) (least_six 4 2 5) (omega arith) (omega arith) refl refl refl refl, refl);
  certain_six = λ b pair. accepts_pair k laws (critical 6 2) (background 3 6) b pair (verdict 6 7 Normal 2 (pos 0)) (least_six 6 2 3) (omega arith) refl refl refl (omega arith) (omega arith) refl;
  certain_six_asks = λ b pair. demands_pair k laws (critical 6 2) (background 3 6) b pair Overrun;
  short_three = λ b pair. (exceeds_pair k laws (critical 6 3) (background 3 6) b pair (verdict 6 4 Overrun 3 (negsuc 0)) (least_six 6 3 3) (omega arith) (omega arith) refl refl refl refl, refl);
  short_six = λ b pair. (exceeds_pair k laws (critical 4 6) (background 3 6) b pair (verdict 6 1 Overrun 0 (negsuc 1)) (least_six 4 6 3) (omega arith) (omega arith) refl refl refl refl, refl);
  horizon_near = λ b pair. reach_pair k laws (background 1 999) (background 1 1000) b pair 999000 least_near (omega arith);
  horizon_far = λ b pair. (far_off k laws b pair, refl);
  too_soon = λ bank b c d answer pair accepts run accepted. let w = closed_for_six bank b pair accepts in refused_then sporadic states_in sporadic_tabled 1 w.0 5 6 b c d answer w.1 run (omega arith) accepted;
  a_gap_later = λ bank b c d answer pair accepts run accepted. let w = closed_for_six bank b pair accepts in accepted_then sporadic states_in sporadic_tabled 1 w.0 6 6 b c d answer w.1 run refl accepted;
  off_raster = λ bank b c d n answer row phase begins run early accepted. let w = four_to_phase bank b row phase begins in refused_then raster raster_states raster_tabled 1 w.0 n 4 b c d answer w.1 run (omega arith) accepted;
  on_raster = λ bank b c d n answer row phase begins run due accepted. let w = four_to_phase bank b row phase begins in accepted_then raster raster_states raster_tabled 1 w.0 n 4 b c d answer w.1 run (omega arith) accepted;
  deadlines = (refl, refl);
  picked = lock_first;
  done_in_time = lock_done;
  not_done = lock_not_done;
}
