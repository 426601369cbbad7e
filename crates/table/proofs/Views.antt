-- What the acts of the two kinds come to where a state is told by its record, its wait and its phase.

use Rattle.std.proofs.Common.{◌≡◌, ℕ, suc, ◌+◌, ◌-◌, List, [], ◌∷◌, map, length, Some, None, Option, sym, refl, ap, ◌∙◌, subst, arith, slice_index}
use Rattle.std.proofs.lemmas.List.{length-map, map-set}
use Rattle.std.proofs.lemmas.Simd.{map-map}
use Rattle.std.proofs.lemmas.Option.{get_or_from_slice_get, slice_get-map}
use Rattle.std.specs.Option.{option_map}
use Rattle.std.specs.List.{slice_get}
use Rattle.stream.specs.declared.limits.Record.{Record}
use Rattle.table.specs.Keeping.{Keeps, closing_keeps, rewaiting_keeps, ticking_keeps}
use Rattle.table.specs.Phases.{Until, next_wait}
use Rattle.table.specs.Rasters.{Raster, phases_in, raster, raster_states, unphased}
use Rattle.table.specs.Shortening.{AllShortened, shortened}
use Rattle.table.specs.Sporadics.{Sporadic, sporadic, states_in}
use Rattle.table.specs.Tables.{Closes, RecordState, Rewaited, amount, opening_of, record_of, state_of, states_of, waiting}
use Rattle.table.specs.TablesLemmas.{none_not_some, state_at, state_numbered, state_of_map, state_unnumbered}
use Rattle.table.specs.Waits.{after}
use Rattle.table.specs.declared.phasing.OnRaster.{OnRaster}
use Rattle.table.specs.declared.shared.State.{State}

-- a state open at once, and one tick nearer to open
abbrev pub opened : {S : Type 0} → State S → State S
opened s = waiting 0 s

abbrev pub lowered : {S : Type 0} → State S → State S
lowered s = waiting (s.wait - 1) s

-- a state a tick later, on a raster
abbrev pub turned : RecordState → RecordState
turned s = waiting (next_wait s.wait s.stream.row.gap) s

-- the phase of stream i
abbrev pub phase_of : List ℕ → ℕ → ℕ
phase_of phases i = slice_index phases (i - 1)

-- each stream waits for the first moment of its phase
abbrev pub Aligned : ℕ → List ℕ → List RecordState → List RecordState → Type 0
Aligned moment phases = Rewaited (λ i r wait. Until moment r.row.gap (phase_of phases i) wait)

same_places : {X : Type 0} (xs ys : List X) → ((k : ℕ) → slice_get xs k ≡ slice_get ys k) → xs ≡ ys
same_places [] [] same = refl
same_places [] (y ∷ ys) same = absurd (none_not_some y (same 0))
same_places (x ∷ xs) [] same = absurd (none_not_some x (sym (same 0)))
same_places (x ∷ xs) (y ∷ ys) same =
    let first : Some x ≡ Some y = same 0 in
    let others = same_places xs ys (λ k. same (suc k)) in
    cc

place_of : {S : Type 0} (xs : List (State S)) (k : ℕ) → state_of xs (k + 1) ≡ slice_get xs k
place_of xs k = let back : k + 1 - 1 ≡ k = omega arith in state_at xs (k + 1) (omega arith) ∙ ap (slice_get xs) back

-- begun, every sporadic stream is open at once
begun_opened : (xs ys : List (State Record)) → Rewaited (λ i s wait. wait ≡ 0) xs ys → ys ≡ map opened xs
begun_opened xs ys begun = same_places ys (map opened xs) (λ k. sym (place_of ys k) ∙ at (k + 1) (state_of xs (k + 1)) refl ∙ place_of (map opened xs) k)
  where
    at : (i : ℕ) (o : Option (State Record)) → state_of xs i ≡ o → state_of ys i ≡ state_of (map opened xs) i
    at i None is = state_unnumbered xs ys i begun.size is ∙ sym (state_of_map opened xs i ∙ ap (option_map opened) is)
    at i (Some s) is =
        let w = begun.waits i s is in
        w.1 ∙ ap (λ wait. Some (waiting wait s)) w.2 ∙ sym (state_of_map opened xs i ∙ ap (option_map opened) is)

pub sporadic_begun : (b c : Sporadic) (moment : ℕ) → sporadic.begins b moment c → states_in c ≡ map opened (states_in b)
sporadic_begun b c moment begun = begun_opened (states_in b) (states_in c) begun

pub sporadic_begins : (b c : Sporadic) (moment : ℕ) → states_in c ≡ map opened (states_in b) → sporadic.begins b moment c
sporadic_begins b c moment e = record {
  size = ap length e ∙ length-map (states_in b) opened;
  waits = λ i s is. (0, ap (λ xs. state_of xs i) e ∙ state_of_map opened (states_in b) i ∙ ap (option_map opened) is, refl);
}

pub raster_size : (b : Raster) → length (raster_states b) ≡ raster.streams b
raster_size b = length-map (states_of b.table) unphased

-- what is told of a raster is told of its states without their phases
module _ (xs : List (State OnRaster)) where
  pub record_viewed : (i : ℕ) → record_of (λ s. s.record) xs i ≡ record_of (λ r. r) (map unphased xs) i
  record_viewed i = same (state_of xs i) ∙ sym (ap (option_map (λ s. s.stream)) (state_of_map unphased xs i))
    where
      same : (o : Option (State OnRaster)) → option_map (λ s. s.stream.record) o ≡ option_map (λ s. s.stream) (option_map unphased o)
      same None = refl
      same (Some s) = refl

  pub opening_viewed : (i m : ℕ) → opening_of (λ s. s.record) xs i m ≡ opening_of (λ r. r) (map unphased xs) i m
  opening_viewed i m = same (state_of xs i) ∙ sym (ap (λ o. amount o (λ s. after s.wait s.stream.row.gap m)) (state_of_map unphased xs i))
    where
      same : (o : Option (State OnRaster)) → amount o (λ s. after s.wait s.stream.record.row.gap m) ≡ amount (option_map unphased o) (λ s. after s.wait s.stream.row.gap m)
      same None = refl
      same (Some s) = refl

phases_kept : (xs ys : List (State OnRaster)) → Keeps (λ s. s.phase) xs ys → map (λ s. s.stream.phase) ys ≡ map (λ s. s.stream.phase) xs
phases_kept xs ys keeps =
    same_places (map (λ s. s.stream.phase) ys) (map (λ s. s.stream.phase) xs) (λ k. told ys k ∙ keeps.records (k + 1) ∙ sym (told xs k))
  where
    told : (zs : List (State OnRaster)) (k : ℕ) → slice_get (map (λ s. s.stream.phase) zs) k ≡ record_of (λ s. s.phase) zs (k + 1)
    told zs k = slice_get-map (λ s. s.stream.phase) zs k ∙ sym (ap (option_map (λ s. s.stream.phase)) (place_of zs k))

-- the state behind a state without its phase
phased_at : (xs : List (State OnRaster)) (i : ℕ) (s : State Record) → state_of (map unphased xs) i ≡ Some s → (t : State OnRaster) × (state_of xs i ≡ Some t) × (unphased t ≡ s)
phased_at xs i s is = at (state_of xs i) refl (sym (state_of_map unphased xs i) ∙ is)
  where
    at : (o : Option (State OnRaster)) → state_of xs i ≡ o → option_map unphased o ≡ Some s → (t : State OnRaster) × (state_of xs i ≡ Some t) × (unphased t ≡ s)
    at None found e = absurd (none_not_some s e)
    at (Some t) found e = (t, found, cc)

module _ (b c : Raster) where
  -- begun, each stream waits for the first moment of its phase
  pub raster_begun : (moment : ℕ) → raster.begins b moment c → Aligned moment (phases_in b) (raster_states b) (raster_states c) × (phases_in c ≡ phases_in b)
  raster_begun moment begun = (
    record {
      size = raster_size c ∙ begun.size ∙ sym (raster_size b);
      waits = λ i s is.
          let before = states_of b.table in
          let was = phased_at before i s is in
          let w = begun.waits i was.0 was.1 in
          let at = state_numbered before i was.0 was.1 in
          let phase_is : phase_of (phases_in b) i ≡ was.0.stream.phase = get_or_from_slice_get (phases_in b) (i - 1) was.0.stream.phase 0 (slice_get-map (λ s. s.stream.phase) before (i - 1) ∙ ap (option_map (λ s. s.stream.phase)) (sym (state_at before i at.0) ∙ was.1)) in
          let P : State Record → Type 0 = λ s. (wait : ℕ) × (state_of (raster_states c) i ≡ Some (waiting wait s)) × Until moment s.stream.row.gap (phase_of (phases_in b) i) wait in
          subst P was.2 (w.0, state_of_map unphased (states_of c.table) i ∙ ap (option_map unphased) w.1, subst (λ phase. Until moment was.0.stream.record.row.gap phase w.0) (sym phase_is) w.2);
    },
    phases_kept (states_of b.table) (states_of c.table) (rewaiting_keeps (λ s. s.phase) _ (states_of b.table) (states_of c.table) begun),
  )

  pub raster_ticked : raster.ticks b c → (raster_states c ≡ map turned (raster_states b)) × (phases_in c ≡ phases_in b)
  raster_ticked e = (
    ap (map unphased) e ∙ map-map unphased _ (states_of b.table) ∙ sym (map-map turned unphased (states_of b.table)),
    phases_kept (states_of b.table) (states_of c.table) (ticking_keeps (λ s. s.phase) (λ s wait. next_wait wait s.record.row.gap) (states_of b.table) (states_of c.table) e),
  )

  pub raster_accepted : (i : ℕ) → raster.accepts b i c → Closes (λ r. r) (raster_states b) i (raster_states c) × (phases_in c ≡ phases_in b)
  raster_accepted i (s, is, e) = (
    (unphased s, state_of_map unphased (states_of b.table) i ∙ ap (option_map unphased) is, ap (map unphased) e ∙ map-set unphased (states_of b.table) (i - 1) _),
    phases_kept (states_of b.table) (states_of c.table) (closing_keeps (λ s. s.phase) (λ s. s.record) (states_of b.table) (states_of c.table) i (s, is, e)),
  )

  pub raster_shortened : (factor : ℕ) → AllShortened (λ s. s.record) (λ s t. t.phase ≡ s.phase) factor (states_of b.table) (states_of c.table) → AllShortened (λ r. r) (λ r s. Unit {0}) factor (raster_states b) (raster_states c) × (phases_in c ≡ phases_in b)
  raster_shortened factor all = (
    record {
      size = raster_size c ∙ all.size ∙ sym (raster_size b);
      each = λ i s is.
          let was = phased_at (states_of b.table) i s is in
          let t = all.each i was.0 was.1 in
          let P : State Record → Type 0 = λ s. (t : State Record) × (state_of (raster_states c) i ≡ Some t) × (t.stream.row ≡ shortened factor s.stream.row) × (t.wait ≡ s.wait) × Unit {0} in
          subst P was.2 (unphased t.0, state_of_map unphased (states_of c.table) i ∙ ap (option_map unphased) t.1, t.2, t.3, tt);
    },
    phases_kept (states_of b.table) (states_of c.table) (record { size = all.size; records = λ i. kept i (state_of (states_of b.table) i) refl }),
  )
    where
      kept : (i : ℕ) (o : Option (State OnRaster)) → state_of (states_of b.table) i ≡ o → record_of (λ s. s.phase) (states_of c.table) i ≡ record_of (λ s. s.phase) (states_of b.table) i
      kept i None is = ap (option_map (λ s. s.stream.phase)) (state_unnumbered (states_of b.table) (states_of c.table) i all.size is ∙ sym is)
      kept i (Some s) is =
          let t = all.each i s is in
          ap (option_map (λ s. s.stream.phase)) t.1 ∙ ap Some t.4 ∙ sym (ap (option_map (λ s. s.stream.phase)) is)
