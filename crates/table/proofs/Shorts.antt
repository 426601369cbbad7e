-- What holds of a table that does not fall short.

use Rattle.std.proofs.Common.{◌≡◌, ℕ, ◌+◌, ◌<◌, ◌≤◌, Bool, false, cond, List, length, get_or, Some, None, sym, ap, ◌∙◌, ⊎_elim, arith}
use Rattle.std.proofs.lemmas.Bool.{cases_lt, lt-ltb, ltb-false}
use Rattle.std.proofs.lemmas.List.Sums.{fails_before_first}
use Rattle.std.proofs.lemmas.Option.{get_or_from_slice_get, slice_get_within}
use Rattle.std.specs.List.{position_or_len, slice_get}
use Rattle.std.specs.Option.{option_map}
use Rattle.stream.specs.declared.limits.Record.{Record}
use Rattle.table.specs.Shortening.{shortened, too_short, first_short, shortfall_of, AllShortened}
use Rattle.table.specs.declared.shared.State.{State}
use Rattle.table.specs.declared.shortening.Shortfall.TheVariants.{Stream}
use Rattle.table.proofs.Partly.{Partly, partly_all}
use Rattle.table.specs.TablesLemmas.{none_not_some}

module _ {S : Type 0} (recorded : S → Record) where
  -- a factor outside its limits is told before any stream
  pub factor_outside : (factor : ℕ) (xs : List (State S)) → (1 ≤ factor → factor ≤ 1000 → ⊥) → shortfall_of recorded factor xs ≡ Some (13, None)
  factor_outside factor xs outside = grind arith

  -- the short deadline leaves room for the budget
  abbrev pub Enough : ℕ → S → Type 0
  Enough factor s = (recorded s).row.budget ≤ (shortened factor (recorded s).row).short

  -- where no stream falls short, each short deadline leaves room for the budget
  pub none_falls_short : (factor : ℕ) (xs : List (State S)) → first_short recorded factor xs ≡ None → (k : ℕ) (s : State S) → slice_get xs k ≡ Some s → Enough factor s.stream
  none_falls_short factor xs none k s is =
      let short : State S → Bool = λ s. too_short factor (recorded s.stream).row in
      ⊎_elim
      (λ (one : position_or_len short xs < length xs). absurd (none_not_some _ (sym none ∙ ap (λ (b : Bool). option_map (λ at. Stream (at + 1)) (cond b (Some (position_or_len short xs)) None)) (lt-ltb _ _ one))))
      (λ (all : length xs ≤ position_or_len short xs).
      let within = slice_get_within xs k s is in
      let here : short (get_or xs k s) ≡ false = fails_before_first short xs k s (omega arith) in
      ltb-false _ _ (sym (ap short (get_or_from_slice_get xs k s s is)) ∙ here))
      (cases_lt (position_or_len short xs) (length xs))

-- one state is shortened
abbrev pub Shortens : {S : Type 0} → (S → Record) → (S → S → Type 0) → ℕ → State S → State S → Type 0
Shortens recorded alike factor s t = ((recorded t.stream).row ≡ shortened factor (recorded s.stream).row) × (t.wait ≡ s.wait) × alike s.stream t.stream

pub all_shortened : {S : Type 0} (recorded : S → Record) (alike : S → S → Type 0) (factor i : ℕ) (xs ys : List (State S)) → Partly (Shortens recorded alike factor) i xs ys → length xs ≤ i → AllShortened recorded alike factor xs ys
all_shortened recorded alike factor i xs ys part all = record {
  size = part.size;
  each = λ j s is. let done = partly_all (Shortens recorded alike factor) i xs ys part all j s is in (done.0, done.1, done.2.0, done.2.1, done.2.2);
}
