use Rattle.std.proofs.Common.{◌≡◌, ℕ, ◌<◌, ◌≤◌, List, length, get_or, Bor, Some, None, Option, sym, refl}
use Rattle.std.proofs.lemmas.Option.{slice_get_past, slice_get_read}
use Rattle.std.specs.Option.{IfSome, MatchOption, option_map}
use Rattle.std.specs.List.{HoldsAt, slice_get}
use Rattle.table.specs.Tables.{states_of}
use Rattle.table.specs.TablesLemmas.{state_at}
use Rattle.table.proofs.shared.Table.state.Goals as goal

-- what `get` finds is what stands there
found : {X : Type 0} (o : Option (Bor X)) (xs : List X) (i : ℕ) → MatchOption o (length xs ≤ i) (λ x. (i < length xs) × HoldsAt (λ y. x.now ≡ y) xs i) → IfSome o (λ x. x.now ≡ get_or xs i x.now) → option_map (λ x. x.now) o ≡ slice_get xs i
found None xs i past is = sym (slice_get_past xs i past)
found (Some x) xs i here is = sym (slice_get_read xs (length xs) i x.now refl here.0 is)

pub returns : goal.returns
returns g c =
    let xs = states_of c.args.self.now in
    let at = c.in_ok-at.ensures in
    let is = found c.get.result c.deref.result.now c.in_ok-at.at c.get.ensures.lookup.3 c.get.ensures.lookup.1 in
    let last = state_at xs c.args.stream at.0 in
    cc
