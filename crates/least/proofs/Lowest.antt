-- What a caller learns of the least item: no item is below it; and a point that no point is below is the least one.

use Rattle.std.proofs.Common.{◌≡◌, ℕ, ◌<◌, Bool, false, List, length, get_or, Some, sym, ◌∙◌, subst}
use Rattle.std.proofs.lemmas.List.{get_or_default}
use Rattle.stream.specs.declared.Point.{Point}
use Rattle.least.specs.Firsts.{FirstLeast}
use Rattle.least.specs.Orders.{point_below}
use Rattle.least.specs.Rankings.{points_tied}

pub none_below_least : {X : Type 0} (below : X → X → Bool) (items : List X) (x : X) → FirstLeast below items (Some x) → (k : ℕ) (d : X) → k < length items → below (get_or items k d) x ≡ false
none_below_least {X} below items x (b, best, is) k d h =
    let P : X → Type 0 = λ y. below (get_or items k d) y ≡ false in
    subst P (sym (is ∙ get_or_default items b x d best.0)) (best.1 k d h)

pub lowest_point_is_least : (items : List Point) (x y : Point) (j : ℕ) → FirstLeast point_below items (Some x) → j < length items → y ≡ get_or items j y → ((k : ℕ) (d : Point) → k < length items → point_below (get_or items k d) y ≡ false) → x ≡ y
lowest_point_is_least items x y j (b, best, is) h here lowest =
    let P : Point → Type 0 = λ z. point_below z y ≡ false in
    let Q : Point → Type 0 = λ z. point_below z x ≡ false in
    points_tied x y (subst P (sym is) (lowest b x best.0)) (subst Q (sym here) (none_below_least point_below items x (b, best, is) j y h))
