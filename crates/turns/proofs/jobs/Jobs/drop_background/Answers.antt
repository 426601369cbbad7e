use Rattle.std.proofs.Common.{◌≡◌, ◌<◌, length, get_or, set, None, ap, ◌∙◌, arith, rules}
use Rattle.std.proofs.lemmas.List.Edits.{map_over_more}
use Rattle.turns.specs.Jobs.{shed}
use Rattle.turns.proofs.jobs.Jobs.drop_background.Goals as goal

pub loop-place-preserved : goal.loop-place-preserved
loop-place-preserved c =
    let xs = c.self.inside.places in
    let ys = c.loop-place.place-items in
    let i = c.loop-place.place-index in
    let x = get_or ys i None in
    let l : i < length ys = omega (arith, c.loop-place.invariant.0) in
    let l2 : i < length xs = omega (arith, c.self.invariant) in
    let is : c.filter-in-loop-place.result ≡ shed x = search rules in
    let same : x ≡ get_or ys i x = search rules in
    (search rules, ap (λ v. set ys i v) is ∙ map_over_more shed xs ys i x l2 c.loop-place.invariant.1 same)
