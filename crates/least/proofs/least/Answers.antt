use Rattle.std.proofs.Common.{◌≡◌, Bool, List, ◌∷◌, length, Some, None, Option, MatchOption, cond, sym, ◌∙◌, subst, ap, rules}
use Rattle.std.proofs.lemmas.List.MinMax.{IsFirstBest-from_best_of}
use Rattle.std.proofs.lemmas.List.{get_or_default}
use Rattle.std.specs.Cmp.{IsStrictWeakOrder}
use Rattle.std.specs.List.{best_of}
use Rattle.least.specs.Firsts.{FirstLeast}
use Rattle.least.proofs.least.Goals as goal

first_least : {X : Type 0} {below : X → X → Bool} {N : Type 0} {S : X → Type 0} → IsStrictWeakOrder below → (items : List X) (answer : Option X) → MatchOption answer N S → (N → length items ≡ 0) → ((best : X) → S best → (x : X) × (rest : List X) × (items ≡ x ∷ rest) × (best ≡ best_of below x rest)) → FirstLeast below items answer
first_least o items None is none some = none is
first_least {X} {below} o items (Some best) is none some =
    let (x, rest, joined, chosen) = some best is in
    let found = IsFirstBest-from_best_of o x rest in
    let P : List X → Type 0 = λ xs. FirstLeast below xs (Some best) in
    subst P (sym joined) (found.0, found.1, chosen ∙ sym found.2 ∙ get_or_default (x ∷ rest) found.0 x best found.1.0)

pub returns : goal.returns
returns g c =
    let items = c.args.items.now in
    let run = c.reduce.ensures.runs in
    let copy = c.copied.ensures.runs run.0 run.0.seen run.1 in
    let read = c.iter.ensures.runs copy.0 copy.0.seen in
    let all : run.0.items ≡ items = copy.2.2 ∙ read.4 (copy.2.0 ∙ run.2) ∙ ap (λ s. s.rest.now) copy.1 ∙ c.iter.ensures.rest in
    first_least g.met.X.Ranked.ranks items c.reduce.result run.3
    (λ none. ap length (sym all) ∙ sym run.0.long ∙ none)
    (λ best some. (some.1.0, some.1.1, sym all ∙ some.1.2, some.1.3 (λ b x. cond (g.X.Ranked.below x b) x b) (λ x y r f q. search rules)))
