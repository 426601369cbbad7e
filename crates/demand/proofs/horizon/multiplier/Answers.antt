use Rattle.std.proofs.Common.{◌≡◌, ℕ, ◌*◌, ◌%◌, ◌≢◌, rules, tests}
use Rattle.std.proofs.lemmas.Iterator.{first_from_Range}
use Rattle.demand.proofs.Multiples.{first_multiplier}
use Rattle.demand.proofs.horizon.multiplier.Goals as goal

pub returns : goal.returns
returns c =
    let divides : ℕ → Type 0 = λ p. (p * c.args.h) % c.args.gap ≡ 0 in
    let other : ℕ → Type 0 = λ p. (p * c.args.h) % c.args.gap ≢ 0 in
    first_multiplier c.args.h c.args.gap c.requires.some c.find.result (first_from_Range _ _ _ _ divides other c.find.ensures.ran (λ x q k. search (rules, tests)) (λ x q k. (search rules, search (rules, tests))))
