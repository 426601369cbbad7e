use Rattle.std.proofs.Common.{◌≡◌, ◌<◌, refl, rules}
use Rattle.std.specs.Str.Parse.{digits_value}
use Rattle.text.proofs.Numerals.{parsed, counted}
use Rattle.text.proofs.cursor.Cursor.digits.Goals as goal

pub returns : goal.returns
returns c =
    let some : (0 < c.numeral_len.result) × (c.in_ok-value.value ≡ digits_value 10 c.split_at.result.0.now) = search (rules, parsed) in
    (rw (c.split_at.ensures.back, some.1, c.split_at.ensures.front) (counted c.args.self.now.rest.now c.numeral_len.result c.numeral_len.ensures some.0), refl)
