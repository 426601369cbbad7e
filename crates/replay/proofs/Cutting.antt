-- A text is read up to one byte more than the longest that is replayed, and answered as if it were read whole.

use Rattle.std.proofs.Common.{◌≡◌, ℕ, ◌<◌, ◌≤◌, List, [], ◌++◌, length, take, Some, None, Option, IfSome, sym, ap, subst, arith}
use Rattle.std.proofs.lemmas.List.{length-take-le, take_all}
use Rattle.std.specs.Option.{option_map}
use Rattle.script.specs.Replays.{Replayed, ReplayedUpto}

cut_alike : (text written : List ℕ) → ReplayedUpto (take 65537 text) written → ReplayedUpto text written
cut_alike text written (short, long) = (
  λ (few : length text ≤ 65536).
      let whole : take 65537 text ≡ text = take_all 65537 text (omega arith) in
      subst (λ (xs : List ℕ). Replayed xs written) whole (short (omega (arith, ap length whole))),
  λ (many : 65536 < length text). long (omega (arith, length-take-le 65537 text (omega arith))),
)

by_known : (known : Option (List ℕ)) (read written : List ℕ) → IfSome (option_map (take 65537) known) (λ xs. read ≡ xs) → ReplayedUpto read written → IfSome known (λ text. ReplayedUpto text written)
by_known None read written is replayed = tt
by_known (Some text) read written is replayed = cut_alike text written (subst (λ (xs : List ℕ). ReplayedUpto xs written) is replayed)

-- of a reader that tells its bytes
pub answered : {R : Type 0} (remaining : R → Option (List ℕ)) (input inner : R) (limit : ℕ) (before buffer read written : List ℕ) → limit ≡ 65537 → inner ≡ input → before ≡ [] → read ≡ buffer → IfSome (option_map (take limit) (remaining inner)) (λ xs. buffer ≡ before ++ xs) → ReplayedUpto read written → IfSome (remaining input) (λ text. ReplayedUpto text written)
answered {R} remaining input inner limit before buffer read written at same none whole is replayed =
    let cut = subst (λ (n : ℕ). IfSome (option_map (take n) (remaining inner)) (λ xs. buffer ≡ before ++ xs)) at is in
    let of_input = subst (λ (i : R). IfSome (option_map (take 65537) (remaining i)) (λ xs. buffer ≡ before ++ xs)) same cut in
    let alone = subst (λ (b : List ℕ). IfSome (option_map (take 65537) (remaining input)) (λ xs. buffer ≡ b ++ xs)) none of_input in
    by_known (remaining input) read written (subst (λ (r : List ℕ). IfSome (option_map (take 65537) (remaining input)) (λ xs. r ≡ xs)) (sym whole) alone) replayed
