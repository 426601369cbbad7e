-- Answers in their lines, one after another.

use Rattle.std.proofs.Common.{◌≡◌, ℕ, ◌+◌, ◌-◌, ◌≤◌, List, [], ◌∷◌, ◌++◌, length, drop, sym, ap, ◌∙◌, subst, append_assoc, append-nil, arith}
use Rattle.std.proofs.lemmas.List.{length-append, length-drop, drop-drop}
use Rattle.text.specs.declared.answer.Answer.{Answer}
use Rattle.plan.specs.Written.{Appended, line_of, lines_of}

-- bytes behind bytes
appended_then : (before mid after xs ys : List ℕ) (n k m : ℕ) → Appended before n xs mid k → Appended mid k ys after m → Appended before n (xs ++ ys) after m
appended_then before mid after xs ys n k m first second written rest is at room =
    let long = length-append xs ys in
    let (e, f) = first written rest is at (omega arith) in
    let left : length (drop (length xs) rest) ≡ length rest - length xs = length-drop (length xs) rest in
    let (g, h) = second (written ++ xs) (drop (length xs) rest) (f ∙ sym (append_assoc written xs (drop (length xs) rest))) (e ∙ ap (λ (x : ℕ). x + length xs) at ∙ sym (length-append written xs)) (omega arith) in (
      omega (arith, g, e, long),
      h
          ∙ ap (λ (d : List ℕ). (written ++ xs) ++ (ys ++ d)) (drop-drop (length ys) (length xs) rest ∙ ap (λ (z : ℕ). drop z rest) (sym long))
          ∙ append_assoc written xs (ys ++ drop (length (xs ++ ys)) rest)
          ∙ ap (λ (l : List ℕ). written ++ l) (sym (append_assoc xs ys (drop (length (xs ++ ys)) rest))),
    )

-- a last answer
pub one_line : (answer : Answer) (before after : List ℕ) (n m : ℕ) → Appended before n (line_of answer) after m → Appended before n (lines_of (answer ∷ [])) after m
one_line answer before after n m = subst (λ (l : List ℕ). Appended before n l after m) (sym (append-nil (line_of answer)))

-- an answer before others
pub line_first : (answer : Answer) (answers : List Answer) (before mid after : List ℕ) (n k m : ℕ) → Appended before n (line_of answer) mid k → Appended mid k (lines_of answers) after m → Appended before n (lines_of (answer ∷ answers)) after m
line_first answer answers before mid after n k m = appended_then before mid after (line_of answer) (lines_of answers) n k m
