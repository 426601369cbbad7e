-- A text begins with at most one line.

use Rattle.std.proofs.Common.{◌≡◌, ℕ, ◌<◌, false, eqb, List, [], ◌∷◌, ◌++◌, get_or, codes, decimal, sym, refl, ap, ◌∙◌, append_assoc, lit<}
use Rattle.stream.specs.declared.Row.{Row}
use Rattle.text.specs.declared.line.Line.{Line}
use Rattle.text.specs.declared.line.Line.TheVariants.{Sporadic, Raster, Go}
use Rattle.text.specs.Lines.{class_letter, row_bytes, phased_bytes, render, SmallRow, Valid}
use Rattle.text.specs.Words.{Small}
use Rattle.std.proofs.lemmas.Bool.{eqb-false}
use Rattle.std.proofs.lemmas.List.{append_cancel_left}
use Rattle.text.proofs.Forms.{Apart, apart_form, same_value}
use Rattle.text.proofs.Grammar.{RowForm, class_told}
use Rattle.text.proofs.Numerals.{same_number}

-- texts that differ at a place are not the same
pub differ : {X : Type 0} {s t : List ℕ} (i : ℕ) → s ≡ t → eqb (get_or s i 0) (get_or t i 0) ≡ false → X
differ i e apart = absurd (eqb-false _ _ apart (ap (λ (l : List ℕ). get_or l i 0) e))

-- what follows the first byte that closes a row, taken off number by number
module _ (k : ℕ) (ks : List ℕ) (low : k < 48) where
  abbrev from_gap : Row → List ℕ → List ℕ
  from_gap r x = decimal r.gap ++ (k ∷ (ks ++ x))

  abbrev from_deadline : Row → List ℕ → List ℕ
  from_deadline r x = decimal r.deadline ++ (codes ") " ++ from_gap r x)

  abbrev from_short : Row → List ℕ → List ℕ
  from_short r x = decimal r.short ++ (codes " " ++ from_deadline r x)

  abbrev from_certain : Row → List ℕ → List ℕ
  from_certain r x = decimal r.certain ++ (codes ") (" ++ from_short r x)

  abbrev from_budget : Row → List ℕ → List ℕ
  from_budget r x = decimal r.budget ++ (codes " " ++ from_certain r x)

  row_flat : (r : Row) (x : List ℕ) → row_bytes (k ∷ ks) r ++ x ≡ class_letter r.class ++ (codes " (" ++ from_budget r x)
  row_flat r x = simp append_assoc

  pub same_row : (r q : Row) (x y : List ℕ) → SmallRow r → SmallRow q → row_bytes (k ∷ ks) r ++ x ≡ row_bytes (k ∷ ks) q ++ y → (r ≡ q) × (x ≡ y)
  same_row r q x y s t e =
      let whole = sym (row_flat r x) ∙ e ∙ row_flat q y in
      let class = same_value class_told r.class q.class _ _ whole in
      let class_rest = class.1 in
      let at_budget : from_budget r x ≡ from_budget q y = cc in
      let budget = same_number r.budget q.budget 32 _ _ s.0 t.0 (lit< tt) at_budget in
      let certain = same_number r.certain q.certain 41 _ _ s.1 t.1 (lit< tt) budget.1 in
      let certain_rest = certain.1 in
      let at_short : from_short r x ≡ from_short q y = cc in
      let short = same_number r.short q.short 32 _ _ s.2 t.2 (lit< tt) at_short in
      let deadline = same_number r.deadline q.deadline 41 _ _ s.3 t.3 (lit< tt) short.1 in
      let deadline_rest = deadline.1 in
      let at_gap : from_gap r x ≡ from_gap q y = cc in
      let gap = same_number r.gap q.gap k _ _ s.4 t.4 low at_gap in (
        (λ i. record { class = class.0 i; budget = budget.0 i; certain = certain.0 i; short = short.0 i; deadline = deadline.0 i; gap = gap.0 i }),
        append_cancel_left ks x y gap.1,
      )

  pub apart_row : Apart (RowForm (k ∷ ks))
  apart_row = apart_form (row_bytes (k ∷ ks)) SmallRow (λ r q x y s t e. (same_row r q x y s t e).0)

pub same_moment : (m n : ℕ) (x y : List ℕ) → Small m → Small n → (decimal m ++ codes ")\n") ++ x ≡ (decimal n ++ codes ")\n") ++ y → m ≡ n
same_moment m n x y s t e =
    let flat : (k : ℕ) (z : List ℕ) → (decimal k ++ codes ")\n") ++ z ≡ decimal k ++ (codes ")\n" ++ z) = λ k z. append_assoc (decimal k) (codes ")\n") z in
    (same_number m n 41 _ _ s t (lit< tt) (sym (flat m x) ∙ e ∙ flat n y)).0

pub same_line : (l m : Line) (x y : List ℕ) → Valid l → Valid m → render l ++ x ≡ render m ++ y → l ≡ m
same_line (Sporadic r) (Sporadic q) x y s t e =
    let tails : row_bytes (codes ")\n") r ++ x ≡ row_bytes (codes ")\n") q ++ y = cc in
    ap (λ (z : Row). Sporadic z) (same_row 41 (codes "\n") (lit< tt) r q x y s t tails).0
same_line (Raster r p) (Raster q o) x y s t e =
    let tails : phased_bytes (r, p) ++ x ≡ phased_bytes (q, o) ++ y = cc in
    let flat : (v : Row × ℕ) (z : List ℕ) → phased_bytes v ++ z ≡ row_bytes (codes " ") v.0 ++ ((decimal v.1 ++ codes ")\n") ++ z) = λ v z. append_assoc (row_bytes (codes " ") v.0) (decimal v.1 ++ codes ")\n") z in
    let rows = same_row 32 [] (lit< tt) r q _ _ s.0 t.0 (sym (flat (r, p) x) ∙ tails ∙ flat (q, o) y) in
    let phases = same_moment p o x y s.1 t.1 rows.1 in
    λ i. Raster (rows.0 i) (phases i)
same_line (Go m) (Go n) x y s t e =
    let tails : (decimal m ++ codes ")\n") ++ x ≡ (decimal n ++ codes ")\n") ++ y = cc in
    ap (λ (z : ℕ). Go z) (same_moment m n x y s t tails)
same_line (Sporadic r) (Raster q o) x y s t e = differ 1 e refl
same_line (Sporadic r) (Go n) x y s t e = differ 1 e refl
same_line (Raster r p) (Sporadic q) x y s t e = differ 1 e refl
same_line (Raster r p) (Go n) x y s t e = differ 1 e refl
same_line (Go n) (Sporadic r) x y s t e = differ 1 e refl
same_line (Go n) (Raster q o) x y s t e = differ 1 e refl
