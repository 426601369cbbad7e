-- The form of a line: one bracket, and then one of the kinds, which begin apart.

use Rattle.std.proofs.Common.{◌≡◌, ℕ, List, [], ◌++◌, ◌≢◌, length, slice_get, Option, Some, None, cond, eqb, codes, decimal, refl, ◌∙◌, lit<}
use Rattle.stream.specs.declared.Class.TheVariants.{Critical}
use Rattle.stream.specs.declared.Row.{Row}
use Rattle.text.specs.declared.line.Line.{Line}
use Rattle.text.specs.declared.line.Line.TheVariants.{Sporadic, Raster, Go}
use Rattle.text.specs.Lines.{row_bytes, sporadic_bytes, phased_bytes, raster_bytes, item_bytes, SmallRow, SmallPhased, Valid, LineForm}
use Rattle.text.specs.Reading.{closed}
use Rattle.text.specs.Words.{Form, Exactly, Small, Leaves, numbered}
use Rattle.text.proofs.Forms.{Then, leaves_same, leaves_first, leaves_second}
use Rattle.text.proofs.Grammar.{RowForm, zero_small, at_prefix, after_prefix, of_kind, of_none}
use Rattle.text.proofs.Numerals.{Field}
use Rattle.text.proofs.Unique.{apart_row}

abbrev SporadicForm : List ℕ → Type 0
SporadicForm = Form sporadic_bytes SmallRow

abbrev PhasedForm : List ℕ → Type 0
PhasedForm = Form phased_bytes SmallPhased

abbrev RasterForm : List ℕ → Type 0
RasterForm = Form raster_bytes SmallPhased

abbrev MomentForm : List ℕ → Type 0
MomentForm = Form (numbered (codes "go ")) Small

-- every form has a word
some_row : Row
some_row = record { class = Critical; budget = 0; certain = 0; short = 0; deadline = 0; gap = 0 }

some_small : SmallRow some_row
unfolding some_row
some_small = (zero_small, zero_small, zero_small, zero_small, zero_small)

-- ---- a row and its phase

phased_joined : (w : List ℕ) → Then (RowForm (codes " ")) (Field (codes ")\n")) w → PhasedForm w
phased_joined w t =
    ((t.in_front.0, t.in_back.0), (t.in_front.1, t.in_back.1), t.joined ∙ (λ i. t.in_front.2 i ++ t.in_back.2 i))

phased_parts : (w : List ℕ) → PhasedForm w → Then (RowForm (codes " ")) (Field (codes ")\n")) w
phased_parts w (v, s, e) = record { front = row_bytes (codes " ") v.0; back = decimal v.1 ++ codes ")\n"; in_front = (v.0, s.0, refl); in_back = (v.1, s.1, refl); joined = e }

pub at_sporadic : (s : List ℕ) (k : ℕ) → Leaves (Exactly (codes "S ")) s k → Leaves SporadicForm s k
at_sporadic s k l = at_prefix (codes "S ") (row_bytes (codes ")\n")) SmallRow s k some_row some_small l

pub at_raster : (s : List ℕ) (k : ℕ) → Leaves (Exactly (codes "R ")) s k → Leaves RasterForm s k
at_raster s k l = at_prefix (codes "R ") phased_bytes SmallPhased s k (some_row, 0) (some_small, zero_small) l

after_raster : (s t : List ℕ) (k : ℕ) → s ≡ codes "R " ++ t → Leaves (Then (RowForm (codes " ")) (Field (codes ")\n"))) t k → Leaves RasterForm s k
after_raster s t k e l = after_prefix (codes "R ") phased_bytes SmallPhased s t k e (leaves_same _ PhasedForm t k phased_joined phased_parts l)

pub at_numbered : (word s : List ℕ) (k : ℕ) → Leaves (Exactly word) s k → Leaves (Form (numbered word) Small) s k
at_numbered word s k l = at_prefix word (closed (codes ")\n")) Small s k 0 zero_small l

pub after_numbered : (word s t : List ℕ) (k : ℕ) → s ≡ word ++ t → Leaves (Field (codes ")\n")) t k → Leaves (Form (numbered word) Small) s k
after_numbered word s t k e l = after_prefix word (closed (codes ")\n")) Small s t k e l

-- ---- the line

pub at_line : (s : List ℕ) (k : ℕ) → Leaves (Exactly (codes "(")) s k → Leaves LineForm s k
at_line s k l = at_prefix (codes "(") item_bytes Valid s k (Go 0) zero_small l

-- the first byte tells the kind
abbrev ItemKind : Option ℕ → List ℕ → Type 0
ItemKind None = λ w. ⊥
ItemKind (Some b) = cond (eqb b 83) SporadicForm (cond (eqb b 82) RasterForm (cond (eqb b 103) MomentForm (λ w. ⊥)))

item_kind : (l : Line) → Valid l → ItemKind (slice_get (item_bytes l) 0) (item_bytes l)
item_kind (Sporadic r) v = (r, v, refl)
item_kind (Raster r p) v = ((r, p), v, refl)
item_kind (Go m) v = (m, v, refl)

module _ (s t : List ℕ) (k : ℕ) (e : s ≡ codes "(" ++ t) where
  pub line_sporadic : slice_get t 0 ≡ Some 83 → Leaves SporadicForm t k → Leaves LineForm s k
  line_sporadic = of_kind item_bytes Valid s t k e ItemKind item_kind _ (λ w r. (Sporadic r.0, r.1, r.2))

  pub line_raster : slice_get t 0 ≡ Some 82 → Leaves RasterForm t k → Leaves LineForm s k
  line_raster = of_kind item_bytes Valid s t k e ItemKind item_kind _ (λ w r. (Raster r.0.0 r.0.1, r.1, r.2))

  pub line_moment : slice_get t 0 ≡ Some 103 → Leaves MomentForm t k → Leaves LineForm s k
  line_moment = of_kind item_bytes Valid s t k e ItemKind item_kind _ (λ w r. (Go r.0, r.1, r.2))

  pub sporadic_row : {u : List ℕ} → slice_get t 0 ≡ Some 83 → t ≡ codes "S " ++ u → Leaves (RowForm (codes ")\n")) u k → Leaves LineForm s k
  sporadic_row {u} is f l = line_sporadic is (after_prefix (codes "S ") (row_bytes (codes ")\n")) SmallRow t u k f l)

  pub raster_row : {u : List ℕ} → slice_get t 0 ≡ Some 82 → t ≡ codes "R " ++ u → Leaves (RowForm (codes " ")) u k → Leaves LineForm s k
  raster_row {u} is f l = line_raster is (after_raster t u k f (leaves_first (RowForm (codes " ")) (Field (codes ")\n")) u k _ (apart_row 32 [] (lit< tt)) (0, zero_small, refl) l))

  pub raster_phase : {u v : List ℕ} → slice_get t 0 ≡ Some 82 → t ≡ codes "R " ++ u → (r : Row) → SmallRow r × (u ≡ row_bytes (codes " ") r ++ v) → Leaves (Field (codes ")\n")) v k → Leaves LineForm s k
  raster_phase {u} {v} is f r g l =
      line_raster is (after_raster t u k f (leaves_second (RowForm (codes " ")) (Field (codes ")\n")) u (row_bytes (codes " ") r) v k (apart_row 32 [] (lit< tt)) (r, g.0, refl) g.1 l))

  pub moment_number : {u : List ℕ} → slice_get t 0 ≡ Some 103 → t ≡ codes "go " ++ u → Leaves (Field (codes ")\n")) u k → Leaves LineForm s k
  moment_number {u} is f l = line_moment is (after_numbered (codes "go ") t u k f l)

  pub line_kind : slice_get t 0 ≢ Some 83 → slice_get t 0 ≢ Some 82 → slice_get t 0 ≢ Some 103 → k ≡ length t → Leaves LineForm s k
  line_kind sporadic raster moment = of_none item_bytes Valid s t k e 103 _ (Go 0, zero_small, refl) (elim [ Sporadic r ↦ λ _. sporadic | Raster r p ↦ λ _. raster | Go m ↦ λ _. moment ])

-- where each part of a line goes out of shape
pub ruleset line_ends = (at_line, line_sporadic, at_sporadic, sporadic_row, line_raster, at_raster, raster_row, line_moment, at_numbered, moment_number, line_kind)
