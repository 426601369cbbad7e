-- The form of a row, taken apart into its words and fields, and where a text leaves it.

use Rattle.std.proofs.Common.{◌≡◌, ℕ, ◌<◌, ◌≢◌, List, [], ◌∷◌, ◌++◌, length, get_or, slice_get, Option, Some, None, cond, eqb, codes, decimal, sym, refl, ap, ◌∙◌, subst, append_assoc, lit<}
use Rattle.stream.specs.declared.Class.{Class}
use Rattle.stream.specs.declared.Class.TheVariants.{Critical, Background}
use Rattle.stream.specs.declared.Row.{Row}
use Rattle.text.specs.Lines.{class_letter, row_bytes, SmallRow}
use Rattle.text.specs.Reading.{closed}
use Rattle.text.specs.Words.{Form, Exactly, Small, Leaves}
use Rattle.text.proofs.Forms.{Apart, Then, apart_exactly, apart_form, leaves_same, leaves_first, leaves_second, leaves_kind, leaves_here, Told, leaves_told, same_value}
use Rattle.text.proofs.Numerals.{Field, apart_field}

abbrev pub ClassForm : List ℕ → Type 0
ClassForm = Form class_letter (λ _. Unit {0})

abbrev pub RowForm : List ℕ → List ℕ → Type 0
RowForm close = Form (row_bytes close) SmallRow

-- ---- words and fields

exactly_then : (M : List ℕ → Type 0) (bytes rest : List ℕ) → M rest → Then (Exactly bytes) M (bytes ++ rest)
exactly_then M bytes rest m = record { front = bytes; back = rest; in_front = refl; in_back = m; joined = refl }

field_then : (M : List ℕ → Type 0) (n : ℕ) (close rest : List ℕ) → Small n → M rest → Then (Field close) M (decimal n ++ (close ++ rest))
field_then M n close rest s m = record { front = decimal n ++ close; back = rest; in_front = (n, s, refl); in_back = m; joined = sym (append_assoc (decimal n) close rest) }

after_exactly : (M : List ℕ → Type 0) (bytes s t : List ℕ) (k : ℕ) → s ≡ bytes ++ t → Leaves M t k → Leaves (Then (Exactly bytes) M) s k
after_exactly M bytes s t k e l = leaves_second (Exactly bytes) M s bytes t k (apart_exactly bytes) refl e l

after_field : {M : List ℕ → Type 0} {s t : List ℕ} {k : ℕ} (close : List ℕ) (n : ℕ) → get_or close 0 48 < 48 → Small n × (s ≡ closed close n ++ t) → Leaves M t k → Leaves (Then (Field close) M) s k
after_field {M} {s} {t} {k} close n low e l = leaves_second (Field close) M s (decimal n ++ close) t k (apart_field close low) (n, e.0, refl) e.1 l

-- ---- the class

abbrev pub class_told : Told class_letter
class_told = record { value = elim [ None ↦ Background | Some b ↦ cond (eqb b 72) Critical Background ]; tells = elim [ Critical ↦ λ _. refl | Background ↦ λ _. refl ] }

apart_class : Apart ClassForm
apart_class = apart_form class_letter (λ _. Unit {0}) (λ k l x y _ _ e. (same_value class_told k l x y e).0)

pub class_begun : (s : List ℕ) (k : ℕ) → Leaves (Exactly (class_letter (class_told.value (slice_get s 0)))) s k → Leaves ClassForm s k
class_begun = leaves_told class_told

pub class_none : (s : List ℕ) (k : ℕ) → slice_get s 0 ≢ Some 72 → slice_get s 0 ≢ Some 76 → k ≡ length s → Leaves ClassForm s k
class_none s k critical background = leaves_here class_letter (λ _. Unit {0}) s k 76 [] (Background, tt, refl) (elim [ Critical ↦ λ _. critical | Background ↦ λ _. background ])

-- where a class letter goes out of shape
pub ruleset class_ends = (class_begun, class_none)

-- ---- a word in front of a form

module _ {V : Type 0} (pre : List ℕ) (bytes : V → List ℕ) (Good : V → Type 0) where
  prefix_joined : (w : List ℕ) → Then (Exactly pre) (Form bytes Good) w → Form (λ v. pre ++ bytes v) Good w
  prefix_joined w t =
      let e : w ≡ pre ++ t.back = t.joined ∙ ap (λ (x : List ℕ). x ++ t.back) t.in_front in
      (t.in_back.0, t.in_back.1, e ∙ ap (λ (x : List ℕ). pre ++ x) t.in_back.2)

  prefix_parts : (w : List ℕ) → Form (λ v. pre ++ bytes v) Good w → Then (Exactly pre) (Form bytes Good) w
  prefix_parts w (v, g, e) = subst (Then (Exactly pre) (Form bytes Good)) (sym e) (exactly_then (Form bytes Good) pre (bytes v) (v, g, refl))

  pub at_prefix : (s : List ℕ) (k : ℕ) (v : V) → Good v → Leaves (Exactly pre) s k → Leaves (Form (λ v. pre ++ bytes v) Good) s k
  at_prefix s k v g l =
      leaves_same (Then (Exactly pre) (Form bytes Good)) (Form (λ v. pre ++ bytes v) Good) s k prefix_joined prefix_parts
      (leaves_first (Exactly pre) (Form bytes Good) s k (bytes v) (apart_exactly pre) (v, g, refl) l)

  pub after_prefix : (s t : List ℕ) (k : ℕ) → s ≡ pre ++ t → Leaves (Form bytes Good) t k → Leaves (Form (λ v. pre ++ bytes v) Good) s k
  after_prefix s t k e l =
      leaves_same (Then (Exactly pre) (Form bytes Good)) (Form (λ v. pre ++ bytes v) Good) s k prefix_joined prefix_parts
      (after_exactly (Form bytes Good) pre s t k e l)

-- ---- a bracket, and then an item whose first byte tells its kind

module _ {V : Type 0} (item : V → List ℕ) (Good : V → Type 0) (s t : List ℕ) (k : ℕ) (e : s ≡ codes "(" ++ t) where
  after_bracket : Leaves (Form item Good) t k → Leaves (Form (λ v. codes "(" ++ item v) Good) s k
  after_bracket l = after_prefix (codes "(") item Good s t k e l

  pub of_kind : (Kind : Option ℕ → List ℕ → Type 0) → ((v : V) → Good v → Kind (slice_get (item v) 0) (item v)) → (first : Option ℕ) → ((w : List ℕ) → Kind first w → Form item Good w) → slice_get t 0 ≡ first → Leaves (Kind first) t k → Leaves (Form (λ v. codes "(" ++ item v) Good) s k
  of_kind Kind kind first to is l = after_bracket (leaves_kind item Good Kind kind first t k is to l)

  pub of_none : (b : ℕ) (w : List ℕ) → Form item Good (b ∷ w) → ((v : V) → Good v → slice_get t 0 ≢ slice_get (item v) 0) → k ≡ length t → Leaves (Form (λ v. codes "(" ++ item v) Good) s k
  of_none b w some none count = after_bracket (leaves_here item Good t k b w some none count)

-- ---- the row, up to the bytes that close it

-- each part of a row can be completed
pub zero_small : Small 0
zero_small = lit< tt

unfield : (M : List ℕ → Type 0) (close w : List ℕ) → Then (Field close) M w → (n : ℕ) × (rest : List ℕ) × Small n × M rest × (w ≡ decimal n ++ (close ++ rest))
unfield M close w t =
    (t.in_front.0, t.back, t.in_front.1, t.in_back, t.joined ∙ ap (λ (x : List ℕ). x ++ t.back) t.in_front.2 ∙ append_assoc (decimal t.in_front.0) close t.back)

-- numbers, each closed by bytes of its own, and a last one
abbrev pub Numbers : List (List ℕ) → List ℕ → List ℕ → Type 0
Numbers [] last = Field last
Numbers (close ∷ closes) last = Then (Field close) (Numbers closes last)

some_numbers : (closes : List (List ℕ)) (last : List ℕ) → (w : List ℕ) × Numbers closes last w
some_numbers [] last = (_, (0, zero_small, refl))
some_numbers (close ∷ closes) last = (_, field_then (Numbers closes last) 0 close _ zero_small (some_numbers closes last).1)

at_field : {s : List ℕ} {k : ℕ} (close : List ℕ) (closes : List (List ℕ)) (last : List ℕ) → get_or close 0 48 < 48 → Leaves (Field close) s k → Leaves (Numbers (close ∷ closes) last) s k
at_field {s} {k} close closes last low l = leaves_first (Field close) (Numbers closes last) s k _ (apart_field close low) (some_numbers closes last).1 l

-- what closes the numbers of a row from its budget on, from the next on, and so on
abbrev from_deadline : List (List ℕ)
from_deadline = codes ") " ∷ []

abbrev from_short : List (List ℕ)
from_short = codes " " ∷ from_deadline

abbrev from_certain : List (List ℕ)
from_certain = codes ") (" ∷ from_short

abbrev from_budget : List (List ℕ)
from_budget = codes " " ∷ from_certain

abbrev pub FromBracket : List ℕ → List ℕ → Type 0
FromBracket close = Then (Exactly (codes " (")) (Numbers from_budget close)

abbrev pub FromClass : List ℕ → List ℕ → Type 0
FromClass close = Then ClassForm (FromBracket close)

module _ (close : List ℕ) where
  row_parts : (w : List ℕ) → RowForm close w → FromClass close w
  row_parts w (r, s, e) =
      subst (FromClass close) (sym e)
      (record {
        front = class_letter r.class;
        back = _;
        in_front = (r.class, tt, refl);
        in_back = exactly_then (Numbers from_budget close) (codes " (") _
            (field_then (Numbers from_certain close) r.budget (codes " ") _ s.0
            (field_then (Numbers from_short close) r.certain (codes ") (") _ s.1
            (field_then (Numbers from_deadline close) r.short (codes " ") _ s.2
            (field_then (Field close) r.deadline (codes ") ") _ s.3
            (r.gap, s.4, refl)))));
        joined = refl;
      })

  row_joined : (w : List ℕ) → FromClass close w → RowForm close w
  row_joined w class =
      let bracket = class.in_back in
      let budget = unfield (Numbers from_certain close) (codes " ") _ bracket.in_back in
      let certain = unfield (Numbers from_short close) (codes ") (") _ budget.3 in
      let short = unfield (Numbers from_deadline close) (codes " ") _ certain.3 in
      let deadline = unfield (Field close) (codes ") ") _ short.3 in
      let gap = deadline.3 in
      let r : Row = record { class = class.in_front.0; budget = budget.0; certain = certain.0; short = short.0; deadline = deadline.0; gap = gap.0 } in
      let e2 : w ≡ class_letter r.class ++ class.back = class.joined ∙ ap (λ (x : List ℕ). x ++ class.back) class.in_front.2 in
      let e3 : class.back ≡ codes " (" ++ bracket.back = bracket.joined ∙ ap (λ (x : List ℕ). x ++ bracket.back) bracket.in_front in
      let e4 = budget.4 in
      let e5 = certain.4 in
      let e6 = short.4 in
      let e7 = deadline.4 in
      let e8 = gap.2 in
      (r, (budget.2, certain.2, short.2, deadline.2, gap.1), (cc))

  leaves_row : (s : List ℕ) (k : ℕ) → Leaves (FromClass close) s k → Leaves (RowForm close) s k
  leaves_row s k l = leaves_same (FromClass close) (RowForm close) s k row_joined row_parts l

  some_bracket : (w : List ℕ) × FromBracket close w
  some_bracket = (_, exactly_then (Numbers from_budget close) (codes " (") _ (some_numbers from_budget close).1)

  pub at_class : (s : List ℕ) (k : ℕ) → Leaves ClassForm s k → Leaves (RowForm close) s k
  at_class s k l = leaves_row s k (leaves_first ClassForm (FromBracket close) s k some_bracket.0 apart_class some_bracket.1 l)

  after_class : (class : Class) (s u : List ℕ) (k : ℕ) → Unit {0} × (s ≡ class_letter class ++ u) → Leaves (FromBracket close) u k → Leaves (RowForm close) s k
  after_class class s u k f l = leaves_row s k (leaves_second ClassForm (FromBracket close) s (class_letter class) u k apart_class (class, tt, refl) f.1 l)

  pub at_bracket : (class : Class) (s u : List ℕ) (k : ℕ) → Unit {0} × (s ≡ class_letter class ++ u) → Leaves (Exactly (codes " (")) u k → Leaves (RowForm close) s k
  at_bracket class s u k f l = after_class class s u k f (leaves_first (Exactly (codes " (")) (Numbers from_budget close) u k _ (apart_exactly _) (some_numbers from_budget close).1 l)

  module _ (class : Class) {s u v : List ℕ} (f : Unit {0} × (s ≡ class_letter class ++ u)) (g : u ≡ codes " (" ++ v) where
    after_opening : (k : ℕ) → Leaves (Numbers from_budget close) v k → Leaves (RowForm close) s k
    after_opening k l = after_class class s u k f (after_exactly (Numbers from_budget close) (codes " (") u v k g l)

    -- one number after another
    pub at_budget : (k : ℕ) → Leaves (Field (codes " ")) v k → Leaves (RowForm close) s k
    at_budget k l = after_opening k (at_field (codes " ") from_certain close (lit< tt) l)

    module _ {budget : ℕ} {w : List ℕ} (b : Small budget × (v ≡ closed (codes " ") budget ++ w)) where
      pub at_certain : (k : ℕ) → Leaves (Field (codes ") (")) w k → Leaves (RowForm close) s k
      at_certain k l = after_opening k (after_field (codes " ") budget (lit< tt) b (at_field (codes ") (") from_short close (lit< tt) l))

      module _ {certain : ℕ} {x : List ℕ} (c : Small certain × (w ≡ closed (codes ") (") certain ++ x)) where
        pub at_short : (k : ℕ) → Leaves (Field (codes " ")) x k → Leaves (RowForm close) s k
        at_short k l = after_opening k (after_field (codes " ") budget (lit< tt) b (after_field (codes ") (") certain (lit< tt) c (at_field (codes " ") from_deadline close (lit< tt) l)))

        module _ {short : ℕ} {y : List ℕ} (h : Small short × (x ≡ closed (codes " ") short ++ y)) where
          pub at_deadline : (k : ℕ) → Leaves (Field (codes ") ")) y k → Leaves (RowForm close) s k
          at_deadline k l = after_opening k (after_field (codes " ") budget (lit< tt) b (after_field (codes ") (") certain (lit< tt) c (after_field (codes " ") short (lit< tt) h (at_field (codes ") ") [] close (lit< tt) l))))

          pub at_gap : {deadline : ℕ} {z : List ℕ} → Small deadline × (y ≡ closed (codes ") ") deadline ++ z) → (k : ℕ) → Leaves (Field close) z k → Leaves (RowForm close) s k
          at_gap {deadline} d k l = after_opening k (after_field (codes " ") budget (lit< tt) b (after_field (codes ") (") certain (lit< tt) c (after_field (codes " ") short (lit< tt) h (after_field (codes ") ") deadline (lit< tt) d l))))
