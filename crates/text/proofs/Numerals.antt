-- Digits at the front of a text, the number that they write, and where a text leaves the form of a number.

use Rattle.std.proofs.Common.{◌≡◌, ℕ, zero, suc, ◌+◌, ◌^◌, ◌<◌, ◌≤◌, ◌⊎◌, ◌≢◌, min, Bool, true, false, cond, List, [], ◌∷◌, ◌++◌, length, get_or, slice_get, Option, Some, Ok, Err, Result, take, drop, decimal, sym, refl, ap, ◌∙◌, subst, inl, inr, ⊎_elim, append_assoc, add-zero, add-one, arith, lit<, length-append}
use Rattle.std.proofs.lemmas.Fmt.{digits_decimal, decimal-digits_value, decimal_digit, decimal_nonempty, first_decimal, length-decimal-le, decimal_injective, IsAscii-from_digits}
use Rattle.std.proofs.lemmas.Option.{unwrap_or-slice_get}
use Rattle.std.specs.Option.{unwrap_or}
use Rattle.std.specs.Result.{OkIff}
use Rattle.std.proofs.lemmas.Int.Digits.{digits_more, digits_value_more}
use Rattle.std.proofs.lemmas.List.{length-take-le, get_or_past, get_or-take, get_or-drop, take-append-drop}
use Rattle.std.proofs.lemmas.Str.Parse.{IsNumeralModel, digits_value_short, numerals_by_value, tells_digits, digit_from_value, parse_digits}
use Rattle.std.proofs.lemmas.Str.{digit_value_digit, IsUtf8-from_ascii}
use Rattle.std.proofs.lemmas.Bool.{cases_lt}
use Rattle.std.proofs.lemmas.Bool.Decides.{nat_tests}
use Rattle.std.proofs.lemmas.List.Sums.{prefix_len-le-length, prefix_len_passes, prefix_len_stops}
use Rattle.std.specs.Float.Numeral.{digits_len}
use Rattle.std.specs.Str.Parse.{AllDigits, digits_value, ParsesUnsigned}
use Rattle.std.specs.Int.{IsInRange}
use Rattle.std.specs.Char.{digit_value, is_ascii_digit}
use Rattle.text.specs.Reading.{Numeral, Counted, closed}
use Rattle.text.specs.Words.{Form, Exactly, Small, Leaves}
use Rattle.text.proofs.Forms.{Apart, leaves_here}

abbrev pub Field : List ℕ → List ℕ → Type 0
Field close = Form (closed close) Small

own : IsNumeralModel (AllDigits 10) (digits_value 10)
own = numerals_by_value (AllDigits 10) tells_digits

-- what is_ascii_digit says, as a fact
is_digit : (c : ℕ) → is_ascii_digit c ≡ true → IsInRange 48 57 c
is_digit c e = grind (arith, nat_tests)

not_digit : (c : ℕ) → is_ascii_digit c ≡ false → IsInRange 48 57 c → ⊥
not_digit c e h = grind (arith, nat_tests)

digits_front : (xs : List ℕ) (i : ℕ) → i ≤ digits_len xs → AllDigits 10 (take i xs)
digits_front xs zero h = tt
digits_front xs (suc i) h =
    let lt : i < digits_len xs = omega arith in
    let within : i < length xs = omega (arith, prefix_len-le-length is_ascii_digit xs) in
    let value : digit_value (get_or xs i 0) + 48 ≡ get_or xs i 0 = digit_value_digit _ (is_digit _ (prefix_len_passes is_ascii_digit xs i 0 lt)) in
    let digit : IsInRange 48 57 (get_or xs i 0) = is_digit _ (prefix_len_passes is_ascii_digit xs i 0 lt) in
    subst (λ (n : ℕ). AllDigits 10 (take n xs)) (add-one i) (digits_more 10 xs i within (digits_front xs i (omega arith)) (omega (arith, value, digit)))

-- how many digits stand at the front of the first n bytes
pub digits_len_take : (n : ℕ) (xs : List ℕ) → digits_len (take n xs) ≡ min (digits_len xs) n
digits_len_take zero xs = omega arith
digits_len_take (suc n) [] = omega arith
digits_len_take (suc n) (x ∷ xs) = next (is_ascii_digit x) (digits_len (take n xs)) (digits_len xs) (digits_len_take n xs)
  where
    next : (b : Bool) (s l : ℕ) → s ≡ min l n → cond b (1 + s) 0 ≡ min (cond b (1 + l) 0) (suc n)
    next true s l e = omega arith
    next false s l e = omega arith

first_is : (text : List ℕ) (b : ℕ) → slice_get text 0 ≡ Some b → get_or text 0 0 ≡ b
first_is text b e = sym (unwrap_or-slice_get text 0 0) ∙ ap (λ (o : Option ℕ). unwrap_or o 0) e

-- as many digits as there are, up to the most that a number has
module _ (text : List ℕ) (most len : ℕ) (is : len ≡ min (digits_len text) most) (kind : ((most ≡ 1) × (get_or text 0 0 ≡ 48)) ⊎ ((most ≡ 13) × (get_or text 0 0 ≢ 48))) where
  full : IsInRange 48 57 (get_or text len 0) → (len ≡ 13) ⊎ ((len ≡ 1) × (get_or text 0 0 ≡ 48))
  full digit = ⊎_elim (λ more. ⊎_elim (λ k. inr (omega (arith, k.0), k.1)) (λ k. inl (omega (arith, k.0))) kind) (λ none. absurd (over none)) (cases_lt len (digits_len text))
    where
      over : digits_len text ≤ len → ⊥
      over none =
          let last : len ≡ digits_len text = omega arith in
          ⊎_elim
          (λ (lt : len < length text). not_digit _ (rw last (prefix_len_stops is_ascii_digit text 0 (omega arith))) digit)
          (λ (past : length text ≤ len). omega (arith, digit.0, get_or_past text len 0 past))
          (cases_lt len (length text))

  numeral : Numeral text len
  numeral = record {
    within = omega (arith, prefix_len-le-length is_ascii_digit text);
    short = ⊎_elim (λ k. omega (arith, k.0)) (λ k. omega (arith, k.0)) kind;
    digits = digits_front text len (omega arith);
    lone = λ h. ⊎_elim (λ k. omega (arith, k.0)) (λ k. absurd (k.1 h)) kind;
    full = full;
  }

pub numeral_alone : (text : List ℕ) → slice_get text 0 ≡ Some 48 → Numeral text (min (digits_len text) 1)
numeral_alone text first = numeral text 1 _ refl (inl (refl, first_is text 48 first))

pub numeral_long : (text : List ℕ) → slice_get text 0 ≢ Some 48 → Numeral text (min (digits_len text) 13)
numeral_long [] none = numeral [] 13 _ refl (inr (refl, λ e. omega arith))
numeral_long (c ∷ text) other = numeral (c ∷ text) 13 _ refl (inr (refl, λ e. other (ap (λ (b : ℕ). Some b) e)))

-- at most 13 digits are text, and are read as a number where there is one
pub parsed : {E : Type 0} (ds : List ℕ) (r : Result ℕ E) → ParsesUnsigned 64 10 ds r → AllDigits 10 ds → length ds ≤ 13 → OkIff r (0 < length ds) (digits_value 10 ds)
parsed {E} ds (Ok n) parses digits short = let k = parse_digits own {E = E} 64 ds (Ok n) parses digits in (k.0.0, k.1)
parsed ds (Err e) parses digits short = λ some. parse_digits own 64 ds (Err e) parses digits (some, omega (arith, digits_value_short own ds 13 digits short))

pub ruleset digits_parse = (IsUtf8-from_ascii, IsAscii-from_digits, parsed)

-- the digits at the front that are one number are what is written of their value
module _ (text : List ℕ) (len : ℕ) (num : Numeral text len) where
  front_len : length (take len text) ≡ len
  front_len = length-take-le len text num.within

  value_small : Small (digits_value 10 (take len text))
  value_small = digits_value_short own (take len text) 13 num.digits (omega (arith, front_len, num.short))

  value_zero : (len ≡ 1) × (get_or text 0 0 ≡ 48) → digits_value 10 (take len text) ≡ 0
  value_zero k = omega (arith, ap (λ (n : ℕ). digits_value 10 (take n text)) k.0, digits_value_more 10 text 0 (omega (arith, k.0, num.within)), ap digit_value k.1)

  written : 0 < len → decimal (digits_value 10 (take len text)) ≡ take len text
  written some =
      decimal-digits_value own (take len text) num.digits (omega (arith, front_len))
      (λ e. let one : len ≤ 1 = num.lone (sym (get_or-take len text 0 0 some) ∙ e) in omega (arith, front_len))
      (omega (arith, value_small))

  pub counted : 0 < len → Counted text (digits_value 10 (take len text)) (drop len text)
  counted some = record {
    whole = rw (written some) (sym (take-append-drop len text));
    small = value_small;
    full = λ digit. ⊎_elim (λ k. inr (ap length (written some) ∙ front_len ∙ k)) (λ k. inl (value_zero k)) (num.full (rw (get_or-drop, add-zero) at digit));
  }

-- two runs of digits that begin one text: they end together, or one goes on where the other ends
split : (ds es : List ℕ) (k h : ℕ) (x y : List ℕ) → AllDigits 10 ds → AllDigits 10 es → k < 48 → ds ++ k ∷ x ≡ es ++ h ∷ y → ((ds ≡ es) × (k ∷ x ≡ h ∷ y)) ⊎ ((q : List ℕ) × (ds ≡ es ++ h ∷ q))
split [] [] k h x y p q low e = inl (refl, e)
split (d ∷ ds) [] k h x y p q low e = inr (ds, (cc))
split [] (d ∷ es) k h x y p q low e =
    let same : k ≡ d = cc in
    let z : ⊥ = omega (arith, digit_from_value d q.0) in
    absurd z
split (d ∷ ds) (f ∷ es) k h x y p q low e =
    let same : d ≡ f = cc in
    let tail : ds ++ k ∷ x ≡ es ++ h ∷ y = cc in
    ⊎_elim (λ l. inl ((let m = l.0 in cc), l.1)) (λ r. inr (r.0, (let m = r.1 in cc))) (split ds es k h x y p.1 q.1 low tail)

fits : (n : ℕ) → Small n → n < 2 ^ 64
fits n s = omega arith

digits_of : (n : ℕ) → Small n → AllDigits 10 (decimal n)
digits_of n s = digits_decimal own n (fits n s)

digit_after : (ds : List ℕ) (h : ℕ) (q : List ℕ) → AllDigits 10 (ds ++ h ∷ q) → IsInRange 48 57 h
digit_after [] h q p = digit_from_value h p.0
digit_after (d ∷ ds) h q p = digit_after ds h q p.1

pub same_number : (m n : ℕ) (k : ℕ) (x y : List ℕ) → Small m → Small n → k < 48 → decimal m ++ k ∷ x ≡ decimal n ++ k ∷ y → (m ≡ n) × (x ≡ y)
same_number m n k x y sm sn low e =
    ⊎_elim (λ l. (decimal_injective m n (fits m sm) (fits n sn) l.0, (let t = l.1 in cc)))
    (λ r. let z : ⊥ = omega (arith, digit_after (decimal n) k r.0 (subst (λ (w : List ℕ). AllDigits 10 w) r.1 (digits_of m sm))) in absurd z)
    (split (decimal m) (decimal n) k k x y (digits_of m sm) (digits_of n sn) low e)

-- bytes that close a number begin with one that is no digit
cons_close : (close : List ℕ) → get_or close 0 48 < 48 → (k : ℕ) × (ks : List ℕ) × (close ≡ k ∷ ks) × (k < 48)
cons_close [] h = let z : ⊥ = omega arith in absurd z
cons_close (k ∷ ks) h = (k, ks, refl, h)

pub apart_field : (close : List ℕ) → get_or close 0 48 < 48 → Apart (Field close)
apart_field close low u v x y in_u in_v e =
    let k = cons_close close low in
    let at : (n : ℕ) (z : List ℕ) → (decimal n ++ close) ++ z ≡ decimal n ++ k.0 ∷ (k.1 ++ z) =
    λ n z. append_assoc (decimal n) close z ∙ ap (λ (w : List ℕ). decimal n ++ (w ++ z)) k.2
    in
    let whole : decimal in_u.0 ++ k.0 ∷ (k.1 ++ x) ≡ decimal in_v.0 ++ k.0 ∷ (k.1 ++ y) =
    sym (at in_u.0 x) ∙ ap (λ (w : List ℕ). w ++ x) (sym in_u.2) ∙ e ∙ ap (λ (w : List ℕ). w ++ y) in_v.2 ∙ at in_v.0 y
    in
    let same = same_number in_u.0 in_v.0 k.0 _ _ in_u.1 in_v.1 k.3 whole in
    in_u.2 ∙ ap (λ (n : ℕ). decimal n ++ close) same.0 ∙ sym in_v.2

zero_or_more : (m : ℕ) → (m ≡ 0) ⊎ (0 < m)
zero_or_more zero = inl refl
zero_or_more (suc m) = inr (omega arith)

-- no number is longer than one that is full
not_longer : (m n h : ℕ) (q : List ℕ) → Small m → (n ≡ 0) ⊎ (length (decimal n) ≡ 13) → decimal m ≡ decimal n ++ h ∷ q → ⊥
not_longer m n h q s (inr long) e =
    omega (arith, long, ap length e, length-append (decimal n) (h ∷ q), length-decimal-le 13 m (lit< tt) s (fits m s))
not_longer m n h q s (inl none) e =
    let zero_is : decimal n ≡ 48 ∷ [] = ap decimal none ∙ decimal_digit 0 (lit< tt) in
    let shape : decimal m ≡ 48 ∷ h ∷ q = e ∙ ap (λ (w : List ℕ). w ++ h ∷ q) zero_is in
    let head : get_or (decimal m) 0 0 ≡ 48 = ap (λ (w : List ℕ). get_or w 0 0) shape in
    ⊎_elim
    (λ (z : m ≡ 0). let short : decimal m ≡ 48 ∷ [] = ap decimal z ∙ decimal_digit 0 (lit< tt) in omega (arith, ap length (sym short ∙ shape)))
    (λ (p : 0 < m). omega (arith, head, first_decimal m p (fits m s)))
    (zero_or_more m)

heads : (r : List ℕ) (c : ℕ) (w more : List ℕ) → (h : ℕ) × (y : List ℕ) × (z : List ℕ) × (r ++ c ∷ w ≡ h ∷ y) × (r ++ c ∷ more ≡ h ∷ z)
heads [] c w more = (c, w, more, refl, refl)
heads (a ∷ r) c w more = (a, r ++ c ∷ w, r ++ c ∷ more, refl, refl)

-- a number that is full, and then not the bytes that close it
pub leaves_closing : (close s t : List ℕ) (n left : ℕ) → get_or close 0 48 < 48 → Counted s n t → Leaves (Exactly close) t left → Leaves (Field close) s left
leaves_closing close s t n left low num l =
    let r : List ℕ = l.read in
    let k = cons_close close low in
    record {
      read = decimal n ++ r;
      unread = l.unread;
      whole = num.whole ∙ ap (λ (w : List ℕ). decimal n ++ w) l.whole ∙ sym (append_assoc (decimal n) r l.unread);
      count = l.count;
      halts = record {
        due = (l.halts.due.0, l.halts.due.1, (n, num.small, append_assoc (decimal n) r _ ∙ ap (λ (w : List ℕ). decimal n ++ w) l.halts.due.2));
        dead = λ c more w e m.
            let g = heads r c w more in
            let whole : decimal m.0 ++ k.0 ∷ k.1 ≡ decimal n ++ g.0 ∷ g.1 =
            ap (λ (x : List ℕ). decimal m.0 ++ x) (sym k.2) ∙ sym m.2 ∙ append_assoc (decimal n) r (c ∷ w) ∙ ap (λ (x : List ℕ). decimal n ++ x) g.3
            in
            let next : t ≡ g.0 ∷ g.2 = l.whole ∙ ap (λ (x : List ℕ). r ++ x) e ∙ g.4 in
            ⊎_elim (λ a. l.halts.dead c more w e (g.3 ∙ sym a.1 ∙ sym k.2))
            (λ b. let digit : IsInRange 48 57 g.0 = digit_after (decimal n) g.0 b.0 (subst (λ (x : List ℕ). AllDigits 10 x) b.1 (digits_of m.0 m.1)) in
            not_longer m.0 n g.0 b.0 m.1 (num.full (subst (λ (x : ℕ). IsInRange 48 57 x) (ap (λ (x : List ℕ). get_or x 0 0) (sym next)) digit)) b.1)
            (split (decimal m.0) (decimal n) k.0 g.0 k.1 g.1 (digits_of m.0 m.1) (digits_of n num.small) k.3 whole);
      };
    }

first_digit : (n : ℕ) → Small n → (w x : List ℕ) → w ≡ decimal n ++ x → IsInRange 48 57 (get_or w 0 0)
first_digit n s w x e = subst (λ (v : List ℕ). IsInRange 48 57 (get_or v 0 0)) (sym e) (by (decimal n) (digits_of n s) (decimal_nonempty n (fits n s)))
  where
    by : (ds : List ℕ) → AllDigits 10 ds → 0 < length ds → IsInRange 48 57 (get_or (ds ++ x) 0 0)
    by [] p some = let z : ⊥ = omega arith in absurd z
    by (d ∷ ds) p some = digit_from_value d p.0

-- no digit where a number is due
pub leaves_number : (close s : List ℕ) (left : ℕ) → (IsInRange 48 57 (get_or s 0 0) → ⊥) → left ≡ length s → Leaves (Field close) s left
leaves_number close s left none count =
    leaves_here (closed close) Small s left 48 close (0, lit< tt, ap (λ (w : List ℕ). w ++ close) (sym (decimal_digit 0 (lit< tt))))
    (λ n small h. none (subst (λ (x : ℕ). IsInRange 48 57 x) (sym (unwrap_or-slice_get (closed close n) 0 0) ∙ ap (λ (o : Option ℕ). unwrap_or o 0) (sym h) ∙ unwrap_or-slice_get s 0 0) (first_digit n small (closed close n) close refl))) count
