-- Where a text leaves a form, from where it leaves a part of the form.

use Rattle.std.proofs.Common.{◌≡◌, ℕ, ◌+◌, ◌<◌, ◌⊎◌, ◌≢◌, List, [], ◌∷◌, ◌++◌, length, get_or, slice_get, Option, take, drop, sym, refl, ap, ◌∙◌, subst, inl, inr, ⊎_elim, append_assoc, append-nil, arith, length-append}
use Rattle.std.proofs.lemmas.List.{append_cancel_left, take-append-drop, drop_more}
use Rattle.text.specs.Words.{Form, Exactly, Leaves}

-- No word goes on to be another word.
abbrev pub Apart : (List ℕ → Type 0) → Type 0
Apart L = (u v x y : List ℕ) → L u → L v → u ++ x ≡ v ++ y → u ≡ v

-- A word of the first form, and then one of the second.
pub record Then (L M : List ℕ → Type 0) (w : List ℕ) : Type 0 where
  pub front : List ℕ
  pub back : List ℕ
  pub in_front : L front
  pub in_back : M back
  pub joined : w ≡ front ++ back

-- one of two fronts of a text is as long as the other
cut : (p v : List ℕ) (c : ℕ) (w y : List ℕ) → p ++ c ∷ w ≡ v ++ y → ((q : List ℕ) × (v ≡ p ++ c ∷ q)) ⊎ ((q : List ℕ) × (p ≡ v ++ q))
cut [] [] c w y e = inr ([], refl)
cut [] (d ∷ v) c w y e = inl (v, cc)
cut (a ∷ p) [] c w y e = inr (a ∷ p, refl)
cut (a ∷ p) (d ∷ v) c w y e =
    let t : p ++ c ∷ w ≡ v ++ y = cc in
    let h : a ≡ d = cc in
    ⊎_elim (λ l. inl (l.0, (let k = l.1 in cc))) (λ r. inr (r.0, (let k = r.1 in cc))) (cut p v c w y t)

-- a front that a word goes on from holds no other word
no_word_inside : (L : List ℕ → Type 0) (p f q z : List ℕ) (b : ℕ) → Apart L → L f → L (p ++ b ∷ z) → p ≡ f ++ q → ⊥
no_word_inside L p f q z b apart in_f word e =
    let whole : (p ++ b ∷ z) ++ [] ≡ f ++ (q ++ b ∷ z) = append-nil (p ++ b ∷ z) ∙ ap (λ (x : List ℕ). x ++ b ∷ z) e ∙ append_assoc f q (b ∷ z) in
    let same : p ++ b ∷ z ≡ f = apart (p ++ b ∷ z) f [] (q ++ b ∷ z) word in_f whole in
    omega (arith, ap length same, ap length e, length-append p (b ∷ z), length-append f q)

pub apart_exactly : (bytes : List ℕ) → Apart (Exactly bytes)
apart_exactly bytes u v x y p q e = p ∙ sym q

same_head : (p : List ℕ) (c : ℕ) (x y : List ℕ) → slice_get (p ++ c ∷ x) 0 ≡ slice_get (p ++ c ∷ y) 0
same_head [] c x y = refl
same_head (a ∷ p) c x y = refl

-- of a form whose words that begin as the text does are those of a part, the text leaves the part where it leaves the form
pub leaves_by_first : (L M : List ℕ → Type 0) (s : List ℕ) (n : ℕ) → ((w : List ℕ) → L w → M w) → ((w : List ℕ) → M w → slice_get w 0 ≡ slice_get s 0 → L w) → Leaves L s n → Leaves M s n
leaves_by_first L M s n to only l = record {
  read = l.read;
  unread = l.unread;
  whole = l.whole;
  count = l.count;
  halts = record {
    due = (l.halts.due.0, l.halts.due.1, to _ l.halts.due.2);
    dead = λ c rest w e m.
        let whole : l.read ++ c ∷ rest ≡ s = sym (l.whole ∙ ap (λ (x : List ℕ). l.read ++ x) e) in
        l.halts.dead c rest w e (only _ m (same_head l.read c w rest ∙ ap (λ (x : List ℕ). slice_get x 0) whole));
  };
}

pub leaves_same : (L M : List ℕ → Type 0) (s : List ℕ) (n : ℕ) → ((w : List ℕ) → L w → M w) → ((w : List ℕ) → M w → L w) → Leaves L s n → Leaves M s n
leaves_same L M s n to from l = leaves_by_first L M s n to (λ w m _. from w m) l

-- of a form whose values are of a kind that their first byte tells, the text leaves the kind where it leaves the form
pub leaves_kind : {V : Type 0} (bytes : V → List ℕ) (Good : V → Type 0) (Kind : Option ℕ → List ℕ → Type 0) → ((v : V) → Good v → Kind (slice_get (bytes v) 0) (bytes v)) → (first : Option ℕ) (s : List ℕ) (n : ℕ) → slice_get s 0 ≡ first → ((w : List ℕ) → Kind first w → Form bytes Good w) → Leaves (Kind first) s n → Leaves (Form bytes Good) s n
leaves_kind bytes Good Kind kind first s n is to l =
    leaves_by_first (Kind first) (Form bytes Good) s n to
    (λ w m h. subst (λ (o : Option ℕ). Kind o w) (h ∙ is) (subst (λ (x : List ℕ). Kind (slice_get x 0) x) (sym m.2) (kind m.0 m.1))) l

pub leaves_first : (L M : List ℕ → Type 0) (s : List ℕ) (n : ℕ) (m : List ℕ) → Apart L → M m → Leaves L s n → Leaves (Then L M) s n
leaves_first L M s n m apart in_m l =
    let p : List ℕ = l.read in
    let b : ℕ = l.halts.due.0 in
    let z : List ℕ = l.halts.due.1 in
    let word : L (p ++ b ∷ z) = l.halts.due.2 in
    record {
      read = p;
      unread = l.unread;
      whole = l.whole;
      count = l.count;
      halts = record {
        due = (b, z ++ m, record { front = p ++ b ∷ z; back = m; in_front = word; in_back = in_m; joined = sym (append_assoc p (b ∷ z) m) });
        dead = λ c more w e t.
            ⊎_elim (λ i. l.halts.dead c more i.0 e (subst L i.1 t.in_front)) (λ r. no_word_inside L p t.front r.0 z b apart t.in_front word r.1) (cut p t.front c w t.back t.joined);
      };
    }

pub leaves_second : (L M : List ℕ → Type 0) (s u t : List ℕ) (n : ℕ) → Apart L → L u → s ≡ u ++ t → Leaves M t n → Leaves (Then L M) s n
leaves_second L M s u t n apart in_u e l =
    let p : List ℕ = l.read in
    record {
      read = u ++ p;
      unread = l.unread;
      whole = e ∙ ap (λ (x : List ℕ). u ++ x) l.whole ∙ sym (append_assoc u p l.unread);
      count = l.count;
      halts = record {
        due = (l.halts.due.0, l.halts.due.1, record { front = u; back = p ++ l.halts.due.0 ∷ l.halts.due.1; in_front = in_u; in_back = l.halts.due.2; joined = append_assoc u p _ });
        dead = λ c more w h m.
            let whole : u ++ (p ++ c ∷ w) ≡ m.front ++ m.back = sym (append_assoc u p (c ∷ w)) ∙ m.joined in
            let same : u ≡ m.front = apart u m.front (p ++ c ∷ w) m.back in_u m.in_front whole in
            let tail : p ++ c ∷ w ≡ m.back = append_cancel_left u (p ++ c ∷ w) m.back (whole ∙ ap (λ (x : List ℕ). x ++ m.back) (sym same)) in
            l.halts.dead c more w h (subst M (sym tail) m.in_back);
      };
    }

-- the very first byte begins no word
pub leaves_here : {V : Type 0} (bytes : V → List ℕ) (Good : V → Type 0) (s : List ℕ) (n b : ℕ) (z : List ℕ) → Form bytes Good (b ∷ z) → ((v : V) → Good v → slice_get s 0 ≢ slice_get (bytes v) 0) → n ≡ length s → Leaves (Form bytes Good) s n
leaves_here bytes Good s n b z word none count =
    let first : List ℕ → Option ℕ = λ x. slice_get x 0 in
    let others : (c : ℕ) (more w : List ℕ) → s ≡ c ∷ more → Form bytes Good (c ∷ w) → ⊥ = λ c more w e m. none m.0 m.1 (ap first e ∙ ap first m.2) in
    record { read = []; unread = s; whole = refl; count = sym count; halts = record { due = (b, z, word); dead = others } }

-- the byte at i of the bytes that are due does not come
pub leaves_exactly : (bytes s t : List ℕ) (i n : ℕ) → i < length bytes → s ≡ take i bytes ++ t → (length t ≡ 0) ⊎ (get_or t 0 0 ≢ get_or bytes i 0) → n ≡ length t → Leaves (Exactly bytes) s n
leaves_exactly bytes s t i n lt e missing count =
    let split : take i bytes ++ (get_or bytes i 0 ∷ drop (i + 1) bytes) ≡ bytes = rw (← drop_more bytes i 0 lt) (take-append-drop i bytes) in
    record {
      read = take i bytes;
      unread = t;
      whole = e;
      count = sym count;
      halts = record {
        due = (get_or bytes i 0, drop (i + 1) bytes, split);
        dead = λ c more w h m.
            let tails : c ∷ w ≡ get_or bytes i 0 ∷ drop (i + 1) bytes = append_cancel_left (take i bytes) _ _ (m ∙ sym split) in
            let same : c ≡ get_or bytes i 0 = cc in
            ⊎_elim (λ none. omega (arith, none, ap length h)) (λ other. other (ap (λ (x : List ℕ). get_or x 0 0) h ∙ same)) missing;
      };
    }

-- a text that begins with a word does not leave the form
pub stays : (L : List ℕ → Type 0) (s w more : List ℕ) (k : ℕ) → Apart L → L w → s ≡ w ++ more → Leaves L s k → ⊥
stays L s w more k apart in_w e l = by l.unread refl
  where
    p : List ℕ
    p = l.read

    longer : (q : List ℕ) → p ≡ w ++ q → ⊥
    longer q h = no_word_inside L p w q l.halts.due.1 l.halts.due.0 apart in_w l.halts.due.2 h

    by : (u : List ℕ) → l.unread ≡ u → ⊥
    by [] h = longer more (sym (append-nil p) ∙ ap (λ (x : List ℕ). p ++ x) (sym h) ∙ sym l.whole ∙ e)
    by (c ∷ u) h =
        ⊎_elim (λ i. l.halts.dead c u i.0 h (subst L i.1 in_w)) (λ r. longer r.0 r.1)
        (cut p w c u more (ap (λ (x : List ℕ). p ++ x) (sym h) ∙ sym l.whole ∙ e))

-- where no value's bytes go on to be another's
module _ {V : Type 0} (bytes : V → List ℕ) (Good : V → Type 0) (same : (v w : V) (x y : List ℕ) → Good v → Good w → bytes v ++ x ≡ bytes w ++ y → v ≡ w) where
  pub apart_form : Apart (Form bytes Good)
  apart_form u v x y (a, g, e) (b, h, f) whole =
      let one : a ≡ b = same a b x y g h (ap (λ (w : List ℕ). w ++ x) (sym e) ∙ whole ∙ ap (λ (w : List ℕ). w ++ y) f) in
      e ∙ ap bytes one ∙ sym f

  pub form_stays : (s : List ℕ) (v : V) (more : List ℕ) (k : ℕ) → Good v → s ≡ bytes v ++ more → Leaves (Form bytes Good) s k → ⊥
  form_stays s v more k g e left = stays (Form bytes Good) s (bytes v) more k apart_form (v, g, refl) e left

-- The first byte of a value's bytes tells the value.
pub record Told {V : Type 0} (bytes : V → List ℕ) : Type 0 where
  pub value : Option ℕ → V
  pub tells : (v : V) (more : List ℕ) → value (slice_get (bytes v ++ more) 0) ≡ v

module _ {V : Type 0} {bytes : V → List ℕ} (told : Told bytes) where
  pub same_value : (v w : V) (x y : List ℕ) → bytes v ++ x ≡ bytes w ++ y → (v ≡ w) × (x ≡ y)
  same_value v w x y e =
      let same : v ≡ w = sym (told.tells v x) ∙ ap (λ (t : List ℕ). told.value (slice_get t 0)) e ∙ told.tells w y in
      (same, append_cancel_left (bytes w) x y (ap (λ (u : V). bytes u ++ x) (sym same) ∙ e))

  -- the text leaves the one word that begins as it does where it leaves the form
  pub leaves_told : (s : List ℕ) (n : ℕ) → Leaves (Exactly (bytes (told.value (slice_get s 0)))) s n → Leaves (Form bytes (λ _. Unit {0})) s n
  leaves_told s n =
      leaves_by_first (Exactly (bytes (told.value (slice_get s 0)))) (Form bytes (λ _. Unit {0})) s n (λ w e. (told.value (slice_get s 0), tt, e))
      (λ w m h. m.2 ∙ ap bytes (sym (told.tells m.0 []) ∙ ap told.value (simp append-nil (ap (λ (x : List ℕ). slice_get x 0) (sym m.2) ∙ h))))
