-- The rules over whole numbers, from the laws over natural ones.

use Rattle.std.proofs.Common.{◌≡◌, ℕ, suc, ◌+◌, ◌-◌, ◌<◌, ◌≤◌, ℤ, pos, negsuc, ◌+ℤ◌, neg_ℤ, ◌≤ℤ◌, ◌<ℤ◌, true, is_some, Some, None, Option, sym, refl, ap, ◌∙◌, arith}
use borrow.Author.Tests.{clash}
use Rattle.std.proofs.lemmas.Int.{ints}
use Rattle.stream.specs.declared.limits.Record.{Record}
use Rattle.bank.specs.Ceilings.{back}
use Rattle.bank.specs.Kinds.{Kind}
use Rattle.bank.specs.Laws.{Laws}
use Rattle.bank.specs.Rules.{level, Rules, Whole}
use Rattle.bank.proofs.Backs.{back_before, back_after}
use Rattle.bank.proofs.Windows.{releases_opened, releases_within_ceiling}

-- what is there is one record
pub found : (o : Option Record) → is_some o ≡ true → (r : Record) × (o ≡ Some r)
found None e = absurd (clash e)
found (Some r) e = (r, refl)

single_level : (N : ℕ → ℕ) (D : ℕ) → ((m : ℕ) → m < D → N m ≡ 1) → (m : ℤ) → pos 0 ≤ℤ m → m <ℤ pos D → level N m ≡ 1
single_level N D one (pos m) from h = one m (omega (arith, ints))
single_level N D one (negsuc m) from h = let z : ⊥ = omega (arith, ints) in absurd z

rising_level : (N : ℕ → ℕ) → ((m n : ℕ) → m ≤ n → N m ≤ N n) → (m n : ℤ) → m ≤ℤ n → level N m ≤ level N n
rising_level N rises (pos m) (pos n) h = rises m n (omega (arith, ints))
rising_level N rises (pos m) (negsuc n) h = let z : ⊥ = omega (arith, ints) in absurd z
rising_level N rises (negsuc m) (pos n) h = omega arith
rising_level N rises (negsuc m) (negsuc n) h = omega arith

repeating_level : (N : ℕ → ℕ) (D T k : ℕ) → D ≤ T → ((x : ℕ) → back N (x + T) D ≡ back N x D + k) → (m : ℤ) → neg_ℤ (pos D) ≤ℤ m → level N (m +ℤ pos T) ≡ level N m + k
repeating_level N D T k fits law (pos m) h =
    let at : m + D + T - D ≡ m + T = omega arith in
    let here : m + D - D ≡ m = omega arith in
    sym (ap N at) ∙ sym (back_after N (m + D + T) D (omega arith)) ∙ law (m + D) ∙ ap (λ (n : ℕ). n + k) (back_after N (m + D) D (omega arith) ∙ ap N here)
repeating_level N D T k fits law (negsuc j) h =
    let within : suc j ≤ D = omega (arith, ints) in
    let there : negsuc j +ℤ pos T ≡ pos (T - suc j) = omega (arith, ints) in
    let at : D - suc j + T - D ≡ T - suc j = omega arith in
    ap (level N) there ∙ sym (ap N at) ∙ sym (back_after N (D - suc j + T) D (omega arith)) ∙ law (D - suc j) ∙ ap (λ (n : ℕ). n + k) (back_before N (D - suc j) D (omega arith))

below_level : (f g : ℕ → ℕ) → ((m : ℕ) → f m ≤ g m) → (m : ℤ) → level f m ≤ level g m
below_level f g h (pos m) = h m
below_level f g h (negsuc m) = omega arith

next_level : (f g : ℕ → ℕ) → ((m : ℕ) → f m ≤ g (m + 1)) → (m : ℤ) → level f m ≤ level g (m +ℤ pos 1)
next_level f g h (pos m) = h m
next_level f g h (negsuc m) = omega arith

less_level : (f g : ℕ → ℕ) → ((m : ℕ) → f m + 1 ≤ g m) → (m : ℤ) → pos 0 ≤ℤ m → level f m + 1 ≤ level g m
less_level f g h (pos m) from = h m
less_level f g h (negsuc m) from = let z : ⊥ = omega (arith, ints) in absurd z

pub whole_holds : {S : Type 0} (k : Kind S) → Laws k → (b : S) → Whole k b
whole_holds k l b = record {
  few = l.few b;
  listed = l.listed b;
  numbered = λ i some. let r = found (k.records b i) some in l.numbered b i r.0 r.1;
  begins = λ c moment t. (l.begin_keeps b c moment t, l.begin_begins b c moment t);
  ticks = λ c t. (l.tick_keeps b c t, λ on. l.tick_begun b c on t);
  accepts = λ c i t. (l.accept_keeps b c i t, λ on. l.accept_begun b c i on t);
}

pub rules_hold : {S : Type 0} (k : Kind S) → Laws k → (b : S) (i : ℕ) (r : Record) → k.records b i ≡ Some r → Rules k b i r
rules_hold k l b i r e =
    let law = l.ceilings b i r e in
    let limits = r.within.1 in
    record {
      single = single_level (k.ceiling b i) r.row.deadline law.single;
      rises = rising_level (k.ceiling b i) law.rises;
      repeats = repeating_level (k.ceiling b i) r.row.deadline r.row.gap (k.count b i) limits.1 law.repeats;
      some = law.some;
      few = law.few;
      within = λ m g. below_level (k.opening b i) (k.ceiling b i) (λ n. l.within b i r n g e) m;
      ticked = λ c m t. next_level (k.opening c i) (k.opening b i) (λ n. l.ticked b c i r n e t) m;
      accepted = λ c m from o a. less_level (k.opening c i) (k.opening b i) (λ n. l.accepted b c i r n e o a) m from;
      others = λ c j m ne a. below_level (k.opening c i) (k.opening b i) (λ n. l.others b c j i r n e ne a) m;
      accepted_within = λ m. releases_within_ceiling k l b i r m e;
      still_to_come = λ m c window runs short. releases_opened k l i r m e runs short;
    }
