-- The streams that are followed: how they are listed one by one, and brought from one length to the next.

use Rattle.std.proofs.Common.{◌≡◌, ◌∙◌, ◌^◌, ℕ, ◌+◌, ◌<◌, ◌≤◌, ◌≢◌, List, [], ◌∷◌, ◌++◌, length, get_or, set, sym, subst, ⊎_elim, arith, length-set, length-append}
use Rattle.std.proofs.lemmas.List.{get_or-set_same, get_or-set_other, get_or_append_left, get_or_push}
use Rattle.std.proofs.lemmas.Bool.{cases_lt}
use Rattle.stream.specs.declared.Phase.{Phase}
use Rattle.bank.specs.Kinds.{Kind}
use Rattle.demand.specs.Demands.{asks}
use Rattle.demand.specs.Following.{Follow}
use Rattle.demand.specs.Shares.{share_of}
use Rattle.demand.specs.Watching.{Kept}
use Rattle.demand.specs.declared.following.Followed.{Followed}
use Rattle.demand.specs.declared.watch.Watch.{Watch}
use Rattle.demand.proofs.Keeping.{kept_on}
use Rattle.demand.proofs.Totals.{asks_listed}

-- P is true of each item, by its number from 1
abbrev pub Each : {X : Type 0} → (ℕ → X → Type 0) → List X → Type 0
Each {X} P items = (i : ℕ) (d : X) → i < length items → P (i + 1) (get_or items i d)

pub each_more : {X : Type 0} (P : ℕ → X → Type 0) (items : List X) (x : X) → P (length items + 1) x → Each P items → Each P (items ++ x ∷ [])
each_more {X} P items x here all i d within =
    ⊎_elim
    (λ (earlier : i < length items). subst (P (i + 1)) (sym (get_or_append_left items (x ∷ []) d i earlier)) (all i d earlier))
    (λ (from : length items ≤ i).
    let at : length items ≡ i = omega (arith, length-append items (x ∷ [])) in
    subst (P (i + 1)) (sym (get_or_push items x d i at)) (subst (λ (j : ℕ). P (j + 1) x) at here))
    (cases_lt i (length items))

-- The items are done one after another: P is true of the n that are done, and Q of the others.
pub record Passing {X : Type 0} (P Q : ℕ → X → Type 0) (n : ℕ) (items : List X) : Type 0 where
  pub done : (i : ℕ) (d : X) → i < n → i < length items → P (i + 1) (get_or items i d)
  pub rest : (i : ℕ) (d : X) → n ≤ i → i < length items → Q (i + 1) (get_or items i d)

module _ {X : Type 0} (P Q : ℕ → X → Type 0) where
  pub passing_none : (items : List X) → Each Q items → Passing P Q 0 items
  passing_none items all = record { done = λ i d before. absurd (let z : ⊥ = omega arith in z); rest = λ i d from. all i d }

  pub passing_more : (n : ℕ) (items : List X) (x : X) → n < length items → P (n + 1) x → Passing P Q n items → Passing P Q (n + 1) (set items n x)
  passing_more n items x within here p =
      let same = length-set items n x in
      record {
        done = λ i d before inside.
            ⊎_elim
            (λ (earlier : i < n).
            let other : i ≢ n = omega arith in
            subst (λ (y : X). P (i + 1) y) (sym (get_or-set_other items n i x d other)) (p.done i d earlier (omega arith)))
            (λ (from : n ≤ i).
            let at : n ≡ i = omega arith in
            subst (λ (j : ℕ). P (j + 1) (get_or (set items n x) j d)) at (subst (λ (y : X). P (n + 1) y) (sym (get_or-set_same items n x d within)) here))
            (cases_lt i n);
        rest = λ i d from inside.
            let other : i ≢ n = omega arith in
            subst (λ (y : X). Q (i + 1) y) (sym (get_or-set_other items n i x d other)) (p.rest i d (omega arith) (omega arith));
      }

-- a stream that was followed up to a length is followed past it, whether it was asked there or not
module _ {S : Type 0} (k : Kind S) (b : S) (phase : Phase) (t i : ℕ) where
  abbrev pub Passed : Followed → Type 0
  Passed y = (y.watch.steady.share ≡ asks k b phase t i) × (y.watch.steady.share < 2 ^ 37) × Follow k b phase (t + 1) i y

  pub passed_steady : {x : Followed} → Follow k b phase t i x → t < x.watch.steady.end → Passed x
  passed_steady {x} f before =
      let on = kept_on f.kept before in
      (on.0 ∙ sym (asks_listed k b phase i x.entry.row t (rw f.numbered at f.entered.listed)), on.1.share.small, record { numbered = f.numbered; entered = f.entered; kept = on.1 })

  pub passed_asked : {x : Followed} → Follow k b phase t i x → (w : Watch) → w.steady.share ≡ share_of phase x.entry.row (k.ceiling b x.entry.number) t → Kept phase x.entry.row (k.ceiling b x.entry.number) (t + 1) w → Passed (record { entry = x.entry; watch = w })
  passed_asked {x} f w share kept =
      let here : Kept phase x.entry.row (k.ceiling b i) (t + 1) w = rw f.numbered at kept in
      (rw f.numbered at share ∙ sym (asks_listed k b phase i x.entry.row t (rw f.numbered at f.entered.listed)), kept.share.small, record { numbered = f.numbered; entered = f.entered; kept = here })
