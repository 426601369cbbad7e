-- Over any run of acts from begin on, the releases of a stream accepted within m + 1 moments are at most its opening at m, and so at most its ceiling.

use Rattle.std.proofs.Common.{◌≡◌, ℕ, ◌+◌, ◌-◌, ◌<◌, ◌≤◌, Bool, true, false, cond, eqb, List, [], ◌∷◌, ℤ, pos, negsuc, Some, None, Option, sym, refl, ap, ◌∙◌, subst, ⊎_elim, arith, eq-eqb, ne_eqb, le-leb}
use Rattle.std.proofs.lemmas.Bool.{cases_eq, cases_lt, lt-leb}
use Rattle.stream.specs.declared.limits.Record.{Record}
use Rattle.bank.specs.Kinds.{Kind}
use Rattle.bank.specs.Laws.{Laws, Same}
use Rattle.bank.specs.Questions.{told, asked, spanned}
use Rattle.bank.specs.declared.Question.TheVariants.{Outside, Before, At}
use Rattle.bank.specs.Runs.{Act, ticks, accepts, Run, done, tick, accept, releases, moments, AtMost, AtMostToCome}

pub same_then : {S : Type 0} (k : Kind S) {b c d : S} → Same k b c → Same k c d → Same k b d
same_then k p q = record {
  streams = q.streams ∙ p.streams;
  records = λ i. q.records i ∙ p.records i;
  count = λ i. q.count i ∙ p.count i;
  ceiling = λ i m. q.ceiling i m ∙ p.ceiling i m;
}

pub same_self : {S : Type 0} (k : Kind S) (b : S) → Same k b b
same_self k b = record { streams = refl; records = λ i. refl; count = λ i. refl; ceiling = λ i m. refl }

pub run_keeps : {S : Type 0} (k : Kind S) → Laws k → {b c : S} {acts : List Act} → Run k b acts c → Same k b c
run_keeps k l (done {b}) = same_self k b
run_keeps k l (tick {b} {c} {d} t run) = same_then k (l.tick_keeps b c t) (run_keeps k l run)
run_keeps k l (accept {b} {c} {d} {i} e o a run) = same_then k (l.accept_keeps b c i a) (run_keeps k l run)

pub run_begun : {S : Type 0} (k : Kind S) → Laws k → {b c : S} {acts : List Act} → k.begun b → Run k b acts c → k.begun c
run_begun k l g done = g
run_begun k l g (tick {b} {c} {d} t run) = run_begun k l (l.tick_begun b c g t) run
run_begun k l g (accept {b} {c} {d} {i} e o a run) = run_begun k l (l.accept_begun b c i g a) run

some_moment : (acts : List Act) → 1 ≤ moments acts
some_moment [] = omega arith
some_moment (ticks ∷ acts) = omega arith
some_moment (accepts j ∷ acts) = some_moment acts

-- one release at most, and none of another stream
one_at_most : (t : Bool) → cond t 1 0 ≤ 1
one_at_most true = omega arith
one_at_most false = omega arith

pub releases_opened : {S : Type 0} (k : Kind S) (l : Laws k) {b d : S} {acts : List Act} (i : ℕ) (r : Record) (m : ℕ) → k.records b i ≡ Some r → Run k b acts d → moments acts ≤ m + 1 → releases i acts ≤ k.opening b i m
releases_opened k l i r m e done h = omega arith
releases_opened k l i r m e (tick {b} {c} {d} {acts} t run) h =
    let later = some_moment acts in
    let rest : releases i acts ≤ k.opening c i (m - 1) = releases_opened k l i r (m - 1) ((l.tick_keeps b c t).records i ∙ e) run (omega arith) in
    let fall = l.ticked b c i r (m - 1) e t in
    let back : m - 1 + 1 ≡ m = omega arith in
    omega (arith, ap (k.opening b i) back)
releases_opened k l i r m e (accept {b} {c} {d} {i = j} {r = s} {acts} x o a run) h =
    let rest : releases i acts ≤ k.opening c i m = releases_opened k l i r m ((l.accept_keeps b c j a).records i ∙ e) run h in
    let one = one_at_most (eqb j i) in
    ⊎_elim
    (λ (same : j ≡ i).
    let P : ℕ → Type 0 = λ n. k.opening c n m + 1 ≤ k.opening b n m in
    let fall : k.opening c i m + 1 ≤ k.opening b i m = subst P same (l.accepted b c j s m x o a) in
    omega arith)
    (λ (other : j ≡ i → ⊥).
    let none : cond {A = ℕ} (eqb j i) 1 0 ≡ 0 = ap (λ (t : Bool). cond {A = ℕ} t 1 0) (ne_eqb j i other) in
    let fall = l.others b c j i r m e (λ q. other (sym q)) a in
    omega arith)
    (cases_eq j i)

pub releases_within_ceiling : {S : Type 0} (k : Kind S) (l : Laws k) (bank : S) (i : ℕ) (r : Record) (m : ℕ) → k.records bank i ≡ Some r → AtMost k bank i (m + 1) (k.ceiling bank i m)
releases_within_ceiling k l bank i r m e moment b c d before window g run runs h =
    let same = same_then k (l.begin_keeps bank b moment g) (run_keeps k l run) in
    let started = run_begun k l (l.begin_begins bank b moment g) run in
    let found = same.records i ∙ e in
    let some = releases_opened k l i r m found runs h in
    omega (arith, l.within c i r m started found, same.ceiling i m)

spanned_none : (n : ℕ) → n ≡ 0 → spanned n ≡ Before
spanned_none n e = ap (λ (t : Bool). cond t Before (asked (pos (n - 1)))) (eq-eqb n 0 e)

spanned_some : (n : ℕ) → 0 < n → n ≤ 1000001 → spanned n ≡ At (n - 1)
spanned_some n p h = ap (λ (t : Bool). cond t Before (asked (pos (n - 1)))) (ne_eqb n 0 (λ e. omega arith)) ∙ ap (λ (t : Bool). cond t (At (n - 1)) Outside) (le-leb (n - 1) 1000000 (omega arith))

pub asked_spanned : (z : ℤ) (n : ℕ) → n ≤ 1000001 → (n ≡ 0 → z ≡ negsuc 0) → (0 < n → z ≡ pos (n - 1)) → asked z ≡ spanned n
asked_spanned z n h none some =
    ⊎_elim
    (λ (e : n ≡ 0). ap asked (none e) ∙ sym (spanned_none n e))
    (λ (e : n ≡ 0 → ⊥).
    let p : 0 < n = omega arith in
    ap asked (some p) ∙ ap (λ (t : Bool). cond t (At (n - 1)) Outside) (le-leb (n - 1) 1000000 (omega arith)) ∙ sym (spanned_some n p h))
    (cases_eq n 0)

spanned_far : (n : ℕ) → 1000001 < n → spanned n ≡ Outside
spanned_far n h = ap (λ (t : Bool). cond t Before (asked (pos (n - 1)))) (ne_eqb n 0 (λ e. omega arith)) ∙ ap (λ (t : Bool). cond t (At (n - 1)) Outside) (lt-leb (n - 1) 1000000 (omega arith))

-- what a bank tells of so many moments is told at the last of them, of a stream that exists
module _ (f : ℕ → ℕ) (n most : ℕ) where
  nothing_told : {X : Type 0} → None ≡ Some most → X
  nothing_told t = let z : ◌≡◌ {A = ℕ} 0 1 = cc in absurd (let w : ⊥ = omega arith in w)

  told_at : (o : Option Record) → 0 < n → told o f (spanned n) ≡ Some most → (r : Record) × (o ≡ Some r) × (f (n - 1) ≡ most)
  told_at None some t = nothing_told t
  told_at (Some r) some t =
      ⊎_elim
      (λ (far : 1000001 < n). nothing_told (sym (ap (told (Some r) f) (spanned_far n far)) ∙ t))
      (λ (near : n ≤ 1000001).
      let tells : Some (f (n - 1)) ≡ Some most = sym (ap (told (Some r) f) (spanned_some n some near)) ∙ t in
      (r, refl, cc))
      (cases_lt 1000001 n)

-- it bounds the releases accepted within them
module _ {S : Type 0} (k : Kind S) (l : Laws k) (b : S) (i n most : ℕ) where
  pub told_bounds : told (k.records b i) (k.ceiling b i) (spanned n) ≡ Some most → AtMost k b i n most
  told_bounds t = λ moment begun c d before window g run runs short.
      let some = some_moment window in
      let (r, found, is) = told_at (k.ceiling b i) n most (k.records b i) (omega arith) t in
      omega (arith, is, releases_within_ceiling k l b i r (n - 1) found moment begun c d before window g run runs (omega arith))

  pub told_opens : told (k.records b i) (k.opening b i) (spanned n) ≡ Some most → AtMostToCome k b i n most
  told_opens t = λ c window runs short.
      let some = some_moment window in
      let (r, found, is) = told_at (k.opening b i) n most (k.records b i) (omega arith) t in
      omega (arith, is, releases_opened k l i r (n - 1) found runs (omega arith))
