-- The plateau that is remembered stays right from length to length.

use Rattle.std.proofs.Common.{◌≡◌, ℕ, ◌+◌, ◌-◌, ◌<◌, ◌≤◌, cond, eqb, sym, ap, ◌∙◌, subst, ⊎_elim, arith, eqb-true}
use borrow.Author.Tests.{eqb-false}
use Rattle.std.proofs.lemmas.Bool.{cases_eq, cases_lt, cond_both}
use Rattle.stream.specs.Limits.{Within}
use Rattle.stream.specs.declared.Row.{Row}
use Rattle.bank.specs.Ceilings.{Ceiling, back}
use Rattle.bank.proofs.Backs.{back_before, back_after}
use Rattle.demand.specs.declared.watch.Plateau.{Plateau}
use Rattle.demand.specs.Watching.{Flat, On, Seen, moved}
use Rattle.demand.proofs.Plateaus.{plateau_first, plateau_stays, plateau_rises}
use Rattle.demand.proofs.Widths.{ceiling_at_most}

pub on_after : {N : ℕ → ℕ} {m : ℕ} {p : Plateau} (next : ℕ) → next ≡ m + 1 → On N m p → Seen N next p
on_after {N} {m} {p} next e on =
    let At : ℕ → Type 0 = λ n. Flat N n p.start p.level in
    let back : m ≡ next - 1 = omega arith in
    record {
      unasked = λ z. let w : ⊥ = omega arith in absurd w;
      asked = λ l. subst At back on.flat;
      lasts = λ q from before. on.lasts q (omega arith) before;
      near = on.near;
    }

module _ {r : Row} {k : ℕ} {N : ℕ → ℕ} (law : Ceiling r k N) (w : Within r) where
  -- where N has risen by all of k, it stays for a gap: one gap on it has risen no more than that
  rise_lasts : (m : ℕ) → N m ≡ back N m 1 + k → (q : ℕ) → m ≤ q → q < m + r.gap → N q ≡ N m
  rise_lasts m all q from before =
      let D : ℕ = r.deadline in
      let gap = w.0 in
      let deadline = w.1 in
      let there : m + D - 1 + r.gap - D ≡ m + r.gap - 1 = omega arith in
      let last : N (m + r.gap - 1) ≡ back N (m + D - 1) D + k = sym (ap N there) ∙ sym (back_after N (m + D - 1 + r.gap) D (omega arith)) ∙ law.repeats (m + D - 1) in
      let one : back N (m + D - 1) D ≡ back N m 1 =
      ⊎_elim
      (λ (first : m < 1). back_before N (m + D - 1) D (omega arith) ∙ sym (back_before N m 1 first))
      (λ (later : 1 ≤ m).
      let at : m + D - 1 - D ≡ m - 1 = omega arith in
      back_after N (m + D - 1) D (omega arith) ∙ ap N at ∙ sym (back_after N m 1 later))
      (cases_lt m 1) in
      omega (arith, law.rises m q from, law.rises q (m + r.gap - 1) (omega arith), last, one, all)

  -- the plateau goes on as long as it is certain to
  pub on_later : {m : ℕ} {p : Plateau} → On N m p → (q : ℕ) → m ≤ q → q < p.end → On N q p
  on_later {m} {p} on q from before =
      let flat = on.flat in
      let reach = flat.reaches in
      let there = on.lasts q from before in
      record {
        flat = record {
          reaches = omega arith;
          value = sym there;
          same = flat.same ∙ sym flat.value ∙ sym there;
          lower = λ x h. let l = flat.lower x h in omega (arith, flat.value);
        };
        lasts = λ n later end. on.lasts n (omega arith) end;
        ahead = before;
        near = on.near;
        small = on.small;
      }

  -- what was seen, where it is certain to go on
  pub on_seen : (m : ℕ) (p : Plateau) → m ≤ 1000000 → Seen N m p → m < p.end → On N m p
  on_seen m p within s before =
      let gap = w.0 in
      let At : ℕ → Type 0 = λ n. Flat N n p.start p.level in
      record {
        flat = ⊎_elim
            (λ (first : m ≡ 0). let none = s.unasked first in let z : ⊥ = omega arith in absurd z)
            (λ (later : m ≡ 0 → ⊥).
            let back : m - 1 + 1 ≡ m = omega arith in
            subst At back (plateau_stays law (m - 1) p.start p.level (s.asked (omega arith)) (sym (s.lasts m (omega arith) before) ∙ sym (ap N back))))
            (cases_eq m 0);
        lasts = s.lasts;
        ahead = before;
        near = s.near;
        small = omega (arith, s.lasts m (omega arith) before, ceiling_at_most law w m);
      }

  -- before it was asked for, N was what was seen
  seen_before : (m : ℕ) (p : Plateau) → Seen N m p → p.level ≡ back N m 1
  seen_before m p s =
      ⊎_elim
      (λ (first : m ≡ 0). (s.unasked first).0 ∙ sym (back_before N m 1 (omega arith)))
      (λ (later : m ≡ 0 → ⊥). (s.asked (omega arith)).value ∙ sym (back_after N m 1 (omega arith)))
      (cases_eq m 0)

  moved_flat : (m : ℕ) (p : Plateau) → Seen N m p → Flat N m (cond (eqb (N m) p.level) p.start m) (N m)
  moved_flat m p s =
      let limits = w.1 in
      let one = law.single 0 (omega arith) in
      cond_both (eqb (N m) p.level) p.start m (λ start. Flat N m start (N m))
      (λ same.
      let e = eqb-true (N m) p.level same in
      ⊎_elim
      (λ (first : m ≡ 0). let none = s.unasked first in let z : ⊥ = omega (arith, ap N first) in absurd z)
      (λ (later : m ≡ 0 → ⊥).
      let back : m - 1 + 1 ≡ m = omega arith in
      let At : ℕ → Type 0 = λ n. Flat N n p.start (N n) in
      let Level : ℕ → Type 0 = λ x. Flat N (m - 1 + 1) p.start x in
      subst At back (subst Level (sym e ∙ sym (ap N back)) (plateau_stays law (m - 1) p.start p.level (s.asked (omega arith)) (sym e ∙ sym (ap N back)))))
      (cases_eq m 0))
      (λ other.
      let ne = eqb-false (N m) p.level other in
      let At : ℕ → Type 0 = λ n. Flat N n n (N n) in
      ⊎_elim
      (λ (first : m ≡ 0). subst At (sym first) (plateau_first N))
      (λ (later : m ≡ 0 → ⊥).
      let back : m - 1 + 1 ≡ m = omega arith in
      subst At back (plateau_rises law (m - 1) p.start p.level (s.asked (omega arith)) (λ e. ne (sym (e ∙ ap N back)))))
      (cases_eq m 0))

  -- the plateau that asking at m makes
  pub on_moved : (m : ℕ) (p : Plateau) → m ≤ 1000000 → Seen N m p → On N m (moved p m (N m) k r.gap)
  on_moved m p within s =
      let gap = w.0 in
      let some = law.some in
      let rest : ℕ → Type 0 = λ n. (1 ≤ n) × (n ≤ 65535) × ((q : ℕ) → m ≤ q → q < m + n → N q ≡ N m) in
      let stays : rest (cond (eqb (N m - p.level) k) r.gap 1) =
      cond_both (eqb (N m - p.level) k) r.gap 1 rest
      (λ all. let e = eqb-true (N m - p.level) k all in (omega arith, omega arith, rise_lasts m (omega (arith, seen_before m p s))))
      (λ other. (omega arith, omega arith, λ q from before. let at : q ≡ m = omega arith in ap N at)) in
      record { flat = moved_flat m p s; lasts = stays.2; ahead = omega (arith, stays.0); near = omega (arith, stays.1); small = omega (arith, ceiling_at_most law w m) }
