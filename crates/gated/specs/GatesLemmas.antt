-- A gated bank keeps the rules of every bank where the bank behind the gate does.

use Rattle.std.specs.Prelude.{◌≡◌, ℕ, ◌+◌, ◌≤◌, ◌==◌, refl}
use Rattle.std.proofs.Common.{arith, ap}
use Rattle.std.proofs.lemmas.Bool.{cond_both, eqb-true}
use Rattle.bank.specs.Kinds.{Kind}
use Rattle.bank.specs.Laws.{Laws, Same}
use Rattle.bank.specs.LoosestLemmas.{loosest_lawful}
use Rattle.gated.specs.Gates.{IsOpen, behind, behind_gate, gated}
use Rattle.gated.specs.declared.Gate.{Gate}
use Rattle.gated.specs.declared.Gate.TheVariants.{Open, Shut}
use Rattle.gated.specs.declared.Gated.{Gated}

-- A gate lets through at most what is behind it,
behind_at_most : (gate : Gate) (f : ℕ → ℕ) (m : ℕ) → behind gate f m ≤ f m
behind_at_most (Open passed) f m = omega arith
behind_at_most Shut f m = cond_both (m == 0) 0 (f m) (λ n. n ≤ f m) (λ e. omega arith) (λ e. omega arith)

-- all of it if open,
behind_open : (gate : Gate) (f : ℕ → ℕ) (m : ℕ) → IsOpen gate → behind gate f m ≡ f m
behind_open gate f m is = ap (λ g. behind g f m) is.1

-- and all of it from the next tick on.
behind_later : (gate : Gate) (f : ℕ → ℕ) (m : ℕ) → behind gate f (m + 1) ≡ f (m + 1)
behind_later (Open passed) f m = refl
behind_later Shut f m = cond_both (m + 1 == 0) 0 (f (m + 1)) (λ n. n ≡ f (m + 1)) (λ e. let is = eqb-true (m + 1) 0 e in let z : ⊥ = omega arith in absurd z) (λ e. refl)

same_inner : {B : Type 0} (k : Kind B) (b c : Gated B) → Same k b.inner c.inner → Same (behind_gate k) b c
same_inner k b c same = record {
  streams = same.streams;
  records = same.records;
  count = same.count;
  ceiling = same.ceiling;
}

pub behind_gate_lawful : {B : Type 0} (k : Kind B) → Laws k → Laws (behind_gate k)
behind_gate_lawful k l = record {
  few = λ b. l.few b.inner;
  listed = λ b i some most. l.listed b.inner i some most;
  numbered = λ b i r e. l.numbered b.inner i r e;
  ceilings = λ b i r e. l.ceilings b.inner i r e;
  begin_keeps = λ b c moment t. same_inner k b c (l.begin_keeps b.inner c.inner moment t);
  tick_keeps = λ b c t. same_inner k b c (l.tick_keeps b.inner c.inner t);
  accept_keeps = λ b c i t. same_inner k b c (l.accept_keeps b.inner c.inner i t.1);
  begin_begins = λ b c moment t. l.begin_begins b.inner c.inner moment t;
  tick_begun = λ b c on t. l.tick_begun b.inner c.inner on t;
  accept_begun = λ b c i on t. l.accept_begun b.inner c.inner i on t.1;
  within = λ b i r m on e. omega (arith, behind_at_most b.gate (k.opening b.inner i) m, l.within b.inner i r m on e);
  ticked = λ b c i r m e t. omega (arith, behind_at_most c.gate (k.opening c.inner i) m, behind_later b.gate (k.opening b.inner i) m, l.ticked b.inner c.inner i r m e t);
  accepted = λ b c i r m e free t. omega (arith, behind_at_most c.gate (k.opening c.inner i) m, behind_open b.gate (k.opening b.inner i) m t.0, l.accepted b.inner c.inner i r m e (omega (arith, free, behind_open b.gate (k.opening b.inner i) 0 t.0)) t.1);
  others = λ b c i j r m e apart t. omega (arith, behind_at_most c.gate (k.opening c.inner j) m, behind_open b.gate (k.opening b.inner j) m t.0, l.others b.inner c.inner i j r m e apart t.1);
}

pub gated_lawful : {B : Type 0} (k : Kind B) → Laws k → Laws (gated k)
gated_lawful k l = loosest_lawful (behind_gate k) (behind_gate_lawful k l)
