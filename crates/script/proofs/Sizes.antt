-- What is told of a plan is of ordinary size.

use Rattle.std.proofs.Common.{◌≡◌, ◌≤◌, ap, subst, arith}
use Rattle.std.specs.Int.Signed.{mag}
use Rattle.stream.specs.declared.Point.{Point}
use Rattle.stream.specs.declared.Refusal.{Refusal}
use Rattle.stream.specs.declared.Refusal.TheVariants.{DemandExceeded}
use Rattle.stream.specs.declared.Verdict.{Verdict}
use Rattle.bank.specs.Kinds.{Kind}
use Rattle.bank.specs.Laws.{Laws}
use Rattle.demand.specs.Verdicts.{point_at, Accepts, Refuses}
use Rattle.text.proofs.Ordinary.{OrdinaryPoint, OrdinaryVerdict}
use Rattle.script.proofs.Margins.{margin_small}

module _ {S : Type 0} (k : Kind S) (laws : Laws k) (b : S) (few : k.streams b ≤ 32) where
  point_small : (p : Point) → p ≡ point_at k b p.phase p.length → p.length ≤ 1000000 → OrdinaryPoint p
  point_small p is near = (near, (let small = margin_small k b laws p.phase p.length near few in omega (arith, ap (λ (q : Point). mag q.margin) is)))

module _ {S : Type 0} (k : Kind S) (laws : Laws k) (b : S) where
  pub accepted_small : (v : Verdict) → Accepts k b v → OrdinaryVerdict v
  accepted_small v a =
      let near = a.reach.near in
      let upto = a.nearest.upto in
      (near, omega (arith, a.lengths), point_small k laws b a.reach.few v.point a.nearest.is (omega arith))

  pub refused_small : (e : Refusal) → Refuses k b e → (v : Verdict) → e ≡ DemandExceeded v → OrdinaryPoint v.point
  refused_small e says v is =
      let x = subst (Refuses k b) is says in
      let near = x.reach.near in
      let upto = x.upto in
      point_small k laws b x.reach.few v.point x.is (omega arith)
