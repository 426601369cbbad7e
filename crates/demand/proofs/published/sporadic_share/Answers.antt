use Rattle.std.proofs.Common.{Some, sym, ap, ◌∙◌, arith}
use Rattle.demand.proofs.Publishing.{by_plateau, published_share, closed_share}
use Rattle.demand.proofs.published.sporadic_share.Goals as goal

pub returns : goal.returns
returns c = record {
  told = λ near. ap Some (c.share.ensures ∙ sym (closed_share c.args.stream.row c.args.stream.within c.args.length));
  far = λ far. let near = c.if-length-gt-FARTHEST.false in let z : ⊥ = omega arith in absurd z;
  published = published_share c.args.stream.row c.args.stream.within;
  plateaus = by_plateau c.args.stream.row c.args.stream.within;
}
