use Rattle.std.proofs.Common.{◌≡◌, Some, None, Err, Option, Result, MatchOption, rules}
use Rattle.stream.specs.declared.Refusal.{Refusal}
use Rattle.turns.specs.declared.Settled.{Settled}
use Rattle.script.specs.Performing.{turn_given}
use Rattle.script.proofs.script.take_turn.Goals as goal

given_by : (void : Option Refusal) (settled given : Result Settled Refusal) (Q : Refusal → Type 0) → MatchOption void (given ≡ settled) Q → ((e : Refusal) → Q e → given ≡ Err e) → given ≡ turn_given void settled
given_by (Some e) settled given Q h f = f e h
given_by None settled given Q h f = h

pub returns : goal.returns
returns g c = (
  c.pick-slip.result.void,
  c.pick-slip.new.self.state,
  c.settle-settled.result,
  c.pick-slip.ensures.picked,
  rw c.pick-slip.ensures.bank at c.settle-settled.ensures,
  rw (← c.refusal-void.ensures) (given_by c.refusal-void.result c.settle-settled.result c.map_or.result _ c.map_or.ensures (λ e q. search rules)),
)
