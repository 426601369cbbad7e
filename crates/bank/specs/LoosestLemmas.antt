-- A kind whose acts are as loose as the rules allow keeps the rules where the kind does.

use Rattle.bank.specs.Kinds.{Kind}
use Rattle.bank.specs.Laws.{Laws, Same}
use Rattle.bank.specs.Loosest.{loosest}

same_still : {S : Type 0} {k : Kind S} {b c : S} → Same k b c → Same (loosest k) b c
same_still same = record { streams = same.streams; records = same.records; count = same.count; ceiling = same.ceiling }

module _ {S : Type 0} (k : Kind S) (l : Laws k) where
  pub loosest_lawful : Laws (loosest k)
  loosest_lawful = record {
    few = l.few;
    listed = l.listed;
    numbered = l.numbered;
    ceilings = l.ceilings;
    begin_keeps = λ b c moment t. same_still t.same;
    tick_keeps = λ b c t. same_still t.same;
    accept_keeps = λ b c i t. same_still t.same;
    begin_begins = λ b c moment t. t.begun;
    tick_begun = λ b c on t. t.begun on;
    accept_begun = λ b c i on t. t.begun on;
    within = l.within;
    ticked = λ b c i r m e t. t.opening i r m e;
    accepted = λ b c i r m e free t. t.opening r m e free;
    others = λ b c i j r m e apart t. t.others j r m e apart;
  }
