-- A bank over a table keeps the rules of every bank where its acts keep the streams, its tick opens no stream more than a moment later, and its accept closes a stream for its gap. So does a timetable, where a tick opens no stream more than a moment later.

use Rattle.std.specs.Prelude.{◌≡◌, ℕ, ◌+◌, ◌≤◌, map, length, refl}
use Rattle.std.proofs.Common.{arith}
use Rattle.bank.specs.Laws.{Laws, Same}
use Rattle.stream.specs.declared.limits.Record.{Record}
use Rattle.table.specs.Tabled.{tabled, timetabled}
use Rattle.table.specs.Tables.{states_of, opening_of, Closes, Rewaited, ticked}
use Rattle.table.specs.Waits.{after}
use Rattle.table.specs.declared.shared.Table.{Table}
use Rattle.table.specs.declared.timetable.Timetable.{Timetable}
use Rattle.table.specs.Keeping.{Keeps, ceiling_kept, ticking_keeps, closing_keeps, rewaiting_keeps}
use Rattle.table.specs.Openings.{ceiling_lawful, opening_within_ceiling, ticked_opens_no_more, closing_takes_one, closing_leaves_others}
use Rattle.table.specs.TablesLemmas.{record_listed, record_numbered}

module _ {B S : Type 0} (letter : ℕ) (recorded : S → Record) (table : B → Table S) (begins : B → ℕ → B → Type 0) (ticks : B → B → Type 0) (accepts : B → ℕ → B → Type 0) where
  same_streams : (b c : B) → Keeps recorded (states_of (table b)) (states_of (table c)) → Same (tabled letter recorded table begins ticks accepts) b c
  same_streams b c keeps = record {
    streams = keeps.size;
    records = keeps.records;
    count = λ i. refl;
    ceiling = ceiling_kept recorded (states_of (table b)) (states_of (table c)) keeps;
  }

  pub tabled_lawful : ((b : B) → length (states_of (table b)) ≤ 32) → ((b c : B) (moment : ℕ) → begins b moment c → Keeps recorded (states_of (table b)) (states_of (table c))) → ((b c : B) → ticks b c → Keeps recorded (states_of (table b)) (states_of (table c))) → ((b c : B) (i m : ℕ) → ticks b c → opening_of recorded (states_of (table c)) i m ≤ opening_of recorded (states_of (table b)) i (m + 1)) → ((b c : B) (i : ℕ) → accepts b i c → Closes recorded (states_of (table b)) i (states_of (table c))) → Laws (tabled letter recorded table begins ticks accepts)
  tabled_lawful few begin_keeps tick_keeps no_more closes = record {
    few = λ b. omega (arith, few b);
    listed = λ b i some within. record_listed recorded (states_of (table b)) i some within;
    numbered = λ b i r e. record_numbered recorded (states_of (table b)) i r e;
    ceilings = λ b i r e. ceiling_lawful recorded (states_of (table b)) i r e;
    begin_keeps = λ b c moment e. same_streams b c (begin_keeps b c moment e);
    tick_keeps = λ b c e. same_streams b c (tick_keeps b c e);
    accept_keeps = λ b c i a. same_streams b c (closing_keeps recorded recorded (states_of (table b)) (states_of (table c)) i (closes b c i a));
    begin_begins = λ b c moment e. tt;
    tick_begun = λ b c g e. tt;
    accept_begun = λ b c i g a. tt;
    within = λ b i r m g e. opening_within_ceiling recorded (states_of (table b)) i m;
    ticked = λ b c i r m e t. no_more b c i m t;
    accepted = λ b c i r m e free a. closing_takes_one recorded (states_of (table b)) (states_of (table c)) i m (closes b c i a) free;
    others = λ b c i j r m e other a. omega (arith, closing_leaves_others recorded (states_of (table b)) (states_of (table c)) i j m (closes b c i a) other);
  }

pub timetabled_lawful : {S : Type 0} (letter : ℕ) (recorded : S → Record) (first_wait : ℕ → S → ℕ → Type 0) (wait_after : S → ℕ → ℕ) → ((s : S) (wait m : ℕ) → after (wait_after s wait) (recorded s).row.gap m ≤ after wait (recorded s).row.gap (m + 1)) → Laws (timetabled letter recorded first_wait wait_after)
timetabled_lawful {S} letter recorded first_wait wait_after no_more =
    let begins : Timetable S → ℕ → Timetable S → Type 0 = λ b moment c. Rewaited (λ i s wait. first_wait moment s wait) (states_of b.table) (states_of c.table) in
    let ticks : Timetable S → Timetable S → Type 0 = λ b c. states_of c.table ≡ map (ticked wait_after) (states_of b.table) in
    let accepts : Timetable S → ℕ → Timetable S → Type 0 = λ b i c. Closes recorded (states_of b.table) i (states_of c.table) in
    tabled_lawful letter recorded (λ (b : Timetable S). b.table) begins ticks accepts
    (λ b. b.few)
    (λ b c moment e. rewaiting_keeps recorded (λ i s wait. first_wait moment s wait) (states_of b.table) (states_of c.table) e)
    (λ b c e. ticking_keeps recorded wait_after (states_of b.table) (states_of c.table) e)
    (λ b c i m t. ticked_opens_no_more recorded wait_after no_more (states_of b.table) (states_of c.table) i m t)
    (λ b c i a. a)
