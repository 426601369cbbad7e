use Rattle.std.proofs.Common.{◌≡◌, ◌≤◌, length, sym, ap, subst}
use Rattle.std.proofs.Math.Bridge.{le_prop}
use Rattle.table.specs.Tables.{states_of}
use Rattle.table.specs.declared.shared.Table.{Table}
use Rattle.table.specs.declared.timetable.Timetable.{Timetable}
use Rattle.table.proofs.timetable.banking.TimetableBank.accept.Goals as goal

-- a timetable is its table
same_timetable : {S : Type 0} (t : Table S) (b : Timetable S) (few : length (states_of t) ≤ 32) → t ≡ b.table → ◌≡◌ {A = Timetable S} (record { table = t; few = few }) b
same_timetable {S} t b few same =
    subst (λ (x : Table S). (f : length (states_of x) ≤ 32) → ◌≡◌ {A = Timetable S} (record { table = x; few = f }) b) (sym same)
    (λ f. ap (λ (z : length (states_of b.table) ≤ 32). record { table = b.table; few = z }) (le_prop f b.few)) few

-- what the table answers, the timetable does
pub returns : goal.returns
returns g c =
    let table = c.accept.ensures.answer in
    let still = same_timetable c.accept.new.self c.args.self.now _ in
    record {
      absent = λ none. let (refused, same) = table.absent none in (refused, still same);
      shut = λ r found closed. let (refused, same) = table.shut r found closed in (refused, still same);
      taken = table.taken;
    }
