-- What a script writes, line by line, from the answers of the calls that it takes.

use Rattle.std.proofs.Common.{◌≡◌, ℕ, List, [], ◌∷◌, length, ap, subst}
use Rattle.std.proofs.lemmas.List.{nil_from_length}
use Rattle.stream.specs.declared.Fault.{Fault}
use Rattle.stream.specs.declared.Verdict.{Verdict}
use Rattle.bank.specs.Kinds.{Kind}
use Rattle.engine.specs.Reports.{counts_of}
use Rattle.turns.specs.declared.Counts.{Counts}
use Rattle.turns.specs.declared.State.{State}
use Rattle.text.specs.Calls.{call_bytes, ValidCall, CallForm}
use Rattle.text.specs.Reader.{bytes_left, line_number, NoneRead, ReadBy}
use Rattle.text.specs.declared.answer.Answer.{Answer}
use Rattle.text.specs.declared.answer.Answer.TheVariants.{Accepted, Refused, Total}
use Rattle.text.specs.declared.call.Call.{Call}
use Rattle.text.specs.declared.reader.Reader.{Reader}
use Rattle.script.proofs.Accounting.{accounted}
use Rattle.script.specs.Performing.{Performed}
use Rattle.plan.proofs.Writing.{one_line, line_first}
use Rattle.plan.specs.Openings.{Opened, Unopened}
use Rattle.plan.specs.Plans.{PlanBank, no_rows, plan_kind}
use Rattle.plan.specs.Written.{Appended, line_of}
use Rattle.script.specs.Playing.{finished, broken, called, Wrote}
use Rattle.script.specs.Replays.{WroteAll, refused, accepted}

module _ {S : Type 0} (k : Kind S) (reader later : Reader) (b : S) (s : State) (before : List ℕ) (n : ℕ) where
  pub script_finished : (counts : Counts) (after : List ℕ) (m : ℕ) → length (bytes_left reader) ≡ 0 → counts ≡ counts_of s → Appended before n (line_of (Total counts)) after m → Wrote k (bytes_left reader) (line_number reader) b s before n after m
  script_finished counts after m none e wrote = (
    Total (counts_of s) ∷ [],
    simp (nil_from_length (bytes_left reader) none) finished,
    one_line (Total (counts_of s)) before after n m (subst (λ (c : Counts). Appended before n (line_of (Total c)) after m) e wrote),
  )

  pub script_broken : (fault : Fault) (after : List ℕ) (m : ℕ) → (length (bytes_left reader) ≡ 0 → ⊥) → NoneRead CallForm reader fault later → Appended before n (line_of (Refused fault)) after m → Wrote k (bytes_left reader) (line_number reader) b s before n after m
  script_broken fault after m some off wrote = (
    Refused fault ∷ [],
    broken (λ (none : bytes_left reader ≡ []). some (ap length none)) off.misshapen,
    one_line (Refused fault) before after n m wrote,
  )

  pub script_called : (call : Call) (line : ℕ) (answer : Answer) (c : S) (t : State) (mid after : List ℕ) (h m : ℕ) → ReadBy call_bytes ValidCall reader call later → line ≡ line_number reader → Performed k b s call line answer c t → Appended before n (line_of answer) mid h → Wrote k (bytes_left later) (line_number later) c t mid h after m → Wrote k (bytes_left reader) (line_number reader) b s before n after m
  script_called call line answer c t mid after h m read here done told rest = (
    answer ∷ rest.0,
    called call read.valid read.whole (rw here at done) (simp read.next at rest.1),
    line_first answer rest.0 before mid after n h m told rest.2,
  )

-- the whole text
pub play_refused : (text : List ℕ) (fault : Fault) {rest : List ℕ} {end : ℕ} (before after : List ℕ) (m : ℕ) → Unopened text 1 no_rows fault rest end → Appended before 0 (line_of (Refused fault)) after m → WroteAll text before after m
play_refused text fault before after m off told = (Refused fault ∷ [], refused off, one_line (Refused fault) before after 0 m told)

pub play_accepted : (text : List ℕ) (verdict : Verdict) (b : PlanBank) (s : State) (rest : List ℕ) (end : ℕ) (before mid after : List ℕ) (h m : ℕ) → Opened text 1 no_rows verdict b s rest end → Appended before 0 (line_of (Accepted verdict)) mid h → Wrote plan_kind rest end b s mid h after m → WroteAll text before after m
play_accepted text verdict b s rest end before mid after h m opened told wrote = (
  Accepted verdict ∷ wrote.0,
  accepted opened wrote.1 (accounted plan_kind opened.promise wrote.1),
  line_first (Accepted verdict) wrote.0 before mid after 0 h m told wrote.2,
)
