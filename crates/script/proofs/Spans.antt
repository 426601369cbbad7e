-- How much of a text a plan takes, and where a fault in it can stand.

use Rattle.std.proofs.Common.{sym, ◌∙◌, ◌≡◌, ℕ, ◌+◌, ◌≤◌, List, ◌++◌, length, codes, decimal, Some, None, Ok, Err, Option, Result, ap, arith, length-append}
use borrow.Author.Tests.{clash}
use Rattle.std.proofs.lemmas.List.Sums.{sum_by-append}
use Rattle.stream.specs.Making.{Made}
use Rattle.stream.specs.declared.Fault.{Fault}
use Rattle.stream.specs.declared.Refusal.{Refusal}
use Rattle.stream.specs.Refusals.{number, RefusedBy}
use Rattle.stream.specs.declared.Refusal.TheVariants.{DemandExceeded}
use Rattle.stream.specs.declared.Row.{Row}
use Rattle.stream.specs.declared.Verdict.{Verdict}
use Rattle.stream.specs.declared.limits.Record.{Record}
use Rattle.text.specs.Lines.{item_bytes, render}
use Rattle.text.specs.Words.{numbered}
use Rattle.text.specs.declared.line.Line.{Line}
use Rattle.text.specs.declared.line.Line.TheVariants.{Sporadic, Raster, Go}
use Rattle.text.specs.Reader.{Misshapen}
use Rattle.plan.specs.Plans.{Rows, Added, AddedSporadic, sporadic_full, sporadic_disordered, sporadic_unfit, AddedRaster, raster_full, raster_unfit, raster_unphased, Planned, ended, go, misshapen, refused, more}
use Rattle.plan.specs.declared.reading.Start.{Start}
use Rattle.script.specs.Buffers.{newlines}

pub newlines_append : (front back : List ℕ) → newlines (front ++ back) ≡ newlines front + newlines back
newlines_append front back = sum_by-append _ front back

-- a line with a number has a newline
pub numbered_newline : (word : List ℕ) (n : ℕ) → 1 ≤ newlines (numbered word n)
numbered_newline word n = omega (arith, newlines_append word (decimal n ++ codes ")\n"), newlines_append (decimal n) (codes ")\n"))

-- a bracket begins a line, and so what is left is shorter
pub rest_shorter : (text line rest : List ℕ) → text ≡ (codes "(" ++ line) ++ rest → length rest + 1 ≤ length text
rest_shorter text line rest e = omega (arith, ap length e, length-append (codes "(" ++ line) rest)

-- A fault within so many lines and bytes, that shows no point.
pub record Near (lines bytes : ℕ) (fault : Fault) : Type 0 where
  pub line : fault.line ≤ lines
  pub byte : fault.byte ≤ bytes
  pub pointless : (v : Verdict) → fault.refusal ≡ DemandExceeded v → ⊥

pub misshapen_near : {form : List ℕ → Type 0} {text : List ℕ} {line : ℕ} {fault : Fault} → Misshapen form text line fault → Near line (length text + 1) fault
misshapen_near off = record {
  line = omega (arith, ap (λ (f : Fault). f.line) off.place);
  byte = omega (arith, ap (λ (f : Fault). f.byte) off.place, ap length off.whole, length-append off.read off.unread);
  pointless = λ v e. let own = ap (λ (f : Fault). f.refusal) off.place in let no : ⊥ = cc in absurd no;
}

-- what is refused by another number than 11 shows no point
pub numbered_pointless : {e : Refusal} (v : Verdict) {n : ℕ} → number e ≡ n → (11 ≡ n → ⊥) → e ≡ DemandExceeded v → ⊥
numbered_pointless v numbered other is = other (ap number (sym is) ∙ numbered)

-- making a record is not refused by a demand
made_pointless : (row : Row) (e : Refusal) (v : Verdict) → Made row (Err e) → e ≡ DemandExceeded v → ⊥
made_pointless row e v made is =
    by 4 (λ z. omega arith)
    (made.gap (λ gap. by 5 (λ z. omega arith)
    (made.deadline gap (λ deadline. by 6 (λ z. omega arith)
    (made.budgets gap deadline (λ budgets. by 7 (λ z. omega arith)
    (made.short gap deadline budgets (λ short. clash (made.made gap deadline budgets short)))))))))
  where
    by : (n : ℕ) → (11 ≡ n → ⊥) → RefusedBy {X = Record} n (Err e) → ⊥
    by n other (f, told, numbered) = let same : e ≡ f = cc in numbered_pointless v numbered other (sym same ∙ is)

sporadic_pointless : {before next : Rows} {row : Row} {e : Refusal} (v : Verdict) → AddedSporadic before row (Err e) next → e ≡ DemandExceeded v → ⊥
sporadic_pointless v (sporadic_full full numbered) = numbered_pointless v numbered (λ z. omega arith)
sporadic_pointless v (sporadic_disordered room after numbered) = numbered_pointless v numbered (λ z. omega arith)
sporadic_pointless {row = row} {e = e} v (sporadic_unfit room first made) = made_pointless row e v made

raster_pointless : {before next : Rows} {row : Row} {phase : ℕ} {e : Refusal} (v : Verdict) → AddedRaster before row phase (Err e) next → e ≡ DemandExceeded v → ⊥
raster_pointless v (raster_full full numbered) = numbered_pointless v numbered (λ z. omega arith)
raster_pointless {row = row} {e = e} v (raster_unfit room made) = made_pointless row e v made
raster_pointless v (raster_unphased stream room same late numbered) = numbered_pointless v numbered (λ z. omega arith)

added_pointless : (before next : Rows) (e : Refusal) (stream : Line) (v : Verdict) → Added before stream (Err e) next → e ≡ DemandExceeded v → ⊥
added_pointless before next e (Sporadic row) v added is = sporadic_pointless v added is
added_pointless before next e (Raster row phase) v added is = raster_pointless v added is
added_pointless before next e (Go moment) v added is = absurd added

-- what is left, and where the plan says go or is at fault
abbrev pub ToldWithin : List ℕ → ℕ → List ℕ → Result (Option Start) Fault → Type 0
ToldWithin text line rest (Ok None) = Unit {0}
ToldWithin text line rest (Ok (Some start)) = (start.line ≤ line + length text) × (newlines rest + 1 ≤ newlines text)
ToldWithin text line rest (Err fault) = Near (line + length text) (length text + 1) fault

pub record Spans (text : List ℕ) (line : ℕ) (answer : Result (Option Start) Fault) (rest : List ℕ) (end : ℕ) : Type 0 where
  pub less : length rest ≤ length text
  pub lines : end + length rest ≤ line + length text
  pub told : ToldWithin text line rest answer

-- what is told of the text behind a line is told of the whole
told_before : (text front rest last : List ℕ) (line : ℕ) (answer : Result (Option Start) Fault) → text ≡ front ++ rest → length rest + 1 ≤ length text → ToldWithin rest (line + 1) last answer → ToldWithin text line last answer
told_before text front rest last line (Ok None) whole shorter told = tt
told_before text front rest last line (Ok (Some start)) whole shorter told = (omega (arith, told.0), omega (arith, told.1, ap newlines whole, newlines_append front rest))
told_before text front rest last line (Err fault) whole shorter told = record { line = omega (arith, told.line); byte = omega (arith, told.byte); pointless = told.pointless }

pub plan_spans : {text : List ℕ} {line : ℕ} {rows : Rows} {answer : Result (Option Start) Fault} {rest : List ℕ} {end : ℕ} {next : Rows} → Planned text line rows answer rest end next → Spans text line answer rest end
plan_spans ended = record { less = omega arith; lines = omega arith; told = tt }
plan_spans (go {text = text} {rest = rest} {line = line} {moment = moment} valid whole) =
    let shorter : length rest + 1 ≤ length text = rest_shorter text (item_bytes (Go moment)) rest whole in
    let bytes = newlines_append (render (Go moment)) rest in
    let inside = newlines_append (codes "(") (numbered (codes "go ") moment) in
    let own = numbered_newline (codes "go ") moment in
    record { less = omega arith; lines = omega arith; told = (omega arith, omega (arith, ap newlines whole)) }
plan_spans (misshapen {text = text} {line = line} some off) =
    let near = misshapen_near off in
    record { less = omega arith; lines = omega arith; told = record { line = omega (arith, near.line); byte = near.byte; pointless = near.pointless } }
plan_spans (refused {text = text} {rest = rest} {line = line} {rows = rows} {next = next} {e = e} stream valid whole added) =
    let shorter : length rest + 1 ≤ length text = rest_shorter text (item_bytes stream) rest whole in
    record { less = omega arith; lines = omega arith; told = record { line = omega arith; byte = omega arith; pointless = λ v is. added_pointless rows next e stream v added is } }
plan_spans (more {text = text} {rest = rest} {last = last} {line = line} {answer = answer} stream valid whole added later) =
    let shorter : length rest + 1 ≤ length text = rest_shorter text (item_bytes stream) rest whole in
    let spans = plan_spans later in
    record { less = omega (arith, spans.less); lines = omega (arith, spans.lines); told = told_before text (render stream) rest last line answer whole shorter spans.told }
