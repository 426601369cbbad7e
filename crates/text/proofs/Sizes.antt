-- An answer of ordinary size has a line of at most 80 bytes.

use Rattle.std.proofs.Common.{◌≡◌, ℕ, ◌+◌, ◌^◌, ◌<◌, ◌≤◌, List, [], ◌∷◌, ◌++◌, length, codes, decimal, refl, arith, lit<, lit≤, length-append}
use Rattle.std.proofs.lemmas.Fmt.{length-decimal-le, length_signed_le}
use Rattle.std.specs.Fmt.{signed_decimal}
use Rattle.stream.specs.Refusals.{number, letter}
use Rattle.stream.specs.Shown.{decisive, phase_word, point_line}
use Rattle.stream.specs.declared.Phase.{Phase}
use Rattle.stream.specs.declared.Phase.TheVariants.{Normal, Overrun}
use Rattle.stream.specs.declared.Point.{Point}
use Rattle.stream.specs.declared.Refusal.{Refusal}
use Rattle.stream.specs.declared.Refusal.TheVariants.{OutOfShape, TooManyStreams, SporadicAfterRaster, GapOutOfLimits, DeadlineOutOfLimits, BudgetOutOfLimits, ShortDeadlineOutOfLimits, PhaseOutOfLimits, NoStream, HorizonTooFar, DemandExceeded, MomentTooLate, FactorOutOfLimits, NoSuchStream, TurnOut, BackgroundInOverrun, NotOpen, NoTurnToSettle, JobWaits, AlreadyNormal, Shut, LastMoment}
use Rattle.stream.specs.declared.Verdict.{Verdict}
use Rattle.text.specs.declared.answer.Answer.{Answer}
use Rattle.text.specs.declared.answer.Answer.TheVariants.{Accepted, Refused, Took, Ran, Calm, Total}
use Rattle.text.specs.Shown.{answer_line}
use Rattle.text.proofs.Ordinary.{OrdinaryPoint, OrdinarySettled, OrdinaryCounts, Ordinary}
use Rattle.text.specs.Words.{Small}
use Rattle.turns.specs.Shown.{counts_line, end_word, settled_line}
use Rattle.turns.specs.declared.Counts.{Counts}
use Rattle.turns.specs.declared.End.{End}
use Rattle.turns.specs.declared.End.TheVariants.{Going, Finished, Cut, Switch}
use Rattle.turns.specs.declared.Settled.{Settled}
use Rattle.turns.specs.declared.Settled.TheVariants.{Idle, Ran as HadBy}

record Within (bytes : List ℕ) (most : ℕ) : Type 0 where
  bound : length bytes ≤ most

follow : {front back : List ℕ} {j k : ℕ} → Within front j → Within back k → Within (front ++ back) (j + k)
follow {front} {back} f b = record { bound = omega (arith, length-append front back, f.bound, b.bound) }

word : (front : List ℕ) {back : List ℕ} {k : ℕ} → Within back k → Within (front ++ back) (length front + k)
word front b = follow (record { bound = omega arith }) b

closing : Within (codes ")") 1
closing = record { bound = lit≤ tt }

number_within : (digits n : ℕ) → 0 < digits → n < 10 ^ digits → n < 2 ^ 64 → Within (decimal n) digits
number_within digits n some small fits = record { bound = length-decimal-le digits n some small fits }

five : (n : ℕ) → n ≤ 65537 → Within (decimal n) 5
five n h = number_within 5 n (lit< tt) (omega arith) (omega arith)

seven : (n : ℕ) → n ≤ 1000001 → Within (decimal n) 7
seven n h = number_within 7 n (lit< tt) (omega arith) (omega arith)

thirteen : (n : ℕ) → Small n → Within (decimal n) 13
thirteen n h = number_within 13 n (lit< tt) h (omega arith)

phase_within : (p : Phase) → Within (phase_word p) 7
phase_within Normal = record { bound = lit≤ tt }
phase_within Overrun = record { bound = lit≤ tt }

margin_within : (p : Point) → OrdinaryPoint p → Within (signed_decimal p.margin) 14
margin_within p (near, small) = record { bound = length_signed_le 13 p.margin (omega arith) (omega arith) }

point_within : (p : Point) → OrdinaryPoint p → Within (point_line p) 32
point_within p o =
    let near : p.length ≤ 1000001 = omega (arith, o.0) in
    word (codes "(") (follow (phase_within p.phase) (word (codes " ") (follow (seven p.length near) (word (codes " ") (follow (margin_within p o) closing)))))

-- a refusal's number has two digits at most
refusal_within : (r : Refusal) → ((v : Verdict) → r ≡ DemandExceeded v → OrdinaryPoint v.point) → (number r < 10 ^ 2) × Within (decisive r) 33
refusal_within OutOfShape o = (lit< tt, record { bound = lit≤ tt })
refusal_within TooManyStreams o = (lit< tt, record { bound = lit≤ tt })
refusal_within SporadicAfterRaster o = (lit< tt, record { bound = lit≤ tt })
refusal_within GapOutOfLimits o = (lit< tt, record { bound = lit≤ tt })
refusal_within DeadlineOutOfLimits o = (lit< tt, record { bound = lit≤ tt })
refusal_within BudgetOutOfLimits o = (lit< tt, record { bound = lit≤ tt })
refusal_within ShortDeadlineOutOfLimits o = (lit< tt, record { bound = lit≤ tt })
refusal_within PhaseOutOfLimits o = (lit< tt, record { bound = lit≤ tt })
refusal_within NoStream o = (lit< tt, record { bound = lit≤ tt })
refusal_within HorizonTooFar o = (lit< tt, record { bound = lit≤ tt })
refusal_within (DemandExceeded v) o = (lit< tt, word (codes " ") (point_within v.point (o v refl)))
refusal_within MomentTooLate o = (lit< tt, record { bound = lit≤ tt })
refusal_within FactorOutOfLimits o = (lit< tt, record { bound = lit≤ tt })
refusal_within NoSuchStream o = (lit< tt, record { bound = lit≤ tt })
refusal_within TurnOut o = (lit< tt, record { bound = lit≤ tt })
refusal_within BackgroundInOverrun o = (lit< tt, record { bound = lit≤ tt })
refusal_within NotOpen o = (lit< tt, record { bound = lit≤ tt })
refusal_within NoTurnToSettle o = (lit< tt, record { bound = lit≤ tt })
refusal_within JobWaits o = (lit< tt, record { bound = lit≤ tt })
refusal_within AlreadyNormal o = (lit< tt, record { bound = lit≤ tt })
refusal_within Shut o = (lit< tt, record { bound = lit≤ tt })
refusal_within LastMoment o = (lit< tt, record { bound = lit≤ tt })

end_within : (e : End) → Within (end_word e) 8
end_within Going = record { bound = lit≤ tt }
end_within Finished = record { bound = lit≤ tt }
end_within Cut = record { bound = lit≤ tt }
end_within Switch = record { bound = lit≤ tt }

settled_within : (s : Settled) → OrdinarySettled s → Within (settled_line s) 22
settled_within Idle o = record { bound = lit≤ tt }
settled_within (HadBy stream how) small = follow (thirteen stream small) (word (codes " ") (end_within how))

count : (n : ℕ) → n ≤ 65536 → Within (decimal n) 5
count n h = five n (omega arith)

counts_within : (n : Counts) → OrdinaryCounts n → Within (counts_line n) 29
counts_within n o =
    follow (count n.accepted o.0)
    (word (codes " ") (follow (count n.finished o.1) (word (codes " ") (follow (count n.cut o.2) (word (codes " ") (follow (count n.dropped o.3) (word (codes " ") (count n.waiting o.4))))))))

ends_in_line : (bytes : List ℕ) (most : ℕ) → most ≤ 79 → Within bytes most → length bytes + 1 ≤ 80
ends_in_line bytes most few w = omega (arith, w.bound)

-- With its newline. The longest is a refusal that shows its point.
pub line_fits : (a : Answer) → Ordinary a → length (answer_line a) + 1 ≤ 80
line_fits (Accepted v) o =
    let horizon : v.horizon ≤ 1000001 = omega (arith, o.0) in
    ends_in_line _ 59 (lit≤ tt)
    (word (codes "(accepted ") (follow (follow (seven v.horizon horizon) (word (codes " ") (follow (seven v.lengths o.1) (word (codes " ") (point_within v.point o.2))))) closing))
line_fits (Refused f) o =
    let r = refusal_within f.refusal o.2 in
    let fits : number f.refusal < 2 ^ 64 = omega (arith, r.0) in
    ends_in_line _ 61 (lit≤ tt)
    (word (codes "(refused ")
    (follow
    (follow (number_within 2 (number f.refusal) (lit< tt) r.0 fits)
    (word (codes " ") (word (letter f.layer ∷ []) (word (codes " (") (follow (five f.line o.0) (word (codes " ") (follow (five f.byte o.1) (word (codes ")") r.1))))))))
    closing))
line_fits (Took stream) o = ends_in_line _ 20 (lit≤ tt) (word (codes "(took ") (follow (thirteen stream o) closing))
line_fits (Ran settled) o = ends_in_line _ 28 (lit≤ tt) (word (codes "(ran ") (follow (settled_within settled o) closing))
line_fits (Calm moment) o = ends_in_line _ 20 (lit≤ tt) (word (codes "(calm ") (follow (thirteen moment (omega arith)) closing))
line_fits (Total n) o = ends_in_line _ 37 (lit≤ tt) (word (codes "(total ") (follow (counts_within n o) closing))
