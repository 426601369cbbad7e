-- When an answer is of ordinary size: its numbers are no greater than a run of a text of at most 65,536 bytes makes them.

use Rattle.std.specs.Prelude.{◌≡◌, ◌^◌, ◌<◌, ◌≤◌}
use Rattle.std.specs.Int.Signed.{mag}
use Rattle.stream.specs.declared.Fault.{Fault}
use Rattle.stream.specs.declared.Point.{Point}
use Rattle.stream.specs.declared.Refusal.TheVariants.{DemandExceeded}
use Rattle.stream.specs.declared.Verdict.{Verdict}
use Rattle.text.specs.declared.answer.Answer.{Answer}
use Rattle.text.specs.declared.answer.Answer.TheVariants.{Accepted, Refused, Took, Ran, Calm, Total}
use Rattle.text.specs.Words.{Small}
use Rattle.turns.specs.declared.Counts.{Counts}
use Rattle.turns.specs.declared.Settled.{Settled}
use Rattle.turns.specs.declared.Settled.TheVariants.{Idle, Ran as HadBy}

-- A margin from -2^42 on and below 2^42: mag is n both for n and for -(n + 1).
abbrev pub OrdinaryPoint : Point → Type 0
OrdinaryPoint p = (p.length ≤ 1000000) × (mag p.margin < 2 ^ 42)

abbrev pub OrdinaryVerdict : Verdict → Type 0
OrdinaryVerdict v = (v.horizon ≤ 1000000) × (v.lengths ≤ 1000001) × OrdinaryPoint v.point

-- A text of 65,536 bytes has at most that many newlines and at most that many bytes in a line, and a fault may stand behind the last.
abbrev pub OrdinaryFault : Fault → Type 0
OrdinaryFault f = (f.line ≤ 65537) × (f.byte ≤ 65537) × ((v : Verdict) → f.refusal ≡ DemandExceeded v → OrdinaryPoint v.point)

abbrev pub OrdinarySettled : Settled → Type 0
OrdinarySettled Idle = Unit {0}
OrdinarySettled (HadBy stream how) = Small stream

-- A job takes a line to release.
abbrev pub OrdinaryCounts : Counts → Type 0
OrdinaryCounts n = (n.accepted ≤ 65536) × (n.finished ≤ 65536) × (n.cut ≤ 65536) × (n.dropped ≤ 65536) × (n.waiting ≤ 65536)

abbrev pub Ordinary : Answer → Type 0
Ordinary (Accepted v) = OrdinaryVerdict v
Ordinary (Refused f) = OrdinaryFault f
Ordinary (Took stream) = Small stream
Ordinary (Ran settled) = OrdinarySettled settled
Ordinary (Calm moment) = moment ≤ 1000000000000
Ordinary (Total n) = OrdinaryCounts n
