-- The rules that every bank keeps.

use Rattle.std.specs.Prelude.{◌≡◌, ℕ, ◌+◌, ◌<◌, ◌≤◌, true, is_some, Some, ◌≢◌}
use Rattle.stream.specs.declared.limits.Record.{Record}
use Rattle.bank.specs.Ceilings.{Ceiling}
use Rattle.bank.specs.Kinds.{Kind}

-- Two banks with the same streams: number, records, counts and ceilings.
pub record Same {S : Type 0} (k : Kind S) (b c : S) : Type 0 where
  pub streams : k.streams c ≡ k.streams b
  pub records : (i : ℕ) → k.records c i ≡ k.records b i
  pub count : (i : ℕ) → k.count c i ≡ k.count b i
  pub ceiling : (i m : ℕ) → k.ceiling c i m ≡ k.ceiling b i m

pub record Laws {S : Type 0} (k : Kind S) : Type 0 where
  -- a bank has at most 33 streams
  pub few : (b : S) → k.streams b ≤ 33
  -- the streams are those numbered from 1 on
  pub listed : (b : S) (i : ℕ) → 1 ≤ i → i ≤ k.streams b → is_some (k.records b i) ≡ true
  pub numbered : (b : S) (i : ℕ) (r : Record) → k.records b i ≡ Some r → (1 ≤ i) × (i ≤ k.streams b)
  -- each ceiling is 1 within a deadline, never falls, and repeats with the gap
  pub ceilings : (b : S) (i : ℕ) (r : Record) → k.records b i ≡ Some r → Ceiling r.row (k.count b i) (k.ceiling b i)
  -- no act changes a record, a count, a ceiling or the number of streams
  pub begin_keeps : (b c : S) (moment : ℕ) → k.begins b moment c → Same k b c
  pub tick_keeps : (b c : S) → k.ticks b c → Same k b c
  pub accept_keeps : (b c : S) (i : ℕ) → k.accepts b i c → Same k b c
  -- begin makes a bank begun, and it stays so
  pub begin_begins : (b c : S) (moment : ℕ) → k.begins b moment c → k.begun c
  pub tick_begun : (b c : S) → k.begun b → k.ticks b c → k.begun c
  pub accept_begun : (b c : S) (i : ℕ) → k.begun b → k.accepts b i c → k.begun c
  -- from begin on, an opening is at most the ceiling
  pub within : (b : S) (i : ℕ) (r : Record) (m : ℕ) → k.begun b → k.records b i ≡ Some r → k.opening b i m ≤ k.ceiling b i m
  -- after a tick O(m) is at most the former O(m + 1)
  pub ticked : (b c : S) (i : ℕ) (r : Record) (m : ℕ) → k.records b i ≡ Some r → k.ticks b c → k.opening c i m ≤ k.opening b i (m + 1)
  -- an accepted release takes at least one off that stream's opening, and no other opening grows
  pub accepted : (b c : S) (i : ℕ) (r : Record) (m : ℕ) → k.records b i ≡ Some r → 0 < k.opening b i 0 → k.accepts b i c → k.opening c i m + 1 ≤ k.opening b i m
  pub others : (b c : S) (i j : ℕ) (r : Record) (m : ℕ) → k.records b j ≡ Some r → (j ≢ i) → k.accepts b i c → k.opening c j m ≤ k.opening b j m
