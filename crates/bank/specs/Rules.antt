-- The rules of every bank as they are said in words: of the whole bank, and of a stream over whole numbers, below 0 too. N and O are 0 below 0.

use Rattle.std.specs.Prelude.{◌≡◌, ℕ, ◌+◌, ◌<◌, ◌≤◌, true, is_some, ℤ, pos, negsuc, ◌+ℤ◌, neg_ℤ, ◌≤ℤ◌, ◌<ℤ◌, ◌≢◌}
use Rattle.stream.specs.declared.limits.Record.{Record}
use Rattle.bank.specs.Kinds.{Kind}
use Rattle.bank.specs.Laws.{Same}
use Rattle.bank.specs.Runs.{AtMost, AtMostToCome}

pub record Whole {S : Type 0} (k : Kind S) (b : S) : Type 0 where
  -- at most 33 streams, numbered from 1, and no other
  pub few : k.streams b ≤ 33
  pub listed : (i : ℕ) → 1 ≤ i → i ≤ k.streams b → is_some (k.records b i) ≡ true
  pub numbered : (i : ℕ) → is_some (k.records b i) ≡ true → (1 ≤ i) × (i ≤ k.streams b)
  -- no act changes a record, a count, a ceiling or the number of streams; and a bank is begun by a begin, and stays so
  pub begins : (c : S) (moment : ℕ) → k.begins b moment c → Same k b c × k.begun c
  pub ticks : (c : S) → k.ticks b c → Same k b c × (k.begun b → k.begun c)
  pub accepts : (c : S) (i : ℕ) → k.accepts b i c → Same k b c × (k.begun b → k.begun c)

abbrev pub level : (ℕ → ℕ) → ℤ → ℕ
level f (pos m) = f m
level f (negsuc m) = 0

pub record Rules {S : Type 0} (k : Kind S) (b : S) (i : ℕ) (r : Record) : Type 0 where
  -- N(m) = 1 for m from 0 to D - 1
  pub single : (m : ℤ) → pos 0 ≤ℤ m → m <ℤ pos r.row.deadline → level (k.ceiling b i) m ≡ 1
  -- N never falls as m grows
  pub rises : (m n : ℤ) → m ≤ℤ n → level (k.ceiling b i) m ≤ level (k.ceiling b i) n
  -- N(m + T) = N(m) + k for every m from -D up
  pub repeats : (m : ℤ) → neg_ℤ (pos r.row.deadline) ≤ℤ m → level (k.ceiling b i) (m +ℤ pos r.row.gap) ≡ level (k.ceiling b i) m + k.count b i
  -- k is from 1 to T
  pub some : 1 ≤ k.count b i
  pub few : k.count b i ≤ r.row.gap
  -- O(m) is at most N(m), from begin on
  pub within : (m : ℤ) → k.begun b → level (k.opening b i) m ≤ level (k.ceiling b i) m
  -- after a tick O(m) is at most the former O(m + 1)
  pub ticked : (c : S) (m : ℤ) → k.ticks b c → level (k.opening c i) m ≤ level (k.opening b i) (m +ℤ pos 1)
  -- an accepted release: O(m) + 1 is at most the former O(m), for m from 0
  pub accepted : (c : S) (m : ℤ) → pos 0 ≤ℤ m → 0 < k.opening b i 0 → k.accepts b i c → level (k.opening c i) m + 1 ≤ level (k.opening b i) m
  -- and no other opening grows
  pub others : (c : S) (j : ℕ) (m : ℤ) → (i ≢ j) → k.accepts b j c → level (k.opening c i) m ≤ level (k.opening b i) m
  -- what they mean, at every m: N(m) bounds the releases accepted in any m + 1 consecutive moments from begin on, and O(m) those still to be accepted from this moment to m moments later
  pub accepted_within : (m : ℕ) → AtMost k b i (m + 1) (k.ceiling b i m)
  pub still_to_come : (m : ℕ) → AtMostToCome k b i (m + 1) (k.opening b i m)
