-- The acts of a kind left as loose as the rules allow: a caller learns of an act what holds of every bank, and no more.

use Rattle.std.specs.Prelude.{◌≡◌, ℕ, ◌+◌, ◌<◌, ◌≤◌, Some, ◌≢◌}
use Rattle.stream.specs.declared.limits.Record.{Record}
use Rattle.bank.specs.Kinds.{Kind}
use Rattle.bank.specs.Laws.{Same}

module _ {S : Type 0} (k : Kind S) where
  pub record Begins (b : S) (moment : ℕ) (c : S) : Type 0 where
    pub same : Same k b c
    pub begun : k.begun c

  pub record Ticks (b c : S) : Type 0 where
    pub same : Same k b c
    pub begun : k.begun b → k.begun c
    pub opening : (i : ℕ) (r : Record) (m : ℕ) → k.records b i ≡ Some r → k.opening c i m ≤ k.opening b i (m + 1)

  pub record Accepts (b : S) (i : ℕ) (c : S) : Type 0 where
    pub same : Same k b c
    pub begun : k.begun b → k.begun c
    pub opening : (r : Record) (m : ℕ) → k.records b i ≡ Some r → 0 < k.opening b i 0 → k.opening c i m + 1 ≤ k.opening b i m
    pub others : (j : ℕ) (r : Record) (m : ℕ) → k.records b j ≡ Some r → (j ≢ i) → k.opening c j m ≤ k.opening b j m

  -- what is asked is answered as before
  abbrev pub loosest : Kind S
  loosest = record {
    letter = k.letter;
    streams = k.streams;
    records = k.records;
    count = k.count;
    ceiling = k.ceiling;
    opening = k.opening;
    begun = k.begun;
    begins = Begins;
    ticks = Ticks;
    accepts = Accepts;
  }
