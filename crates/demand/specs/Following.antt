-- The streams of a bank, followed from length to length with what is remembered of each.

use Rattle.std.specs.Prelude.{◌≡◌, ℕ, ◌+◌, ◌<◌, List, length, slice_index_or}
use Rattle.stream.specs.declared.Phase.{Phase}
use Rattle.bank.specs.Kinds.{Kind}
use Rattle.demand.specs.Listing.{Entered}
use Rattle.demand.specs.Watching.{Kept}
use Rattle.demand.specs.declared.following.Followed.{Followed}
use Rattle.demand.specs.declared.following.Following.{Following}

module _ {S : Type 0} (k : Kind S) (b : S) where
  -- stream i of the bank, of which so much is known from length t on
  pub record Follow (p : Phase) (t i : ℕ) (stream : Followed) : Type 0 where
    pub numbered : stream.entry.number ≡ i
    pub entered : Entered k b stream.entry
    pub kept : Kept p stream.entry.row (k.ceiling b i) t stream.watch

  -- all streams, in their order
  pub record Follows (p : Phase) (t : ℕ) (streams : List Followed) : Type 0 where
    pub whole : length streams ≡ k.streams b
    pub each : (i : ℕ) (d : Followed) → i < length streams → Follow p t (i + 1) (slice_index_or streams i d)

-- they are followed up to length t
abbrev pub Upto : {S : Type 0} → Kind S → Following S → ℕ → Type 0
Upto k f t = Follows k f.bank.now f.phase t f.streams.items

-- past length t, the same streams in the same phase are followed up to the next
pub record Onward {S : Type 0} (k : Kind S) (f : Following S) (t : ℕ) (g : Following S) : Type 0 where
  pub bank : g.bank.now ≡ f.bank.now
  pub phase : g.phase ≡ f.phase
  pub upto : Upto k g (t + 1)
