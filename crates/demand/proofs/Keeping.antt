-- What is remembered of a stream, before it is first asked and once it was.

use Rattle.std.proofs.Common.{sym, ◌≡◌, ℕ, ◌+◌, ◌-◌, ◌*◌, ◌^◌, ◌<◌, ◌≤◌, ap, ◌∙◌, subst, lit<, zero-mul, arith}
use Rattle.stream.specs.Limits.{Within}
use Rattle.stream.specs.declared.Class.TheVariants.{Critical}
use Rattle.stream.specs.declared.Phase.{Phase}
use Rattle.stream.specs.declared.Phase.TheVariants.{Normal, Overrun}
use Rattle.stream.specs.declared.Row.{Row}
use Rattle.bank.specs.Ceilings.{Ceiling}
use Rattle.bank.proofs.Backs.{back_before, back_after}
use Rattle.demand.specs.declared.watch.Plateau.{Plateau}
use Rattle.demand.specs.declared.watch.Watch.{Watch}
use Rattle.demand.specs.Shares.{normal_share, overrun_share, share_of, slack}
use Rattle.demand.specs.Watching.{On, Seen, Watched, Kept}
use Rattle.demand.proofs.Plateaus.{plateau_share}
use Rattle.demand.proofs.Watches.{on_after, on_later}

module _ (r : Row) (N : ℕ → ℕ) (t : ℕ) (p : Plateau) where
  pub seen_normal : Seen N (t - r.short) p → Watched Normal r N t p
  seen_normal seen = record { normal = λ e. seen; overrun = λ e critical. let z : ⊥ = cc in absurd z }

  pub seen_overrun : (r.class ≡ Critical → Seen N (t - slack r) p) → Watched Overrun r N t p
  seen_overrun seen = record { normal = λ e. let z : ⊥ = cc in absurd z; overrun = λ e critical. seen critical }

-- a stream that has no share below a length is not asked before it
pub early_kept : (phase : Phase) (r : Row) (N : ℕ → ℕ) (before t : ℕ) (p : Plateau) → t < before → ((q : ℕ) → q ≤ before → Watched phase r N q p) → ((q : ℕ) → q < before → share_of phase r N q ≡ 0) → Kept phase r N (t + 1) (record { plateau = p; steady = record { share = 0; end = before } })
early_kept phase r N before t p early still none = record {
  watched = still (t + 1) (omega arith);
  share = record { is = λ q from end. none q end; small = lit< tt };
  stays = λ q from end. still (q + 1) (omega arith);
}

pub unseen_still : (N : ℕ → ℕ) (before t : ℕ) (p : Plateau) → t < before → Seen N (t - before) p → (q : ℕ) → q ≤ before → Seen N (q - before) p
unseen_still N before t p early s q within = let same : t - before ≡ q - before = omega arith in subst (λ n. Seen N n p) same s

-- in a phase in which a stream is asked for the length less `before`
module _ (phase : Phase) (r : Row) (N : ℕ → ℕ) (before : ℕ) (watched : (t : ℕ) (p : Plateau) → Seen N (t - before) p → Watched phase r N t p) (t : ℕ) (p : Plateau) where
  pub asked_kept : {k : ℕ} → Ceiling r k N → Within r → before ≤ t → On N (t - before) p → (share end : ℕ) → end ≤ before + p.end → ((q : ℕ) → t ≤ q → q < end → share_of phase r N q ≡ share) → share < 2 ^ 37 → Kept phase r N (t + 1) (record { plateau = p; steady = record { share = share; end = end } })
  asked_kept law w late on share end within steady small = record {
    watched = watched (t + 1) p (on_after (t + 1 - before) (omega arith) on);
    share = record { is = λ q from far. steady q (omega arith) far; small = small };
    stays = λ q from far. watched (q + 1) p (on_after (q + 1 - before) (omega arith) (on_later law w on (q - before) (omega arith) (omega arith)));
  }

module _ (r : Row) (N : ℕ → ℕ) where
  pub normal_early : (q : ℕ) → q < r.short → normal_share r N q ≡ 0
  unfolding normal_share
  normal_early q early = ap (λ n. n * r.budget) (back_before N q r.short early) ∙ zero-mul r.budget

  pub normal_late : (q : ℕ) → r.short ≤ q → normal_share r N q ≡ N (q - r.short) * r.budget
  unfolding normal_share
  normal_late q late = ap (λ n. n * r.budget) (back_after N q r.short late)

  pub normal_asked : (t : ℕ) (p : Plateau) → r.short ≤ t → On N (t - r.short) p → (q : ℕ) → t ≤ q → q < r.short + p.end → normal_share r N q ≡ p.level * r.budget
  normal_asked t p late on q from before = normal_late q (omega arith) ∙ ap (λ n. n * r.budget) (on.lasts (q - r.short) (omega arith) (omega arith))

  -- past the plateau's first ticks, in which a carried-over job does its budget, the share stays
  pub overrun_asked : {k : ℕ} → Ceiling r k N → Within r → r.class ≡ Critical → (t : ℕ) (p : Plateau) → slack r ≤ t → On N (t - slack r) p → (q : ℕ) → t ≤ q → q < slack r + p.end → overrun_share r N q ≡ p.level * r.certain - (r.budget - (q - slack r - p.start))
  overrun_asked law w critical t p late on q from before =
      let there = on_later law w on (q - slack r) (omega arith) (omega arith) in
      plateau_share r N w critical law.rises q p.start p.level (omega arith) there.flat

-- a steady share is that of this length, and what is known lasts
pub kept_on : {phase : Phase} {r : Row} {N : ℕ → ℕ} {t : ℕ} {w : Watch} → Kept phase r N t w → t < w.steady.end → (w.steady.share ≡ share_of phase r N t) × Kept phase r N (t + 1) w
kept_on {phase} {r} {N} {t} {w} k before = (
  sym (k.share.is t (omega arith) before),
  record {
    watched = k.stays t (omega arith) before;
    share = record { is = λ q from end. k.share.is q (omega arith) end; small = k.share.small };
    stays = λ q from end. k.stays q (omega arith) end;
  },
)

-- a new memory knows nothing before the first length
pub new_kept : (phase : Phase) (r : Row) (N : ℕ → ℕ) (w : Watch) → w.plateau.level ≡ 0 → w.plateau.end ≡ 0 → w.steady.share ≡ 0 → w.steady.end ≡ 0 → Kept phase r N 0 w
new_kept phase r N w level end share until = record {
  watched = by_phase phase;
  share = record { is = λ q from before. let z : ⊥ = omega arith in absurd z; small = omega arith };
  stays = λ q from before. let z : ⊥ = omega arith in absurd z;
}
  where
    unseen : (before : ℕ) → Seen N (0 - before) w.plateau
    unseen before = record {
      unasked = λ first. (level, end);
      asked = λ later. let z : ⊥ = omega arith in absurd z;
      lasts = λ q from under. let z : ⊥ = omega arith in absurd z;
      near = omega arith;
    }

    by_phase : (p : Phase) → Watched p r N 0 w.plateau
    by_phase Normal = seen_normal r N 0 w.plateau (unseen r.short)
    by_phase Overrun = seen_overrun r N 0 w.plateau (λ critical. unseen (slack r))
