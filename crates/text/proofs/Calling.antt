-- The form of a call: one bracket, and then one of the kinds, which begin apart. A text begins with at most one call.

use Rattle.std.proofs.Common.{◌≡◌, ℕ, Bool, true, false, List, ◌++◌, ◌≢◌, length, slice_get, Option, Some, None, cond, eqb, codes, refl, ap}
use Rattle.text.specs.declared.call.Call.{Call}
use Rattle.text.specs.declared.call.Call.TheVariants.{Release, Turn, Calm}
use Rattle.text.specs.Calls.{report_bytes, turn_bytes, order_bytes, call_bytes, ValidCall, CallForm}
use Rattle.text.specs.Reading.{closed}
use Rattle.text.specs.Words.{Form, Exactly, Small, Leaves, numbered}
use Rattle.text.proofs.Forms.{leaves_here, Told, leaves_told, same_value}
use Rattle.text.proofs.Grammar.{at_prefix, after_prefix, of_kind, of_none}
use Rattle.text.proofs.Lining.{at_numbered, after_numbered}
use Rattle.text.proofs.Numerals.{Field}
use Rattle.text.proofs.Unique.{differ, same_moment}

-- ---- the report

abbrev ReportForm : List ℕ → Type 0
ReportForm = Form report_bytes (λ _. Unit {0})

abbrev pub report_told : Told report_bytes
report_told = record { value = elim [ None ↦ false | Some b ↦ eqb b 121 ]; tells = elim [ true ↦ λ _. refl | false ↦ λ _. refl ] }

pub report_begun : (s : List ℕ) (k : ℕ) → Leaves (Exactly (report_bytes (report_told.value (slice_get s 0)))) s k → Leaves ReportForm s k
report_begun = leaves_told report_told

pub report_none : (s : List ℕ) (k : ℕ) → slice_get s 0 ≢ Some 121 → slice_get s 0 ≢ Some 110 → k ≡ length s → Leaves ReportForm s k
report_none s k done undone = leaves_here report_bytes (λ _. Unit {0}) s k 110 _ (false, tt, refl) (elim [ true ↦ λ _. done | false ↦ λ _. undone ])

-- where a report goes out of shape
pub ruleset report_ends = (report_begun, report_none)

abbrev TurnForm : List ℕ → Type 0
TurnForm = Form turn_bytes (λ _. Unit {0})

pub at_turn : (s : List ℕ) (k : ℕ) → Leaves (Exactly (codes "turn ")) s k → Leaves TurnForm s k
at_turn s k l = at_prefix (codes "turn ") report_bytes (λ _. Unit {0}) s k true tt l

-- ---- the call

abbrev ReleaseForm : List ℕ → Type 0
ReleaseForm = Form (numbered (codes "release ")) Small

pub at_call : (s : List ℕ) (k : ℕ) → Leaves (Exactly (codes "(")) s k → Leaves CallForm s k
at_call s k l = at_prefix (codes "(") order_bytes ValidCall s k Calm tt l

-- the first byte tells the kind
abbrev OrderKind : Option ℕ → List ℕ → Type 0
OrderKind None = λ w. ⊥
OrderKind (Some b) = cond (eqb b 114) ReleaseForm (cond (eqb b 116) TurnForm (cond (eqb b 99) (Exactly (codes "calm)\n")) (λ w. ⊥)))

order_kind : (c : Call) → ValidCall c → OrderKind (slice_get (order_bytes c) 0) (order_bytes c)
order_kind (Release n) v = (n, v, refl)
order_kind (Turn d) v = (d, v, refl)
order_kind Calm v = refl

module _ (s t : List ℕ) (k : ℕ) (e : s ≡ codes "(" ++ t) where
  pub call_release : slice_get t 0 ≡ Some 114 → Leaves ReleaseForm t k → Leaves CallForm s k
  call_release = of_kind order_bytes ValidCall s t k e OrderKind order_kind _ (λ w r. (Release r.0, r.1, r.2))

  pub call_turn : slice_get t 0 ≡ Some 116 → Leaves TurnForm t k → Leaves CallForm s k
  call_turn = of_kind order_bytes ValidCall s t k e OrderKind order_kind _ (λ w r. (Turn r.0, r.1, r.2))

  pub call_calm : slice_get t 0 ≡ Some 99 → Leaves (Exactly (codes "calm)\n")) t k → Leaves CallForm s k
  call_calm = of_kind order_bytes ValidCall s t k e OrderKind order_kind _ (λ w r. (Calm, tt, r))

  pub release_number : {u : List ℕ} → slice_get t 0 ≡ Some 114 → t ≡ codes "release " ++ u → Leaves (Field (codes ")\n")) u k → Leaves CallForm s k
  release_number {u} is f l = call_release is (after_numbered (codes "release ") t u k f l)

  pub turn_report : {u : List ℕ} → slice_get t 0 ≡ Some 116 → t ≡ codes "turn " ++ u → Leaves ReportForm u k → Leaves CallForm s k
  turn_report {u} is f l = call_turn is (after_prefix (codes "turn ") report_bytes (λ _. Unit {0}) t u k f l)

  pub call_kind : slice_get t 0 ≢ Some 114 → slice_get t 0 ≢ Some 116 → slice_get t 0 ≢ Some 99 → k ≡ length t → Leaves CallForm s k
  call_kind release turn calm = of_none order_bytes ValidCall s t k e 99 _ (Calm, tt, refl) (elim [ Release n ↦ λ _. release | Turn d ↦ λ _. turn | Calm ↦ λ _. calm ])

-- where each part of a call goes out of shape
pub ruleset call_ends = (at_call, call_release, at_numbered, release_number, call_turn, at_turn, turn_report, call_calm, call_kind)

-- ---- at most one call

pub same_call : (c d : Call) (x y : List ℕ) → ValidCall c → ValidCall d → call_bytes c ++ x ≡ call_bytes d ++ y → c ≡ d
same_call (Release m) (Release n) x y s t e =
    let tails : closed (codes ")\n") m ++ x ≡ closed (codes ")\n") n ++ y = cc in
    ap (λ (z : ℕ). Release z) (same_moment m n x y s t tails)
same_call (Turn c) (Turn d) x y s t e =
    let tails : report_bytes c ++ x ≡ report_bytes d ++ y = cc in
    ap (λ (z : Bool). Turn z) (same_value report_told c d x y tails).0
same_call Calm Calm x y s t e = refl
same_call (Release m) (Turn d) x y s t e = differ 1 e refl
same_call (Release m) Calm x y s t e = differ 1 e refl
same_call (Turn c) (Release n) x y s t e = differ 1 e refl
same_call (Turn c) Calm x y s t e = differ 1 e refl
same_call Calm (Release n) x y s t e = differ 1 e refl
same_call Calm (Turn d) x y s t e = differ 1 e refl
