use Rattle.std.proofs.Common.{◌≡◌, ℕ, ◌-◌, ◌*◌, ◌^◌, ◌<◌, ◌≤◌, pos, sym, ap, ◌∙◌, arith, rules}
use Rattle.std.specs.Option.{unwrap_or}
use Rattle.stream.specs.declared.Phase.TheVariants.{Normal}
use Rattle.stream.specs.declared.Row.{Row}
use Rattle.bank.specs.Kinds.{Kind}
use Rattle.bank.specs.Laws.{Laws}
use Rattle.bank.specs.Questions.{asked, told}
use Rattle.demand.specs.Demands.{asks}
use Rattle.demand.specs.Listing.{Listed}
use Rattle.demand.proofs.Keeping.{normal_early, normal_late}
use Rattle.demand.proofs.Listing.{listed_within, listed_ceiling, listed_told}
use Rattle.demand.proofs.Totals.{asks_listed}
use Rattle.demand.proofs.Widths.{ceiling_at_most, product_fits, budget_fits}
use Rattle.demand.proofs.normal.normal_share_alone.Goals as goal

-- a share by what the bank tells
told_share : {S : Type 0} (k : Kind S) → Laws k → (b : S) (i : ℕ) (row : Row) → Listed k b i row → (t : ℕ) → t ≤ 1000000 → row.short ≤ t → (level : ℕ) → level ≡ unwrap_or (told (k.records b i) (k.ceiling b i) (asked (pos (t - row.short)))) 0 → (level * row.budget ≡ asks k b Normal t i) × (level * row.budget < 2 ^ 37)
told_share k laws b i row listed t within late level answer =
    let N = k.ceiling b i in
    let w = listed_within k b i row listed in
    let gap = w.0 in
    let is : level ≡ N (t - row.short) = answer ∙ listed_told k b i row listed (t - row.short) (omega arith) in
    let most = ceiling_at_most (listed_ceiling k laws b i row listed) w (t - row.short) in (
      ap (λ n. n * row.budget) is ∙ sym (normal_late row N t late) ∙ sym (asks_listed k b Normal i row t listed),
      product_fits level row.budget (omega arith) (budget_fits w),
    )

pub returns-then-length-row-clause-value : goal.returns-then-length-row-clause-value
returns-then-length-row-clause-value g c =
    let k = g.B.Bank.kind in
    let b = c.args.bank.now in
    let row = c.row-row.result in
    let listed : Listed k b c.args.stream row = search rules in
    sym (asks_listed k b Normal c.args.stream row c.args.length listed ∙ normal_early row (k.ceiling b c.args.stream) c.args.length c.if-length-row.true)

pub overflow_mul-result : goal.overflow_mul-result
overflow_mul-result g c =
    let k = g.B.Bank.kind in
    let b = c.args.bank.now in
    let row = c.row-row.result in
    let listed : Listed k b c.args.stream row = search rules in
    let share = told_share k g.met.B.Bank.lawful b c.args.stream row listed c.args.length c.requires c.if-length-row.false c.unwrap_or-level.result (search rules) in
    omega arith

pub returns : goal.returns
returns g c =
    let k = g.B.Bank.kind in
    let b = c.args.bank.now in
    let row = c.row-row.result in
    let listed : Listed k b c.args.stream row = search rules in
    let share = told_share k g.met.B.Bank.lawful b c.args.stream row listed c.args.length c.requires c.if-length-row.false c.unwrap_or-level.result (search rules) in
    record { value = share.0; bound = share.1 }
