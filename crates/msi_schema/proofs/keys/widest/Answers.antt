use Rattle.std.proofs.Common.{◌≡◌, ℕ, Bool, true, false, cond, refl, ◌≤◌, length, take, arith, subst, Vec}
use Rattle.std.specs.Prelude.{All}
use Rattle.std.specs.Ordering.{is_lt, nat_cmp, ord_max}
use Rattle.std.proofs.lemmas.Bool.Decides.{nat_tests}
use Rattle.std.specs.declared.alloc.Global.{Global}
use Rattle.std.proofs.lemmas.List.{take_all}
use Rattle.std.proofs.lemmas.List.Elements.{All-more, All-weaker}
use Rattle.msi_values.specs.declared.borrowed.BorrowedValue.{BorrowedValue}
use Rattle.msi_schema.proofs.keys.widest.Goals as goal

abbrev IsWithin : ℕ → Vec BorrowedValue Global → Type 0
IsWithin width row = length row.items ≤ width

max_least : (m n w : ℕ) → w ≡ ord_max nat_cmp m n → (m ≤ w) × (n ≤ w)
max_least m n w is = on (is_lt (nat_cmp n m)) refl is
  where
    on : (b : Bool) → is_lt (nat_cmp n m) ≡ b → w ≡ cond b m n → (m ≤ w) × (n ≤ w)
    on true e h = (grind (arith, nat_tests, h, e), grind (arith, nat_tests, h, e))
    on false e h = (grind (arith, nat_tests, h, e), grind (arith, nat_tests, h, e))

pub loop-row-preserved : goal.loop-row-preserved
loop-row-preserved c =
    let rows = c.args.rows.now in
    let i = c.loop-row.row-index in
    let width = c.max-width.result in
    let most = max_least c.loop-row.width c.len.result width c.max-width.ensures in
    All-more (IsWithin width) rows i c.row-item.result c.loop-row-test.true
    (All-weaker (IsWithin c.loop-row.width) (IsWithin width) (λ row short. omega (arith, short, most.0)) (take i rows) c.loop-row.invariant)
    (subst (IsWithin width) c.row-item.is (omega (arith, most.1, c.len.ensures)))

pub returns : goal.returns
returns c =
    let all : take c.loop-row.row-index c.args.rows.now ≡ c.args.rows.now = take_all c.loop-row.row-index c.args.rows.now c.loop-row-test.false in
    subst (All (IsWithin c.loop-row.width)) all c.loop-row.invariant
