use Rattle.std.proofs.Common.{◌∙◌, map, arith, sym}
use Rattle.std.specs.List.{AllByRecursion}
use Rattle.msi_props.specs.Held.{pair_in}
use Rattle.msi_props.specs.Kept.{IsKeptValue}
use Rattle.msi_props.proofs.SetFits.{keeps_all, keeps_next, keeps_one}
use Rattle.msi_props.proofs.writable.are_kept.Goals as goal

pub loop-value-init : goal.loop-value-init
loop-value-init c = record { all = λ q. q; rest = λ p. p }

pub loop-value-preserved : goal.loop-value-preserved
loop-value-preserved c =
    keeps_next c.args.values.now c.loop-value.value-index c.value-item.result (omega arith) c.value-item.is c.args.codepage (AllByRecursion (λ v. IsKeptValue c.args.codepage v.1) (map pair_in c.args.values.now))
    (c.is_kept.ensures.0 c.if-not-is_kept.false) c.loop-value.invariant

pub returns-then-not-is_kept : goal.returns-then-not-is_kept
returns-then-not-is_kept c = (
  λ no. absurd (cc),
  λ all.
      sym c.if-not-is_kept.true ∙ c.is_kept.ensures.1
      (keeps_one c.args.values.now c.loop-value.value-index c.value-item.result (omega arith) c.value-item.is c.args.codepage (AllByRecursion (λ v. IsKeptValue c.args.codepage v.1) (map pair_in c.args.values.now)) c.loop-value.invariant all),
)

pub returns : goal.returns
returns c = (
  λ yes. keeps_all c.args.codepage c.args.values.now c.loop-value.value-index (AllByRecursion (λ v. IsKeptValue c.args.codepage v.1) (map pair_in c.args.values.now)) (omega arith) c.loop-value.invariant,
  λ all. grind arith,
)
