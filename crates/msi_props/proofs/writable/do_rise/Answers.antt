use Rattle.std.proofs.Common.{◌+◌, ◌<◌, ◌^◌, map, arith, subst, sym}
use Rattle.std.specs.List.{AllByRecursion}
use Rattle.msi_props.specs.Held.{pair_in}
use Rattle.msi_props.specs.Kept.{Rise}
use Rattle.msi_props.proofs.SetFits.{Decides, RiseFrom, from_place, rises_all, rises_from_none, rises_next, rises_not}
use Rattle.msi_props.proofs.writable.do_rise.Goals as goal

pub loop-value-init : goal.loop-value-init
loop-value-init c = rises_from_none (map pair_in c.args.values.now)

pub loop-value-preserved : goal.loop-value-preserved
loop-value-preserved c =
    subst (λ n. Decides (Rise (map pair_in c.args.values.now) × AllByRecursion (λ v. v.0 < 2 ^ 32) (map pair_in c.args.values.now)) (RiseFrom (n + 1) (from_place (c.loop-value.value-index + 1) c.args.values.now))) (sym c.from-number.ensures)
    (rises_next c.args.values.now c.loop-value.value-index c.value-item.result (omega arith) c.value-item.is c.loop-value.least (Rise (map pair_in c.args.values.now) × AllByRecursion (λ v. v.0 < 2 ^ 32) (map pair_in c.args.values.now))
    (omega arith) (omega arith) c.loop-value.invariant)

pub returns-then-number-least : goal.returns-then-number-least
returns-then-number-least c = (
  λ no. absurd (cc),
  λ all. absurd (rises_not c.args.values.now c.loop-value.value-index c.value-item.result (omega arith) c.value-item.is c.loop-value.least (Rise (map pair_in c.args.values.now) × AllByRecursion (λ v. v.0 < 2 ^ 32) (map pair_in c.args.values.now))
      (omega arith) c.loop-value.invariant all),
)

pub returns : goal.returns
returns c = (
  λ yes. rises_all c.args.values.now c.loop-value.value-index c.loop-value.least (Rise (map pair_in c.args.values.now) × AllByRecursion (λ v. v.0 < 2 ^ 32) (map pair_in c.args.values.now)) (omega arith) c.loop-value.invariant,
  λ all. grind arith,
)
