use Rattle.std.proofs.Common.{◌++◌, ◌-◌, ◌+◌, ◌∙◌, List, ℕ, length, map, take, arith, ap, subst, sym}
use Rattle.std.proofs.lemmas.List.{length-map}
use Rattle.std.specs.Option.{option_to_list}
use Rattle.std.specs.Prelude.{string_bytes}
use Rattle.std.specs.declared.alloc.Global.{Global}
use Rattle.msi_props.proofs.SetFits.{from_place}
use Rattle.msi_props.specs.Held.{pair_in, property_in}
use Rattle.msi.proofs.Unfit.{Taken, next_unfit, no_unfit, taken_all, taken_full, taken_next}
use Rattle.msi.specs.Fitting.{unfit_text, unfit_values}
use Rattle.msi.proofs.fitting.with_unfit_values.Goals as goal

pub loop-value-init : goal.loop-value-init
loop-value-init c = record {
  few = omega (arith, length-map c.args.texts.items (string_bytes {Z = Global}));
  so = ap (λ n. map string_bytes c.args.texts.items ++ take (c.args.most - n) (unfit_values c.args.codepage (map pair_in c.args.values.now))) (length-map c.args.texts.items (string_bytes {Z = Global}));
}

pub loop-value-preserved : goal.loop-value-preserved
loop-value-preserved c =
    let page = c.args.codepage in
    let xs = c.args.values.now in
    let i = c.loop-value.value-index in
    let e = c.value-item.result in
    let taken = map string_bytes c.loop-value.texts.items in
    let all = map string_bytes c.args.texts.items ++ take (c.args.most - length c.args.texts.items) (unfit_values page (map pair_in xs)) in
    let rest = unfit_values page (from_place (i + 1) xs) in
    let pushed = c.in_ok-push_text.ensures.pushed ∙ ap (λ o. taken ++ option_to_list o) c.unfit_text.ensures in
    subst (λ ts. Taken c.args.most ts rest all) (sym pushed)
    (taken_next c.args.most taken (unfit_text page (property_in e.1)) rest all (omega (arith, c.loop-value.invariant.few, length-map c.loop-value.texts.items (string_bytes {Z = Global})))
    (subst (λ left. Taken c.args.most taken left all) (next_unfit page xs i e (omega arith) c.value-item.is) c.loop-value.invariant))
