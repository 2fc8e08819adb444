use Rattle.std.proofs.Common.{◌≡◌, ◌∙◌, ap, map, subst, sym, Global, List, Vec}
use Rattle.std.proofs.lemmas.List.Sorted.{IsPermutation-map, IsPermutation-sym, IsPermutation-trans}
use Rattle.std.specs.List.Sorted.{IsPermutation}
use Rattle.msi_values.specs.Datum.{data_of, Datum}
use Rattle.msi_values.specs.declared.value.Value.{Value}
use Rattle.msi_building.proofs.comparing.are_rows.Goals as goal

abbrev values_in : Vec Value Global → List Datum
values_in row = data_of row.items

pub returns : goal.returns
returns c same =
    let found = c.in_ok-found.found.items in
    let wanted = c.in_ok-wanted.wanted.items in
    let one = IsPermutation-map values_in found _ c.in_ok-sort.ensures.permutation in
    let other = IsPermutation-sym _ _ (IsPermutation-map values_in wanted _ c.in_ok-sort-2.ensures.permutation) in
    let is = sym (ap (map values_in) c.deref.ensures.value) ∙ c.are_same_rows.ensures same ∙ ap (map values_in) c.deref-2.ensures.value in
    let all = IsPermutation-trans _ _ _ one (subst (λ xs. IsPermutation xs (map values_in wanted)) (sym is) other) in
    subst (λ xs. IsPermutation xs (map values_in c.args.said.now)) c.in_ok-found.ensures.values (subst (λ ys. IsPermutation (map values_in found) ys) c.in_ok-wanted.ensures all)
