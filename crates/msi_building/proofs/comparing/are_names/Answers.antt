use Rattle.std.proofs.Common.{◌≡◌, ◌∙◌, ap, map, subst, sym}
use Rattle.std.proofs.lemmas.List.Sorted.{IsPermutation-map, IsPermutation-sym, IsPermutation-trans}
use Rattle.std.specs.List.Sorted.{IsPermutation}
use Rattle.std.specs.Prelude.{string_bytes}
use Rattle.msi_building.proofs.comparing.are_names.Goals as goal

pub returns : goal.returns
returns c same =
    let found = c.args.found.items in
    let wanted = c.args.wanted.items in
    let one = IsPermutation-map string_bytes found _ c.in_ok-sort.ensures.permutation in
    let other = IsPermutation-sym _ _ (IsPermutation-map string_bytes wanted _ c.in_ok-sort-2.ensures.permutation) in
    let is = sym (ap (map string_bytes) c.deref.ensures.value) ∙ c.are_same_names.ensures same ∙ ap (map string_bytes) c.deref-2.ensures.value in
    IsPermutation-trans _ _ _ one (subst (λ xs. IsPermutation xs (map string_bytes wanted)) (sym is) other)
