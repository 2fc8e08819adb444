-- Listed objects in memory, by their places.
use Rattle.std.proofs.Common.{◌≡◌, ℕ, ◌<◌, ◌≤◌, List, map, length, get_or, refl, sym, ◌∙◌, ap, ◌++◌, ◌∷◌, []}
use Rattle.std.specs.Prelude.{slice_get, Some, None}
use Rattle.std.specs.Option.{option_map}
use Rattle.std.proofs.lemmas.List.{map-append}
use Rattle.std.proofs.lemmas.Option.{slice_get-map, slice_get_read, slice_get_past}
use Rattle.cfb_entries.specs.declared.entry.Entry.{Entry}
use Rattle.cfb_entries.specs.Listed.{listed_in}

pub listed_found : (items xs : List Entry) (k : ℕ) (e : Entry) → xs ≡ items → k < length xs → e ≡ get_or xs k e → slice_get (map listed_in items) k ≡ Some (listed_in e)
listed_found items xs k e same below is =
    ap (λ ys. slice_get (map listed_in ys) k) (sym same) ∙ slice_get-map listed_in xs k ∙ ap (option_map listed_in) (slice_get_read xs (length xs) k e refl below is)

pub listed_lost : (items xs : List Entry) (k : ℕ) → xs ≡ items → length xs ≤ k → slice_get (map listed_in items) k ≡ None
listed_lost items xs k same past = ap (λ ys. slice_get (map listed_in ys) k) (sym same) ∙ slice_get-map listed_in xs k ∙ ap (option_map listed_in) (slice_get_past xs k past)

pub listed_more : (items more : List Entry) (e : Entry) → more ≡ items ++ e ∷ [] → map listed_in more ≡ map listed_in items ++ listed_in e ∷ []
listed_more items more e is = ap (map listed_in) is ∙ map-append listed_in items (e ∷ [])

pub listed_one : (items more : List Entry) (e : Entry) → items ≡ [] → more ≡ items ++ e ∷ [] → map listed_in more ≡ listed_in e ∷ []
listed_one items more e none_yet is = ap (map listed_in) (is ∙ ap (λ xs. xs ++ e ∷ []) none_yet)
