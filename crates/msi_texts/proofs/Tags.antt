-- The languages by their identifiers alone.
use Rattle.std.proofs.Common.{◌≡◌, ℕ, Bool, true, false, cond, List, [], ◌∷◌, map, Some, option_map, unwrap_or, refl, ap, ◌∙◌}
use Rattle.std.specs.Prelude.{find, bytes_eq}
use Rattle.msi_texts.specs.Language.{languages, tag_of, tagged}

abbrev Language : Type 0
Language = ℕ × List ℕ

abbrev with_tag : ℕ → Language
with_tag id = (id, tag_of id)

-- each language is its identifier with the tag of that
languages_tagged : languages ≡ map with_tag (map (λ (l : Language). l.0) languages)
languages_tagged = refl

found_by_id : (tag : List ℕ) (ids : List ℕ) → option_map (λ (l : Language). l.0) (find (λ (l : Language). bytes_eq l.1 tag) (map with_tag ids)) ≡ find (λ id. bytes_eq (tag_of id) tag) ids
found_by_id tag [] = refl
found_by_id tag (id ∷ ids) = go (found_by_id tag ids) (bytes_eq (tag_of id) tag)
  where
    go : option_map (λ (l : Language). l.0) (find (λ (l : Language). bytes_eq l.1 tag) (map with_tag ids)) ≡ find (λ id. bytes_eq (tag_of id) tag) ids → (b : Bool) → option_map (λ (l : Language). l.0) (cond b (Some (id, tag_of id)) (find (λ (l : Language). bytes_eq l.1 tag) (map with_tag ids))) ≡ cond b (Some id) (find (λ id. bytes_eq (tag_of id) tag) ids)
    go rest true = refl
    go rest false = rest

pub tagged-by_ids : (tag : List ℕ) → tagged tag ≡ unwrap_or (find (λ id. bytes_eq (tag_of id) tag) (map (λ (l : Language). l.0) languages)) 0
tagged-by_ids tag = ap (λ ls. unwrap_or (option_map (λ (l : Language). l.0) (find (λ (l : Language). bytes_eq l.1 tag) ls)) 0) languages_tagged ∙ ap (λ o. unwrap_or o 0) (found_by_id tag (map (λ (l : Language). l.0) languages))
