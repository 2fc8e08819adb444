-- Texts joined by a byte, told in two ways, and as the choices of a column.
use Rattle.std.proofs.Common.{◌≡◌, ◌∙◌, ◌++◌, ℕ, List, [], ◌∷◌, Some, None, map, refl, ap, append-nil}
use Rattle.std.specs.Prelude.{string_bytes, String}
use Rattle.std.specs.List.{join_by, join_with_byte}
use Rattle.std.specs.declared.alloc.Global.{Global}
use Rattle.cfb_tree.proofs.OneContent.{Some_same}
use Rattle.msi_columns.specs.Column.{listed}
use Rattle.msi_tables.specs.Schema.{choices_of}
use Rattle.msi_values.specs.Datum.{text}

joined_texts : (x : String Global) (xs : List (String Global)) → join_by string_bytes (59 ∷ []) (x ∷ xs) ≡ join_with_byte 59 (map string_bytes (x ∷ xs))
joined_texts x [] = append-nil (string_bytes x)
joined_texts x (y ∷ ys) = ap (λ r. string_bytes x ++ (59 ∷ r)) (joined_texts y ys)

pub choices_said : (choices : List (List ℕ)) (texts : List (String Global)) (joined : List ℕ) → Some (map string_bytes texts) ≡ listed choices → joined ≡ join_by string_bytes (59 ∷ []) texts → text joined ≡ choices_of choices
choices_said [] texts joined is e = (let never : Some (map string_bytes texts) ≡ None = is in absurd (cc))
choices_said (c ∷ cs) [] joined is e = (let never : [] ≡ c ∷ cs = Some_same is in absurd (cc))
choices_said (c ∷ cs) (x ∷ xs) joined is e = ap text (e ∙ joined_texts x xs ∙ ap (join_with_byte 59) (Some_same is))
