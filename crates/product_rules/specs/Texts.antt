-- Texts of versions and templates, and names of cabinets.
use Rattle.std.specs.Prelude.{ℕ, ◌^◌, Bool, true, false, ◌&&◌, ◌==◌, List, [], ◌∷◌, Option, Some, None, length, nat_lt, if◌then◌else◌}
use Rattle.std.specs.List.{after_first, position_or_len, slice_split}
use Rattle.msi_texts.specs.Category.{reads_unsigned}

-- Up to three numbers: two up to 255 and one up to 65,535. The installer looks at no fourth field, so that may be any text.
abbrev pub are_versions : List (List ℕ) → Bool
are_versions [] = false
are_versions (a ∷ []) = reads_unsigned (2 ^ 8) a
are_versions (a ∷ b ∷ []) = reads_unsigned (2 ^ 8) a && reads_unsigned (2 ^ 8) b
are_versions (a ∷ b ∷ c ∷ []) = reads_unsigned (2 ^ 8) a && reads_unsigned (2 ^ 8) b && reads_unsigned (2 ^ 16) c
are_versions (a ∷ b ∷ c ∷ d ∷ []) = reads_unsigned (2 ^ 8) a && reads_unsigned (2 ^ 8) b && reads_unsigned (2 ^ 16) c
are_versions (a ∷ b ∷ c ∷ d ∷ e ∷ es) = false

-- with dots between them
abbrev pub is_version : List ℕ → Bool
is_version t = are_versions (slice_split (λ b. b == 46) t)

-- what stands behind `#`
abbrev pub packed_name : List ℕ → Option (List ℕ)
packed_name [] = None
packed_name (b ∷ bs) = if b == 35 then Some bs else None

-- what stands behind the first `;`
abbrev pub languages_in : List ℕ → Option (List ℕ)
languages_in t = if nat_lt (position_or_len (λ b. b == 59) t) (length t) then Some (after_first (λ b. b == 59) t) else None
