-- Language identifiers and their tags.
use Rattle.std.specs.Prelude.{ℕ, ◌*◌, ◌/◌, ◌%◌, List, [], ◌∷◌, ◌==◌, bit_or, option_map, unwrap_or, find, bytes_eq, codes}

-- a primary and a sub-language in sixteen bits
abbrev pub joined_id : ℕ → ℕ → ℕ
joined_id primary sub = bit_or primary (sub % 64 * 1024)

abbrev pub primary_of : ℕ → ℕ
primary_of id = id % 1024

abbrev pub sub_of : ℕ → ℕ
sub_of id = id / 1024

-- the languages that have a tag
abbrev pub languages : List (ℕ × List ℕ)
languages =
    (0x0001, codes "ar") ∷
    (0x0004, codes "zh-Hans") ∷
    (0x0005, codes "cs") ∷
    (0x0006, codes "da") ∷
    (0x0007, codes "de") ∷
    (0x0008, codes "el") ∷
    (0x0009, codes "en") ∷
    (0x000A, codes "es") ∷
    (0x000B, codes "fi") ∷
    (0x000C, codes "fr") ∷
    (0x000D, codes "he") ∷
    (0x000E, codes "hu") ∷
    (0x0010, codes "it") ∷
    (0x0011, codes "ja") ∷
    (0x0012, codes "ko") ∷
    (0x0013, codes "nl") ∷
    (0x0015, codes "pl") ∷
    (0x0016, codes "pt") ∷
    (0x0019, codes "ru") ∷
    (0x001D, codes "sv") ∷
    (0x001F, codes "tr") ∷
    (0x0407, codes "de-DE") ∷
    (0x0409, codes "en-US") ∷
    (0x040A, codes "es-ES_tradnl") ∷
    (0x040C, codes "fr-FR") ∷
    (0x0410, codes "it-IT") ∷
    (0x0411, codes "ja-JP") ∷
    (0x0416, codes "pt-BR") ∷
    (0x0419, codes "ru-RU") ∷
    (0x0804, codes "zh-CN") ∷
    (0x0809, codes "en-GB") ∷
    (0x080A, codes "es-MX") ∷
    (0x0C0A, codes "es-ES") ∷
    (0x0C0C, codes "fr-CA") ∷
    (0x1009, codes "en-CA") ∷
    (0x7C04, codes "zh-Hant") ∷ []

-- the tag of an identifier
abbrev pub tag_of : ℕ → List ℕ
tag_of id = unwrap_or (option_map (λ l. l.1) (find (λ l. l.0 == id) languages)) (codes "und")

-- the identifier of a tag
abbrev pub tagged : List ℕ → ℕ
tagged tag = unwrap_or (option_map (λ l. l.0) (find (λ l. bytes_eq l.1 tag) languages)) 0
