-- Which pools their two streams give back.
use Rattle.std.specs.Prelude.{◌≡◌, ◌==◌, ◌&&◌, ℕ, ◌<◌, ◌^◌, Bool, not, IsTrue, List, [], ◌∷◌, length, filter, map, All}
use Rattle.std.specs.Str.{is_utf8}
use Rattle.msi_texts.specs.declared.codepage.CodePage.{CodePage}
use Rattle.msi_texts.specs.Page.{encoded, fits}
use Rattle.msi_pool.specs.Pool.{Pool, PoolEntry}

-- no text stands at a free place
abbrev pub AreFreeEmpty : List PoolEntry → Type 0
AreFreeEmpty ps = All (λ p. p.count ≡ 0 → p.text ≡ []) ps

-- a text that is in use and doesn't fit the page
abbrev pub is_unfit : CodePage → PoolEntry → Bool
is_unfit page p = not (p.count == 0) && not (fits page p.text)

-- those texts, in the order of their places
abbrev pub unfit_among : CodePage → List PoolEntry → List (List ℕ)
unfit_among page ps = map (λ p. p.text) (filter (is_unfit page) ps)

-- a text that fits the page, with a length that fits its field
pub record CanBeKept (page : CodePage) (text : List ℕ) : Type 0 where
  pub utf8 : IsTrue (is_utf8 text)
  pub fit : IsTrue (fits page text)
  pub size : length (encoded page text) < 2 ^ 32

-- a place whose text fits the page, with a length and a count that fit their fields; a free one holds the empty text
pub record IsKeptPlace (page : CodePage) (p : PoolEntry) : Type 0 where
  pub utf8 : IsTrue (is_utf8 p.text)
  pub fit : IsTrue (fits page p.text)
  pub count : p.count < 2 ^ 16
  pub size : length (encoded page p.text) < 2 ^ 32
  pub free : p.count ≡ 0 → p.text ≡ []

-- each of these places is
abbrev pub AreKept : CodePage → List PoolEntry → Type 0
AreKept page [] = Unit {0}
AreKept page (p ∷ ps) = IsKeptPlace page p × AreKept page ps

-- all places are, and there are not too many
abbrev pub IsWritable : Pool → Type 0
IsWritable pool = AreKept pool.page pool.places × (length pool.places < 2 ^ 32)
