-- Which property sets come back as they were written.
use Rattle.std.specs.Prelude.{◌≡◌, ℕ, ◌<◌, ◌^◌, true, List, [], ◌∷◌, length, Option, Some, None, Ok}
use Rattle.std.specs.List.{AllByRecursion}
use Rattle.std.specs.Int.{w8, w16, w32}
use Rattle.std.specs.Int.RustNames.{FitsSigned}
use Rattle.std.specs.Str.{is_utf8}
use Rattle.msi_texts.specs.Page.{fits}
use Rattle.msi_texts.specs.declared.codepage.CodePage.{CodePage}
use Rattle.msi_texts.specs.declared.codepage.CodePage.TheVariants as page
use Rattle.msi_props.specs.Props.{Props, Property, is_in_size, page_in, property_named, props_bytes, props_read}
use Rattle.msi_props.specs.Props as property

-- a value has so many bits, and a text is UTF-8 and fits the page
abbrev pub IsKeptValue : CodePage → Property → Type 0
IsKeptValue p property.empty = Unit {0}
IsKeptValue p property.null = Unit {0}
IsKeptValue p (property.i1 z) = FitsSigned w8 z
IsKeptValue p (property.i2 z) = FitsSigned w16 z
IsKeptValue p (property.i4 z) = FitsSigned w32 z
IsKeptValue p (property.text t) = (is_utf8 t ≡ true) × (fits p t ≡ true)
IsKeptValue p (property.time n) = n < 2 ^ 64

-- each number is below those behind it
abbrev pub Rise : List (ℕ × Property) → Type 0
Rise [] = Unit {0}
Rise (v ∷ vs) = AllByRecursion (λ w. v.0 < w.0) vs × Rise vs

-- property 1 tells the page; without it that is UTF-8
abbrev pub TellsPage : CodePage → Option Property → Type 0
TellsPage p None = p ≡ page.Utf8
TellsPage p (Some v) = page_in v ≡ Some p

-- a set whose parts have their sizes, whose numbers rise, and whose page is told
pub record SetIsWritable (s : Props) : Type 0 where
  pub size : is_in_size s ≡ true
  pub version : s.system_version < 2 ^ 16
  pub class : length s.class ≡ 16
  pub format : length s.format ≡ 16
  pub rising : Rise s.values
  pub numbers : AllByRecursion (λ v. v.0 < 2 ^ 32) s.values
  pub values : AllByRecursion (λ v. IsKeptValue s.page v.1) s.values
  pub page : TellsPage s.page (property_named 1 s)

-- such a set is read as it was, of one section
abbrev pub WrittenSetsAreRead : Type 0
WrittenSetsAreRead = (s : Props) → SetIsWritable s → props_read (props_bytes s) ≡ Ok (record s { sections = 1 })
