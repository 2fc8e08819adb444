-- The properties that a product must have.
use Rattle.std.specs.Prelude.{ℕ, List, [], ◌∷◌, codes}
use Rattle.package_rules.specs.declared.products.Needed.{Needed}
use Rattle.package_rules.specs.declared.products.Needed.TheVariants as need

abbrev pub name_of : Needed → List ℕ
name_of need.Manufacturer = codes "Manufacturer"
name_of need.ProductCode = codes "ProductCode"
name_of need.ProductLanguage = codes "ProductLanguage"
name_of need.ProductName = codes "ProductName"
name_of need.ProductVersion = codes "ProductVersion"

abbrev pub all_needed : List Needed
all_needed = need.Manufacturer ∷ need.ProductCode ∷ need.ProductLanguage ∷ need.ProductName ∷ need.ProductVersion ∷ []
