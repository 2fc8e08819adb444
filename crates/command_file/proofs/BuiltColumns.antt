-- A column that is built part by part.
use Rattle.std.proofs.Common.{◌≡◌, ℕ, List, Bool, true, false, refl, ap, ◌∙◌, Option, Some, None, option_map}
use Rattle.std.specs.Prelude.{ℤ, if◌then◌else◌}
use Rattle.std.specs.Borrow.{Bor}
use Rattle.msi_texts.specs.declared.category.Category.{Category}
use Rattle.msi_columns.specs.declared.column.ColumnType.{ColumnType}
use Rattle.msi_columns.specs.Column.{Column, as_key, as_localizable, but_null, from_to, of_category, one_of, plain}
use Rattle.command_file.specs.Built.{changed_by, referred}

module _ (name : List ℕ) (kind : ColumnType) where
  keyed : (key : Bool) → (if key then as_key (plain name kind) else plain name kind) ≡ record (plain name kind) { key = key }
  keyed true = refl
  keyed false = refl

  nulled : (key null : Bool) → (if null then but_null (record (plain name kind) { key = key }) else record (plain name kind) { key = key })
      ≡ record (plain name kind) { key = key; nullable = null }
  nulled key true = refl
  nulled key false = refl

  module _ (key null : Bool) where
    localized : (local : Bool) → (if local then as_localizable (record (plain name kind) { key = key; nullable = null }) else record (plain name kind) { key = key; nullable = null })
        ≡ record (plain name kind) { key = key; nullable = null; localizable = local }
    localized true = refl
    localized false = refl

    ranged : (local : Bool) (range : Option (ℤ × ℤ)) → changed_by range (λ r. from_to r.0 r.1) (record (plain name kind) { key = key; nullable = null; localizable = local })
        ≡ record (plain name kind) { key = key; nullable = null; localizable = local; range = range }
    ranged local None = refl
    ranged local (Some r) = refl

    refers : (local : Bool) (range : Option (ℤ × ℤ)) (foreign : Option (Bor (List ℕ) × ℤ))
        → referred foreign (record (plain name kind) { key = key; nullable = null; localizable = local; range = range })
        ≡ record (plain name kind) { key = key; nullable = null; localizable = local; range = range; foreign = option_map (λ k. (k.0.now, k.1)) foreign }
    refers local range None = refl
    refers local range (Some k) = refl

    categorized : (local : Bool) (range : Option (ℤ × ℤ)) (foreign : Option (List ℕ × ℤ)) (category : Option Category)
        → changed_by category of_category (record (plain name kind) { key = key; nullable = null; localizable = local; range = range; foreign = foreign })
        ≡ record (plain name kind) { key = key; nullable = null; localizable = local; range = range; foreign = foreign; category = category }
    categorized local range foreign None = refl
    categorized local range foreign (Some c) = refl

-- each part in turn
pub made : (name : List ℕ) (kind : ColumnType) (key null local : Bool) (range : Option (ℤ × ℤ)) (foreign : Option (Bor (List ℕ) × ℤ)) (category : Option Category) (choices : List (List ℕ))
    (a b c d e f g h : Column) → a ≡ plain name kind → b ≡ (if key then as_key a else a) → c ≡ (if null then but_null b else b) → d ≡ (if local then as_localizable c else c)
    → e ≡ changed_by range (λ r. from_to r.0 r.1) d → f ≡ referred foreign e → g ≡ changed_by category of_category f → h ≡ one_of choices g
    → h ≡ record { name = name; kind = kind; localizable = local; nullable = null; key = key; range = range; foreign = option_map (λ k. (k.0.now, k.1)) foreign; category = category; choices = choices }
made name kind key null local range foreign category choices a b c d e f g h ia ib ic id ie if' ig ih =
    ih ∙ ap (one_of choices) (ig ∙ ap (changed_by category of_category) (if' ∙ ap (referred foreign) (ie ∙ ap (changed_by range (λ r. from_to r.0 r.1)) (id ∙ ap (λ x. if local then as_localizable x else x)
    (ic ∙ ap (λ x. if null then but_null x else x) (ib ∙ ap (λ x. if key then as_key x else x) ia ∙ keyed name kind key) ∙ nulled name kind key null) ∙ localized name kind key null local)
    ∙ ranged name kind key null local range) ∙ refers name kind key null local range foreign) ∙ categorized name kind key null local range (option_map (λ k. (k.0.now, k.1)) foreign) category)
