-- What is found by maps and sets is what the definition says.
use Rattle.std.proofs.Common.{◌≡◌, ◌∙◌, ℕ, Bool, true, false, cond, not, List, [], ◌∷◌, Option, Some, None, refl, ap, ap₂}
use Rattle.std.specs.Prelude.{◌&&◌, ◌||◌, ◌==◌, bytes_eq, is_some, codes}
use Rattle.std.specs.List.{list_all, list_any, slice_split}
use Rattle.std.specs.Option.{option_map_or}
use Rattle.msi_listing.specs.Content.{CellContent, ListingContent, null, number, text, bytes}
use Rattle.package_rules.specs.Cells.{is_null}
use Rattle.package_rules.specs.Asked.{AreAsked, ColumnSet, asks, asks_all}
use Rattle.package_rules.specs.Firsts.{AreEntries, AreFirsts, CellSet, Said, is_in, leads_in, part_of, said_at}
use Rattle.package_rules.specs.Foreign.{Entry, entries, foreign_found, is_entry, leads, stands}
use Rattle.package_rules.specs.Lent.{lent}
use Rattle.package_rules.specs.Parts.{said}
use Rattle.package_rules.specs.Places.{places_where}
use Rattle.package_rules.specs.Refers.{all_targets, refers_found, target_of}
use Rattle.package_rules.specs.Said.{column_in, rows_named, said_of, speaks_of, tables_in}
use Rattle.package_rules.proofs.AskedPut.{all_found}
use Rattle.package_rules.proofs.FirstsPut.{both}

said_part : (d : CellContent) → said (part_of d) ≡ d
said_part null = refl
said_part (number z) = refl
said_part (text t) = refl
said_part bytes = refl

pub found_row : (L : ListingContent) (m : Said) → AreFirsts (rows_named (codes "_Validation") L) m → (table column : List ℕ) → said_at m table column ≡ said_of L table column
found_row L m told table column = told (record { table = lent table; column = lent column })

pub found_cell : (a : ColumnSet) (es : List Entry) (s : CellSet) → AreEntries a es s → (table : List ℕ) (n : ℕ) (d : CellContent) → asks a table n ≡ true → is_in s table n d ≡ stands es table n d
found_cell a es s are table n d asked =
    are (record { cell = part_of d; column = n; table = lent table }) asked
    ∙ ap (λ v. list_any (λ e. is_entry e (record { table = table; column = n; cell = v })) es) (said_part d)

-- each table for which a column is named is asked for
target_asked : (a : ColumnSet) → list_all (λ target. asks a target 1) all_targets ≡ true → (table column : List ℕ) → option_map_or (λ target. asks a target 1) (target_of table column) true ≡ true
target_asked a h table column =
    let component = both (asks a (codes "Component") 1) _ h in
    let feature = both (asks a (codes "Feature") 1) _ component.1 in
    let file = both (asks a (codes "File") 1) _ feature.1 in
    let directory = both (asks a (codes "Directory") 1) _ file.1 in
    let icon = both (asks a (codes "Icon") 1) _ directory.1 in
    let dialog = both (asks a (codes "Dialog") 1) _ icon.1 in
    pick (bytes_eq table (codes "Directory") && bytes_eq column (codes "Directory_Parent")) (codes "Directory") _ directory.0
    (pick (bytes_eq table (codes "Feature") && bytes_eq column (codes "Feature_Parent")) (codes "Feature") _ feature.0
    (pick (bytes_eq column (codes "Component_")) (codes "Component") _ component.0
    (pick (bytes_eq column (codes "Feature_")) (codes "Feature") _ feature.0
    (pick (bytes_eq column (codes "File_")) (codes "File") _ file.0
    (pick (bytes_eq column (codes "Directory_")) (codes "Directory") _ directory.0
    (pick (bytes_eq column (codes "Icon_")) (codes "Icon") _ icon.0
    (pick (bytes_eq column (codes "Dialog_")) (codes "Dialog") _ dialog.0 refl)))))))
  where
    pick : (b : Bool) (x : List ℕ) (o : Option (List ℕ)) → asks a x 1 ≡ true → option_map_or (λ target. asks a target 1) o true ≡ true → option_map_or (λ target. asks a target 1) (cond b (Some x) o) true ≡ true
    pick true x o h rest = h
    pick false x o h rest = rest

any_same : {A : Type 0} (p q r : A → Bool) (xs : List A) → ((x : A) → r x ≡ true → p x ≡ q x) → list_all r xs ≡ true → list_any p xs ≡ list_any q xs
any_same p q r [] h is = refl
any_same p q r (x ∷ xs) h is = let parts = both (r x) (list_all r xs) is in ap₂ (λ a b. a || b) (h x parts.0) (any_same p q r xs h parts.1)

module _ (L : ListingContent) (a : ColumnSet) (s : CellSet) (are : AreEntries a (entries L) s) where
  found_lead : (v : List CellContent) (d : CellContent) → asks_all a v ≡ true → leads_in s v d ≡ leads (entries L) v d
  found_lead v d asked = on (tables_in v) asked
    where
      on : (o : Option (List ℕ)) → option_map_or (λ tables. list_all (λ table. asks a table (column_in v)) (slice_split (λ b. b == 59) tables)) o true ≡ true
          → option_map_or (λ tables. list_any (λ table. is_in s table (column_in v) d) (slice_split (λ b. b == 59) tables)) o true
          ≡ option_map_or (λ tables. list_any (λ table. stands (entries L) table (column_in v) d) (slice_split (λ b. b == 59) tables)) o true
      on None h = refl
      on (Some tables) h =
          any_same (λ table. is_in s table (column_in v) d) (λ table. stands (entries L) table (column_in v) d) (λ table. asks a table (column_in v)) (slice_split (λ b. b == 59) tables)
          (λ table. found_cell a (entries L) s are table (column_in v) d) h

  -- of the row that speaks of a column
  found_said : AreAsked (rows_named (codes "_Validation") L) a → (table column : List ℕ) (d : CellContent)
      → option_map_or (λ v. not (leads_in s v d)) (said_of L table column) false ≡ option_map_or (λ v. not (leads (entries L) v d)) (said_of L table column) false
  found_said asked table column d = on (said_of L table column) refl
    where
      on : (o : Option (List CellContent)) → said_of L table column ≡ o → option_map_or (λ v. not (leads_in s v d)) o false ≡ option_map_or (λ v. not (leads (entries L) v d)) o false
      on None e = refl
      on (Some v) e = ap not (found_lead v d (all_found (speaks_of table column) (asks_all a) (rows_named (codes "_Validation") L) v asked e))

  -- of the table for which a column is named
  found_target : list_all (λ target. asks a target 1) all_targets ≡ true → (table column : List ℕ) (d : CellContent)
      → option_map_or (λ target. not (is_in s target 1 d)) (target_of table column) false ≡ option_map_or (λ target. not (stands (entries L) target 1 d)) (target_of table column) false
  found_target asked table column d = on (target_of table column) (target_asked a asked table column)
    where
      on : (o : Option (List ℕ)) → option_map_or (λ target. asks a target 1) o true ≡ true
          → option_map_or (λ target. not (is_in s target 1 d)) o false ≡ option_map_or (λ target. not (stands (entries L) target 1 d)) o false
      on None h = refl
      on (Some target) h = ap not (found_cell a (entries L) s are target 1 d h)

pub found_all : (L : ListingContent) (m : Said) (a : ColumnSet) (s : CellSet) → AreFirsts (rows_named (codes "_Validation") L) m → AreAsked (rows_named (codes "_Validation") L) a → AreEntries a (entries L) s
    → places_where (λ t c. option_map_or (λ v. is_some (tables_in v)) (said_at m t.name c.name) false)
    (λ t c row d. not (is_null d) && option_map_or (λ v. not (leads_in s v d)) (said_at m t.name c.name) false) L ≡ foreign_found L
found_all L m a s told asked are = λ i.
    places_where (λ t c. option_map_or (λ v. is_some (tables_in v)) (found_row L m told t.name c.name i) false)
    (λ t c row d. not (is_null d) && fails t.name c.name d i) L
  where
    fails : (table column : List ℕ) (d : CellContent) → option_map_or (λ v. not (leads_in s v d)) (said_at m table column) false ≡ option_map_or (λ v. not (leads (entries L) v d)) (said_of L table column) false
    fails table column d = ap (λ o. option_map_or (λ v. not (leads_in s v d)) o false) (found_row L m told table column) ∙ found_said L a s are asked table column d

-- the same of columns that are named for another table
pub referred_all : (L : ListingContent) (m : Said) (a : ColumnSet) (s : CellSet) → AreFirsts (rows_named (codes "_Validation") L) m → list_all (λ target. asks a target 1) all_targets ≡ true → AreEntries a (entries L) s
    → places_where (λ t c. is_some (target_of t.name c.name) && not (option_map_or (λ v. is_some (tables_in v)) (said_at m t.name c.name) false))
    (λ t c row d. not (is_null d) && option_map_or (λ target. not (is_in s target 1 d)) (target_of t.name c.name) false) L ≡ refers_found L
referred_all L m a s told asked are = λ i.
    places_where (λ t c. is_some (target_of t.name c.name) && not (option_map_or (λ v. is_some (tables_in v)) (found_row L m told t.name c.name i) false))
    (λ t c row d. not (is_null d) && found_target L a s are asked t.name c.name d i) L
