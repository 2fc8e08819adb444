-- Columns under the names of tables: one name more, and all of them as tables.
use Rattle.std.proofs.Common.{◌≡◌, ◌∙◌, ℕ, Bool, true, false, cond, List, [], ◌∷◌, map, refl, subst, sym, ap, ap₂, Option, Some, None, Vec}
use Rattle.std.specs.Prelude.{◌||◌, bytes_eq, is_some, All, Contains, IfSome}
use Rattle.std.specs.List.{AllByRecursion, list_any}
use Rattle.std.specs.List.Sorted.{IsStrictlySortedBy}
use Rattle.std.specs.Map.{lookup}
use Rattle.std.specs.Ordering.{is_eq, nat_cmp}
use Rattle.std.specs.Cmp.{IsTotalOrder}
use Rattle.std.specs.Cmp.Lexicographic.{slice_cmp}
use Rattle.std.specs.BTreeMap.{get, is_at}
use Rattle.std.specs.Borrow.{Bor}
use Rattle.std.specs.declared.alloc.Global.{Global}
use Rattle.std.specs.declared.cmp.Ordering.{Ordering}
use Rattle.std.specs.declared.cmp.Ordering.TheVariants.{Less}
use Rattle.std.proofs.lemmas.Cmp.{nat_list_cmp_total, nat_list_eq_equiv}
use Rattle.std.proofs.lemmas.List.Elements.{All-map, All-weaker}
use Rattle.std.proofs.lemmas.Map.Text.{is_eq-slice_cmp}
use Rattle.std.proofs.lemmas.Map.Views.{All-found, Contains-from_any, list_any-from_Contains}
use Rattle.std.proofs.lemmas.Slice.Eq.{bytes_eq-Decides}
use Rattle.msi_values.specs.Datum.{Datum}
use Rattle.msi_columns.specs.Column.{Column}
use Rattle.msi_columns.specs.Held.{columns_of}
use Rattle.msi_columns.specs.declared.column.Column.{Column as HeldColumn}
use Rattle.msi_tables.specs.Table.{Heading}
use Rattle.msi_tables.specs.Schema.{begins_with, columns_columns, columns_in, columns_name, schema_of, tables_columns, tables_name}
use Rattle.msi_schema.specs.Headings.{at_text, is_named, AreColumnsOfTables, AreTold, Described}

-- ---- one name more

pub found_put : (asked asked' : List ℕ → Bool) (columns columns' : List ℕ → Option (List Column)) (old new : Described) (t : List ℕ) (cs : Vec HeldColumn Global)
    → AreColumnsOfTables asked columns old → ((name : List ℕ) → at_text new name ≡ cond (bytes_eq t name) (Some cs) (at_text old name))
    → ((name : List ℕ) → asked' name ≡ (asked name || bytes_eq t name)) → columns' t ≡ Some (columns_of cs.items)
    → ((name : List ℕ) → bytes_eq t name ≡ false → columns' name ≡ columns name) → AreColumnsOfTables asked' columns' new
found_put asked asked' columns columns' old new t cs found put also here others = record {
  there = λ name. ap is_some (put name) ∙ is_there name (bytes_eq t name) ∙ sym (also name);
  told = λ name. subst (λ (o : Option (Vec HeldColumn Global)). IfSome o (λ cs. columns' name ≡ Some (columns_of cs.items))) (sym (put name)) (is_told name (bytes_eq t name) refl);
}
  where
    is_there : (name : List ℕ) (b : Bool) → is_some (cond b (Some cs) (at_text old name)) ≡ (asked name || b)
    is_there name true = or_true (asked name)
      where
        or_true : (b : Bool) → true ≡ (b || true)
        or_true true = refl
        or_true false = refl
    is_there name false = found.there name ∙ or_false (asked name)
      where
        or_false : (b : Bool) → b ≡ (b || false)
        or_false true = refl
        or_false false = refl

    is_told : (name : List ℕ) (b : Bool) → bytes_eq t name ≡ b → IfSome (cond b (Some cs) (at_text old name)) (λ cs. columns' name ≡ Some (columns_of cs.items))
    is_told name true e = ap columns' (sym ((bytes_eq-Decides t name).0 e)) ∙ here
    is_told name false e =
        subst (λ (o : Option (List Column)). IfSome (at_text old name) (λ cs. o ≡ Some (columns_of cs.items))) (sym (others name e)) (found.told name)

-- a name that is there already asks for nothing more
pub found_still : (asked asked' : List ℕ → Bool) (columns : List ℕ → Option (List Column)) (found : Described) (t : List ℕ)
    → AreColumnsOfTables asked columns found → is_some (at_text found t) ≡ true → ((name : List ℕ) → asked' name ≡ (asked name || bytes_eq t name)) → AreColumnsOfTables asked' columns found
found_still asked asked' columns found t are here also = record { there = λ name. on name (bytes_eq t name) refl ∙ sym (also name); told = are.told }
  where
    on : (name : List ℕ) (b : Bool) → bytes_eq t name ≡ b → is_some (at_text found name) ≡ (asked name || b)
    on name true e =
        let one : is_some (at_text found name) ≡ true = ap (λ x. is_some (at_text found x)) (sym ((bytes_eq-Decides t name).0 e)) ∙ here in
        one ∙ ap (λ b. b || true) (sym (sym (are.there name) ∙ one))
    on name false e = are.there name ∙ or_false (asked name)
      where
        or_false : (b : Bool) → b ≡ (b || false)
        or_false true = refl
        or_false false = refl

-- its columns are described
pub still_described : (asked : List ℕ → Bool) (columns : List ℕ → Option (List Column)) (found : Described) (t : List ℕ)
    → AreColumnsOfTables asked columns found → is_some (at_text found t) ≡ true → is_some (columns t) ≡ true
still_described asked columns found t are here = on (at_text found t) here (are.told t)
  where
    on : (o : Option (Vec HeldColumn Global)) → is_some o ≡ true → IfSome o (λ cs. columns t ≡ Some (columns_of cs.items)) → is_some (columns t) ≡ true
    on None e told = absurd (cc)
    on (Some cs) e told = ap is_some told

-- ---- the two tables with fixed columns

flip : (x y : List ℕ) → bytes_eq x y ≡ bytes_eq y x
flip = nat_list_eq_equiv.symm

module _ (tables rows others : List (List Datum)) (found all more : Described) (first second : Vec HeldColumn Global)
    (are : AreColumnsOfTables (λ name. list_any (begins_with name) tables) (schema_of rows others) found)
    (one : (name : List ℕ) → at_text more name ≡ cond (bytes_eq columns_name name) (Some first) (at_text found name)) (is_one : columns_of first.items ≡ columns_columns)
    (two : (name : List ℕ) → at_text all name ≡ cond (bytes_eq tables_name name) (Some second) (at_text more name)) (is_two : columns_of second.items ≡ tables_columns) where
  abbrev columns_one : List ℕ → Option (List Column)
  columns_one name = cond (bytes_eq name columns_name) (Some columns_columns) (schema_of rows others name)

  with_one : AreColumnsOfTables (λ name. list_any (begins_with name) tables || bytes_eq columns_name name) columns_one more
  with_one =
      found_put (λ name. list_any (begins_with name) tables) (λ name. list_any (begins_with name) tables || bytes_eq columns_name name) (schema_of rows others) columns_one found more columns_name first are one
      (λ name. refl) (ap (λ cs. Some cs) (sym is_one))
      (λ name e. ap (λ b. cond b (Some columns_columns) (schema_of rows others name)) (flip name columns_name ∙ e))

  pub with_both : AreColumnsOfTables (is_named tables) (columns_in rows others) all
  with_both =
      found_put (λ name. list_any (begins_with name) tables || bytes_eq columns_name name) (is_named tables) columns_one (columns_in rows others) more all tables_name second with_one two
      (λ name. ap₂ (λ a b. (a || b) || list_any (begins_with name) tables) (flip name tables_name) (flip name columns_name)
      ∙ turned (bytes_eq tables_name name) (bytes_eq columns_name name) (list_any (begins_with name) tables))
      (ap (λ cs. Some cs) (sym is_two))
      (λ name e. ap (λ b. cond b (Some tables_columns) (columns_one name)) (flip name tables_name ∙ e))
    where
      turned : (a b c : Bool) → ((a || b) || c) ≡ ((c || b) || a)
      turned true true true = refl
      turned true true false = refl
      turned true false true = refl
      turned true false false = refl
      turned false true true = refl
      turned false true false = refl
      turned false false true = refl
      turned false false false = refl

-- ---- as tables

text_order_total : IsTotalOrder (λ (x y : Bor (List ℕ)). slice_cmp nat_cmp x.now y.now)
text_order_total = record {
  antisymm = λ x y. nat_list_cmp_total.antisymm x.now y.now;
  trans = λ x y z. nat_list_cmp_total.trans x.now y.now z.now;
  congr = λ x y z. nat_list_cmp_total.congr x.now y.now z.now;
}

by_map : {K L : Type 0} (f : K → L) (P : L → Type 0) (ks : List K) → AllByRecursion (λ k. P (f k)) ks → AllByRecursion P (map f ks)
by_map f P [] all = tt
by_map f P (k ∷ ks) all = (all.0, by_map f P ks all.1)

sorted_map : {K L : Type 0} (f : K → L) (c : L → L → Ordering) (ks : List K) → IsStrictlySortedBy (λ x y. c (f x) (f y)) ks → IsStrictlySortedBy c (map f ks)
unfolding IsStrictlySortedBy
sorted_map f c [] sorted = tt
sorted_map f c (k ∷ ks) sorted = (by_map f (λ y. c (f k) y ≡ Less) ks sorted.0, sorted_map f c ks sorted.1)

abbrev pub Kept : Type 0
Kept = Bor (List ℕ) × Vec HeldColumn Global

abbrev pub as_heading : Bool → Kept → Heading
as_heading long kept = record { name = kept.0.now; columns = columns_of kept.1.items; long = long }

names_are : (long : Bool) (es : List Kept) → map (λ h. h.name) (map (as_heading long) es) ≡ map (λ key. key.now) (map (λ kept. kept.0) es)
names_are long [] = refl
names_are long (e ∷ es) = ap (λ ns. e.0.now ∷ ns) (names_are long es)

any_name : (name : List ℕ) (es : List Kept) → list_any (bytes_eq name) (map (λ key. key.now) (map (λ kept. kept.0) es)) ≡ is_some (lookup (is_at (λ key. slice_cmp nat_cmp name key.now)) es)
any_name name [] = refl
any_name name (e ∷ es) =
    ap₂ (λ a b. a || b) (sym (is_eq-slice_cmp name e.0.now)) (any_name name es) ∙ on (is_eq (slice_cmp nat_cmp name e.0.now))
  where
    on : (b : Bool) → (b || is_some (lookup (is_at (λ key. slice_cmp nat_cmp name key.now)) es)) ≡ is_some (cond b (Some e.1) (lookup (is_at (λ key. slice_cmp nat_cmp name key.now)) es))
    on true = refl
    on false = refl

module _ (tables rows others : List (List Datum)) (long : Bool) (found : Described) (headings : List Heading)
    (sorted : IsStrictlySortedBy (λ (x y : Bor (List ℕ)). slice_cmp nat_cmp x.now y.now) (map (λ kept. kept.0) found.entries))
    (are : AreColumnsOfTables (is_named tables) (columns_in rows others) found) (is : headings ≡ map (as_heading long) found.entries) where
  abbrev names : List (List ℕ)
  names = map (λ (key : Bor (List ℕ)). key.now) (map (λ (kept : Kept). kept.0) found.entries)

  names_so : map (λ h. h.name) headings ≡ names
  names_so = ap (map (λ h. h.name)) is ∙ names_are long found.entries

  abbrev IsKnown : Heading → Type 0
  IsKnown h = columns_in rows others h.name ≡ Some h.columns

  pub told_so : AreTold tables rows others long headings
  told_so = record {
    rising = subst (IsStrictlySortedBy (slice_cmp nat_cmp)) (sym names_so) (sorted_map (λ (key : Bor (List ℕ)). key.now) (slice_cmp nat_cmp) (map (λ kept. kept.0) found.entries) sorted);
    names = λ name.
        let both : list_any (bytes_eq name) names ≡ is_named tables name = any_name name found.entries ∙ are.there name in (
          λ named. subst (λ (ns : List (List ℕ)). Contains ns name) (sym names_so) (Contains-from_any (λ x y e. (bytes_eq-Decides x y).0 e) name names (both ∙ named)),
          λ has. sym both ∙ list_any-from_Contains nat_list_eq_equiv name names (subst (λ (ns : List (List ℕ)). Contains ns name) names_so has),
        );
    known = subst (All IsKnown) (sym is)
        (All-map IsKnown (as_heading long) found.entries
        (All-weaker (λ (e : Kept). get (λ (x y : Bor (List ℕ)). slice_cmp nat_cmp x.now y.now) found e.0 ≡ Some e.1) (λ e. IsKnown (as_heading long e))
        (λ e at. subst (λ (o : Option (Vec HeldColumn Global)). IfSome o (λ cs. columns_in rows others e.0.now ≡ Some (columns_of cs.items))) at (are.told e.0.now))
        found.entries (All-found text_order_total found sorted)));
    wide = subst (All (λ (h : Heading). h.long ≡ long)) (sym is) (All-map (λ (h : Heading). h.long ≡ long) (as_heading long) found.entries (λ k d lt. refl));
  }
