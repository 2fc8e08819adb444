-- Rows that are read table by table are those of a sound package, where they are unlisted and counted.
use Rattle.std.proofs.Common.{◌≡◌, ◌∙◌, ℕ, Bool, true, false, cond, List, [], ◌∷◌, map, refl, sym, ap, subst, arith, Some, None}
use Rattle.std.specs.Prelude.{◌&&◌, ◌||◌, not, Option, All, IsSome, IsTrue, bytes_eq, find, is_some, option_map, unwrap_or}
use Rattle.std.specs.List.{list_any}
use Rattle.std.proofs.lemmas.List.Elements.{All-cons, All-head, All-tail}
use Rattle.cfb_tree.specs.Names.{CaseTable}
use Rattle.cfb_tree.specs.Tree.{Tree}
use Rattle.msi_spec.specs.Known.{HaveRows}
use Rattle.msi_spec.specs.Uses.{RefcountsAreExact}
use Rattle.msi_parts.proofs.Judging.{named_heading, or_false}
use Rattle.msi_parts.specs.Judged.{AreSoundRows, heading_named, list_system}
use Rattle.msi_parts.specs.Parts.{heading}
use Rattle.msi_pool.specs.Pool.{Pool}
use Rattle.msi_stored.specs.StoredPackages.{rows_in}
use Rattle.msi_tables.specs.Schema.{begins_with, columns_name, tables_name}
use Rattle.msi_tables.specs.Table.{Heading, Table, data_rows, row_data, table_named}
use Rattle.msi_values.specs.Datum.{Datum}
use Rattle.msi_soundness.specs.Counting.{AreCountedAt, TableIsRead, IsUnlistedAt, table_at}

-- ---- rows that name no system table, by a test and by a fact of each

abbrev Unlisted : List Datum → Type 0
Unlisted r = IsTrue (not (begins_with tables_name r) && not (begins_with columns_name r))

neither : (a b : Bool) → a || b ≡ false → (not a && not b) ≡ true
neither true b e = absurd (cc)
neither false true e = absurd (cc)
neither false false e = refl

none_of : (a b : Bool) → (not a && not b) ≡ true → a || b ≡ false
none_of true b e = absurd (cc)
none_of false true e = absurd (cc)
none_of false false e = refl

none_listed : (rows : List (List Datum)) → list_any (λ r. begins_with tables_name r || begins_with columns_name r) rows ≡ false → All Unlisted rows
none_listed [] e = λ k d l. absurd (omega (arith, l))
none_listed (r ∷ rs) e =
    let both = or_false (begins_with tables_name r || begins_with columns_name r) (list_any (λ r. begins_with tables_name r || begins_with columns_name r) rs) e in
    All-cons Unlisted r rs (neither (begins_with tables_name r) (begins_with columns_name r) both.0) (none_listed rs both.1)

listed_none : (rows : List (List Datum)) → All Unlisted rows → list_any (λ r. begins_with tables_name r || begins_with columns_name r) rows ≡ false
listed_none [] h = refl
listed_none (r ∷ rs) h =
    ap (λ b. b || list_any (λ r. begins_with tables_name r || begins_with columns_name r) rs) (none_of (begins_with tables_name r) (begins_with columns_name r) (All-head Unlisted r rs h))
    ∙ listed_none rs (All-tail Unlisted r rs h)

pub some_is : {A : Type 0} (o : Option A) (x d : A) → o ≡ Some x → unwrap_or o d ≡ x
some_is o x d e = ap (λ o. unwrap_or o d) e

is_some_of : {A : Type 0} (o : Option A) (x : A) → o ≡ Some x → IsSome o
is_some_of o x e = ap is_some e

pub whole : {A : Type 0} (o : Option A) (d : A) → IsSome o → o ≡ Some (unwrap_or o d)
whole None d h = absurd (cc)
whole (Some x) d h = refl

-- what is found has what all have
of_found : {X : Type 0} (P : X → Type 0) (test : X → Bool) (xs : List X) (x : X) → All P xs → find test xs ≡ Some x → P x
of_found P test [] x all e = absurd (cc)
of_found P test (y ∷ ys) x all e = by (test y) (of_found P test ys x (All-tail P y ys all)) e
  where
    by : (b : Bool) → (find test ys ≡ Some x → P x) → cond b (Some y) (find test ys) ≡ Some x → P x
    by true later e = let same : y ≡ x = cc in subst P same (All-head P y ys all)
    by false later e = later e

module _ (letters : CaseTable) (tree : Tree) (pool : Pool) where
  -- tables with their rows are those that are read under their headings
  own : (ts : List Table) → HaveRows letters tree pool ts → map (table_at letters tree) (map (heading pool.long) ts) ≡ ts
  own [] all = refl
  own (t ∷ ts) all =
      let here = some_is (rows_in letters tree (heading pool.long t)) t.rows [] (All-head (λ t. rows_in letters tree (heading pool.long t) ≡ Some t.rows) t ts all) in
      ap (λ rs. record { name = t.name; columns = t.columns; rows = rs } ∷ map (table_at letters tree) (map (heading pool.long) ts)) here
      ∙ ap (λ us. t ∷ us) (own ts (All-tail (λ t. rows_in letters tree (heading pool.long t) ≡ Some t.rows) t ts all))

  all_read : (ts : List Table) → HaveRows letters tree pool ts → All (TableIsRead letters tree) (map (heading pool.long) ts)
  all_read [] all = λ k d l. absurd (omega (arith, l))
  all_read (t ∷ ts) all =
      All-cons (TableIsRead letters tree) (heading pool.long t) (map (heading pool.long) ts)
      (is_some_of (rows_in letters tree (heading pool.long t)) t.rows (All-head (λ t. rows_in letters tree (heading pool.long t) ≡ Some t.rows) t ts all))
      (all_read ts (All-tail (λ t. rows_in letters tree (heading pool.long t) ≡ Some t.rows) t ts all))

  -- and back
  headings_back : (hs : List Heading) → All (λ h. h.long ≡ pool.long) hs → map (heading pool.long) (map (table_at letters tree) hs) ≡ hs
  headings_back [] wide = refl
  headings_back (h ∷ hs) wide =
      ap (λ l. record { name = h.name; columns = h.columns; long = l } ∷ map (heading pool.long) (map (table_at letters tree) hs)) (sym (All-head (λ h. h.long ≡ pool.long) h hs wide))
      ∙ ap (λ ks. h ∷ ks) (headings_back hs (All-tail (λ h. h.long ≡ pool.long) h hs wide))

  rows_back : (hs : List Heading) → All (λ h. h.long ≡ pool.long) hs → All (TableIsRead letters tree) hs → HaveRows letters tree pool (map (table_at letters tree) hs)
  rows_back [] wide all = λ k d l. absurd (omega (arith, l))
  rows_back (h ∷ hs) wide all =
      All-cons (λ t. rows_in letters tree (heading pool.long t) ≡ Some t.rows) (table_at letters tree h) (map (table_at letters tree) hs)
      (ap (λ l. rows_in letters tree (record { name = h.name; columns = h.columns; long = l })) (sym (All-head (λ h. h.long ≡ pool.long) h hs wide))
      ∙ whole (rows_in letters tree h) [] (All-head (TableIsRead letters tree) h hs all))
      (rows_back hs (All-tail (λ h. h.long ≡ pool.long) h hs wide) (All-tail (TableIsRead letters tree) h hs all))

  named_back : (hs : List Heading) (name : List ℕ) → table_named (map (table_at letters tree) hs) name ≡ option_map (table_at letters tree) (heading_named hs name)
  named_back [] name = refl
  named_back (h ∷ hs) name = by (bytes_eq h.name name) (named_back hs name)
    where
      by : (b : Bool) → table_named (map (table_at letters tree) hs) name ≡ option_map (table_at letters tree) (heading_named hs name)
          → cond b (Some (table_at letters tree h)) (table_named (map (table_at letters tree) hs) name) ≡ option_map (table_at letters tree) (cond b (Some h) (heading_named hs name))
      by true later = refl
      by false later = later

  module _ (hs : List Heading) where
    -- of a sound package they are unlisted and counted
    pub sound_unlisted : AreSoundRows letters tree pool hs → IsUnlistedAt letters tree pool (heading_named hs tables_name)
    sound_unlisted s =
        subst (λ (o : Option Heading). IsUnlistedAt letters tree pool o) (sym (named_heading pool.long s.tables tables_name) ∙ ap (λ ks. heading_named ks tables_name) s.same)
        (by (table_named s.tables tables_name) refl s.unlisted)
      where
        rows : (t : Table) → table_named s.tables tables_name ≡ Some t → rows_in letters tree (heading pool.long t) ≡ Some t.rows
        rows t e = of_found (λ t. rows_in letters tree (heading pool.long t) ≡ Some t.rows) (λ t. bytes_eq t.name tables_name) s.tables t s.rows e

        by : (o : Option Table) → table_named s.tables tables_name ≡ o → All Unlisted (data_rows pool o) → IsUnlistedAt letters tree pool (option_map (heading pool.long) o)
        by None e h = tt
        by (Some t) e h = (
          is_some_of (rows_in letters tree (heading pool.long t)) t.rows (rows t e),
          ap (λ rs. list_system pool rs) (some_is (rows_in letters tree (heading pool.long t)) t.rows [] (rows t e)) ∙ listed_none (map (row_data pool) t.rows) h,
        )

    pub sound_counted : AreSoundRows letters tree pool hs → AreCountedAt letters tree pool hs
    sound_counted s = (
      subst (λ (ks : List Heading). All (TableIsRead letters tree) ks) s.same (all_read s.tables s.rows),
      subst (λ (us : List Table). RefcountsAreExact pool us) (sym (own s.tables s.rows) ∙ ap (map (table_at letters tree)) s.same) s.counted,
    )

    -- and back
    pub sound_rows : All (λ h. h.long ≡ pool.long) hs → IsUnlistedAt letters tree pool (heading_named hs tables_name) → AreCountedAt letters tree pool hs → AreSoundRows letters tree pool hs
    sound_rows wide unlisted counted = record {
      tables = map (table_at letters tree) hs;
      same = headings_back hs wide;
      rows = rows_back hs wide counted.0;
      counted = counted.1;
      unlisted = subst (λ (o : Option Table). All Unlisted (data_rows pool o)) (sym (named_back hs tables_name)) (by (heading_named hs tables_name) unlisted);
    }
      where
        by : (o : Option Heading) → IsUnlistedAt letters tree pool o → All Unlisted (data_rows pool (option_map (table_at letters tree) o))
        by None h = λ k d l. absurd (omega (arith, l))
        by (Some h) both = none_listed (map (row_data pool) (table_at letters tree h).rows) both.1
