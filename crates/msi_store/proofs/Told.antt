-- What reading tells of the trees that a file holds, over plain variables.
use Rattle.std.proofs.Common.{◌≡◌, ◌∙◌, ◌≤◌, ℕ, zero, suc, Bool, true, false, List, [], length, map, refl, sym, ap, subst, arith, inl, inr, Some, None}
use Rattle.std.proofs.lemmas.Bool.Decides.{nat_tests}
use Rattle.std.proofs.lemmas.List.{length-map}
use Rattle.std.specs.Prelude.{◌⊎◌, if◌then◌else◌, Contains, Option, Result, Ok, Err, IfErr, IfOk, MatchResult, Vec, nat_le, unwrap_or}
use Rattle.cfb_fat.specs.Tables.{IsJustifiedBySectors}
use Rattle.cfb_fat.specs.declared.allocator.Allocator.{Allocator}
use Rattle.cfb_medium.specs.declared.medium.ReadMedium.{Ghosts}
use Rattle.msi_columns.specs.declared.column.ColumnType.{ColumnType}
use Rattle.msi_store.proofs.Faults.{data_cause, memory_cause}
use Rattle.std.specs.declared.alloc.Global.{Global}
use Rattle.cfb_medium.specs.Calls.{IsFaultOrInvalidInputIf}
use Rattle.cfb_medium.specs.declared.error.Error.{Error}
use Rattle.cfb_medium.specs.declared.error.Error.TheVariants.{InvalidData, Memory}
use Rattle.cfb_tree.specs.Names.{CaseTable}
use Rattle.cfb_tree.specs.Tree.{Tree}
use Rattle.msi_spec.specs.Opening.{rows_by}
use Rattle.msi_spec.specs.Package.{objects, stream_name, table_stream}
use Rattle.msi_pool.specs.Pool.{Pool}
use Rattle.msi_pool.specs.declared.stringref.ValueRef.{ValueRef}
use Rattle.msi_columns.specs.Column.{Column}
use Rattle.msi_stored.specs.Shown.{FindsPart, IsLostAt, IsLostPart, opening_names}
use Rattle.msi_stored.specs.StoredPackages.{rows_in}
use Rattle.msi_tables.specs.Held.{rows_held}
use Rattle.msi_tables.specs.Rows.{IsRead, kinds_of, max_rows, numbers_from, row_at, row_count, rows_of}
use Rattle.msi_tables.specs.Table.{Heading}
use Rattle.msi_texts.specs.Results.{or_refused}

abbrev pub Read : Type 0
Read = Result (Vec (Vec ValueRef Global) Global) Error

-- a stream that opening reads is lost
pub lost_part : (letters : CaseTable) (bytes name : List ℕ) → Contains opening_names name → (e : Error) → IsLostAt letters bytes name e → IsLostPart letters bytes e
lost_part letters bytes name own e (inl fault) = inl fault
lost_part letters bytes name own e (inr broken) = inr (record { error = broken.0; name = name; own = own; breaks = broken.1 })

module _ (letters : CaseTable) (tree : Tree) where
  -- rows that were read are those of the tree, or it has too many; or they are lost
  abbrev pub ToldUnless : (Error → Type 0) → Heading → Read → Type 0
  ToldUnless Lost h r = MatchResult r (λ rows. rows_in letters tree h ≡ Some (rows_held rows.items))
      (λ e. Lost e ⊎ ((e ≡ InvalidData) × (rows_in letters tree h ≡ None)))

  -- or memory was missing
  abbrev pub ToldRows : Heading → Read → Type 0
  ToldRows h r = ToldUnless (IsFaultOrInvalidInputIf ⊥) h r

  pub told_unless : (Lost : Error → Type 0) → ((e : Error) → IsFaultOrInvalidInputIf ⊥ e → Lost e) → (h : Heading) (r : Read) → ToldRows h r → ToldUnless Lost h r
  told_unless Lost so h (Ok rows) told = told
  told_unless Lost so h (Err e) told = elim told [ inl fault ↦ inl (so e fault) | inr both ↦ inr both ]

  pub rows_told : (h : Heading) (o : Option (List ℕ)) (r : Read) → table_stream letters (objects tree.content) h.name ≡ o → IsRead h.long (kinds_of h.columns) (unwrap_or o []) r → ToldRows h r
  rows_told h o (Ok rows) at read = ap (λ s. rows_of h.long (kinds_of h.columns) (unwrap_or s [])) at ∙ read
  rows_told h o (Err e) at read = by read
    where
      by : (e ≡ Memory) ⊎ ((e ≡ InvalidData) × (rows_of h.long (kinds_of h.columns) (unwrap_or o []) ≡ None)) → IsFaultOrInvalidInputIf ⊥ e ⊎ ((e ≡ InvalidData) × (rows_in letters tree h ≡ None))
      by (inl memory) = inl (subst (IsFaultOrInvalidInputIf ⊥) (sym memory) tt)
      by (inr both) = inr (both.0, ap (λ s. rows_of h.long (kinds_of h.columns) (unwrap_or s [])) at ∙ both.1)

  -- the same as the definition of opening has them
  pub rows_found : (bytes : List ℕ) (h : Heading) (pool : Pool) (columns : List Column) (r : Read) → pool.long ≡ h.long → kinds_of columns ≡ kinds_of h.columns
      → Contains opening_names (stream_name h.name) → ToldUnless (IsLostAt letters bytes (stream_name h.name)) h r
      → FindsPart letters bytes (λ rows. rows_by letters (objects tree.content) pool h.name columns ≡ Ok (rows_held rows.items)) (rows_by letters (objects tree.content) pool h.name columns) r
  rows_found bytes h pool columns r long kinds own told = by r told
    where
      same : rows_of pool.long (kinds_of columns) (unwrap_or (table_stream letters (objects tree.content) h.name) []) ≡ rows_in letters tree h
      same = ap (λ l. rows_of l (kinds_of columns) (unwrap_or (table_stream letters (objects tree.content) h.name) [])) long
          ∙ ap (λ ks. rows_of h.long ks (unwrap_or (table_stream letters (objects tree.content) h.name) [])) kinds

      refused : (e : Error) → IsLostAt letters bytes (stream_name h.name) e ⊎ ((e ≡ InvalidData) × (rows_in letters tree h ≡ None))
          → IsLostPart letters bytes e ⊎ (rows_by letters (objects tree.content) pool h.name columns ≡ Err e)
      refused e (inl lost) = inl (lost_part letters bytes (stream_name h.name) own e lost)
      refused e (inr both) = inr (ap (λ o. or_refused o InvalidData) (same ∙ both.1) ∙ ap (λ x. Err x) (sym both.0))

      by : (r : Read) → ToldUnless (IsLostAt letters bytes (stream_name h.name)) h r
          → FindsPart letters bytes (λ rows. rows_by letters (objects tree.content) pool h.name columns ≡ Ok (rows_held rows.items)) (rows_by letters (objects tree.content) pool h.name columns) r
      by (Ok rows) told = ap (λ o. or_refused o InvalidData) (same ∙ told)
      by (Err e) told = refused e told

length_numbers : (a n : ℕ) → length (numbers_from a n) ≡ n
length_numbers a zero = refl
length_numbers a (suc n) = ap suc (length_numbers (suc a) n)

-- a stream's rows are few
pub few_rows : (long : Bool) (ks : List ColumnType) (bytes : List ℕ) (r : Read) → IsRead long ks bytes r → IfOk r (λ rows. length rows.items ≤ 65536)
few_rows long ks bytes (Err e) read = tt
few_rows long ks bytes (Ok rows) read = by (nat_le (row_count long ks bytes) max_rows) refl read
  where
    by : (b : Bool) → nat_le (row_count long ks bytes) max_rows ≡ b
        → (if b then Some (map (row_at long (row_count long ks bytes) bytes 0 ks) (numbers_from 0 (row_count long ks bytes))) else None) ≡ Some (rows_held rows.items) → length rows.items ≤ 65536
    by false e is = absurd (cc)
    by true e is =
        let n = row_count long ks bytes in
        let same : length (map (row_at long n bytes 0 ks) (numbers_from 0 n)) ≡ length (rows_held rows.items) = ap (λ o. length (unwrap_or o [])) is in
        let few : n ≤ 65536 = grind (arith, nat_tests, e) in
        omega (arith, same, few, length-map (numbers_from 0 n) (row_at long n bytes 0 ks), length_numbers 0 n, length-map rows.items (λ row. row.items))

-- what keeps them from being read has no cause in the medium
pub read_cause : {F : Type 0} {g : Ghosts F} (a b : Allocator F g) (long : Bool) (ks : List ColumnType) (bytes : List ℕ) (r : Read) → IsRead long ks bytes r → IfErr r (IsJustifiedBySectors a b)
read_cause a b long ks bytes (Ok rows) read = tt
read_cause a b long ks bytes (Err e) read = elim read [ inl memory ↦ memory_cause a b e memory | inr both ↦ data_cause a b e both.0 ]
