-- The parts of a package as they were read, and the refusals of its definition.
use Rattle.std.proofs.Common.{◌≡◌, ◌∙◌, ◌⊎◌, ℕ, Bool, true, false, List, [], map, refl, sym, ap, subst, inl, inr, Some, None}
use Rattle.std.specs.Prelude.{◌<◌, Err, IfErr, IfOk, Ok, Result, Vec, slice_index}
use Rattle.std.specs.declared.alloc.Global.{Global}
use Rattle.std.specs.declared.rc.Rc.{Rc}
use Rattle.std.specs.Str.{chars}
use Rattle.cfb_entries.specs.Listed.{Listed, listed}
use Rattle.cfb_fat.specs.Keeping.{own_cause}
use Rattle.cfb_fat.specs.Tables.{IsJustifiedBySectors}
use Rattle.cfb_fat.specs.declared.allocator.Allocator.{Allocator}
use Rattle.cfb_spec.specs.TreeRules.{Answer, ShownObject, an_entry, root_object, shown}
use Rattle.cfb_medium.specs.Calls.{IsFaultOrInvalidInputIf}
use Rattle.cfb_medium.specs.declared.error.Error.{Error}
use Rattle.cfb_medium.specs.declared.error.Error.TheVariants.{Device, Failed, InvalidData, Memory, NotFound, UnexpectedEof}
use Rattle.cfb_medium.specs.declared.medium.ReadMedium.{Ghosts}
use Rattle.cfb_tree.specs.Names.{CaseTable}
use Rattle.cfb_tree.specs.Tree.{Tree}
use Rattle.msi_spec.specs.Opening.{rows_by, summary_read}
use Rattle.msi_spec.specs.Package.{data_name, objects, pool_name, stream_at, summary_name, table_stream}
use Rattle.msi_parts.specs.Parts.{HasSchema, IsBegun, IsBuilt, IsSummary, builder_in, built_in, schema_in, summary_in}
use Rattle.msi_pool.specs.Pool.{Pool}
use Rattle.msi_pool.specs.PoolReading.{Begun, begun, pool_of, texts_give_back as pool_texts_give_back}
use Rattle.msi_props.specs.Held.{SetState}
use Rattle.msi_props.specs.Props.{texts_give_back}
use Rattle.msi_texts.specs.Results.{◌>>=◌, ReturnsOrOutOfMemory, or_refused, unless_not}
use Rattle.msi_schema.specs.Headings.{AreTold, headings_in}
use Rattle.msi_columns.specs.Column.{Column}
use Rattle.msi_tables.specs.Rows.{Row}
use Rattle.msi_tables.specs.Schema.{columns_columns, columns_name, is_schema, tables_columns, tables_name, validation_columns, validation_name}
use Rattle.msi_tables.specs.Table.{row_data}
use Rattle.msi_tables.specs.declared.table.Table.{Table}
use Rattle.msi_stored.specs.Shown.{FindsPart, IsLostPart}
use Rattle.msi_store.proofs.Faults.{data_cause, memory_cause}
use Rattle.msi_store.proofs.Refusals.{IsOfBytes, Refuses}

-- ---- causes

not_device : {e : Error} → IsOfBytes e → e ≡ Device → ⊥
not_device (inl data_error) device = let no : Device ≡ InvalidData = sym device ∙ data_error in absurd (cc)
not_device (inr short) device = let no : Device ≡ UnexpectedEof = sym device ∙ short in absurd (cc)

not_failed : {e : Error} → IsOfBytes e → e ≡ Failed → ⊥
not_failed (inl data_error) failed = let no : Failed ≡ InvalidData = sym failed ∙ data_error in absurd (cc)
not_failed (inr short) failed = let no : Failed ≡ UnexpectedEof = sym failed ∙ short in absurd (cc)

module _ {F : Type 0} {g : Ghosts F} (a b : Allocator F g) where
  -- what bytes say has no cause in the medium
  of_bytes_cause : (e : Error) → IsOfBytes e → IsJustifiedBySectors a b e
  of_bytes_cause e is = own_cause a b e (λ device. absurd (not_device is device)) (λ failed. absurd (not_failed is failed))

  pub err_cause : {X Y : Type 0} (r : Result X Error) (d : Result Y Error) → Refuses d → IfErr r (λ e. (e ≡ Memory) ⊎ (d ≡ Err e)) → IfErr r (IsJustifiedBySectors a b)
  err_cause (Ok x) d refuses told = tt
  err_cause (Err e) d refuses told = elim told [ inl memory ↦ memory_cause a b e memory | inr is ↦ of_bytes_cause e (subst Refuses is refuses) ]

  pub answer_cause : {X Y : Type 0} (see : X → Y) (r : Result X Error) (d : Result Y Error) → Refuses d → ReturnsOrOutOfMemory see r d → IfErr r (IsJustifiedBySectors a b)
  answer_cause see (Ok x) d refuses told = tt
  answer_cause {X} see (Err e) d refuses told = err_cause {X = X} (Err e) d refuses told

  pub same_cause : {X : Type 0} (r d : Result X Error) → Refuses d → r ≡ d → IfErr r (IsJustifiedBySectors a b)
  same_cause (Ok x) d refuses is = tt
  same_cause (Err e) d refuses is = of_bytes_cause e (subst Refuses (sym is) refuses)

  pub missing_cause : (e : Error) → e ≡ NotFound → IsJustifiedBySectors a b e
  missing_cause e is = own_cause a b e (λ device. let no : Device ≡ NotFound = sym device ∙ is in absurd (cc)) (λ failed. let no : Failed ≡ NotFound = sym failed ∙ is in absurd (cc))

-- ---- the kind

abbrev class_in : Answer → List ℕ
class_in (an_entry s) = s.facts.clsid
class_in _ = []

pub root_class : (tree : Tree) (l : Listed) (s : ShownObject) → an_entry (shown [] (root_object tree)) ≡ an_entry s → l ≡ listed s → l.facts.clsid ≡ tree.root.clsid
root_class tree l s is lists = ap (λ (l : Listed). l.facts.clsid) lists ∙ ap class_in (sym is)

-- ---- the summary and the pool

-- its name is its characters
pub summary_chars : summary_name ≡ chars summary_name
unfolding chars
summary_chars = refl

module _ (letters : CaseTable) (tree : Tree) where
  pub summary_found : (whole bytes : List ℕ) (r : Result SetState Error) → stream_at letters (objects tree.content) summary_name ≡ Some bytes
      → ReturnsOrOutOfMemory (λ s. s.props) r (summary_read bytes) → IfOk r (λ s. s.whole ≡ texts_give_back bytes) → FindsPart letters whole (IsSummary letters tree) (summary_in letters tree) r
  summary_found whole bytes (Ok s) at read back = record { bytes = bytes; at = at; read = read; whole = back }
  summary_found whole bytes (Err e) at read back = elim read [
    | inl memory ↦ inl (inl (subst (IsFaultOrInvalidInputIf ⊥) (sym memory) tt))
    | inr is ↦ inr (ap (λ o. or_refused o NotFound >>= summary_read) at ∙ is)
  ]

  pub summary_missing : stream_at letters (objects tree.content) summary_name ≡ None → summary_in letters tree ≡ Err NotFound
  summary_missing at = ap (λ o. or_refused o NotFound >>= summary_read) at

  pub builder_found : (whole bytes : List ℕ) (r : Result Begun Error) → table_stream letters (objects tree.content) pool_name ≡ Some bytes → ((i : ℕ) → slice_index bytes i < 256)
      → ReturnsOrOutOfMemory (λ b. b) r (begun bytes) → FindsPart letters whole (IsBegun letters tree) (builder_in letters tree) r
  builder_found whole bytes (Ok b) at small read = record { bytes = bytes; at = at; small = small; begins = read }
  builder_found whole bytes (Err e) at small read = elim read [
    | inl memory ↦ inl (inl (subst (IsFaultOrInvalidInputIf ⊥) (sym memory) tt))
    | inr is ↦ inr (ap (λ o. or_refused o NotFound >>= begun) at ∙ is)
  ]

  pub builder_missing : table_stream letters (objects tree.content) pool_name ≡ None → builder_in letters tree ≡ Err NotFound
  builder_missing at = ap (λ o. or_refused o NotFound >>= begun) at

  pub built_is : (b : Begun) (p : Pool) (gives_back : Bool) (bytes : List ℕ) → table_stream letters (objects tree.content) data_name ≡ Some bytes → pool_of b bytes ≡ Ok p
      → pool_texts_give_back b bytes ≡ Ok gives_back → IsBuilt letters tree b p gives_back
  built_is b p gives_back bytes at built back = record { bytes = bytes; at = at; built = built; back = back }

  pub built_refused : (b : Begun) (bytes : List ℕ) (e : Error) → table_stream letters (objects tree.content) data_name ≡ Some bytes → pool_of b bytes ≡ Err e → built_in letters tree b ≡ Err e
  built_refused b bytes e at is = ap (λ o. or_refused o NotFound >>= pool_of b) at ∙ is

  pub built_missing : (b : Begun) → table_stream letters (objects tree.content) data_name ≡ None → built_in letters tree b ≡ Err NotFound
  built_missing b at = ap (λ o. or_refused o NotFound >>= pool_of b) at

-- ---- the schema

abbrev Tables : Type 0
Tables = Vec (Rc Table Global) Global

module _ (letters : CaseTable) (tree : Tree) (pool : Pool) where
  abbrev told : List Row → List Row → List Row → Bool
  told t c v = is_schema (map (row_data pool) t) (map (row_data pool) c) (map (row_data pool) v)

  abbrev after_columns : List Row → List Row → Result (Unit {0}) Error
  after_columns t c = rows_by letters (objects tree.content) pool validation_name validation_columns >>= λ v. unless_not (told t c v) InvalidData

  abbrev after_tables : List Row → Result (Unit {0}) Error
  after_tables t = rows_by letters (objects tree.content) pool columns_name columns_columns >>= after_columns t

  pub tables_refused : (e : Error) → rows_by letters (objects tree.content) pool tables_name tables_columns ≡ Err e → schema_in letters tree pool ≡ Err e
  tables_refused e h = ap (λ m. m >>= after_tables) h

  module _ (t : List Row) (is_t : rows_by letters (objects tree.content) pool tables_name tables_columns ≡ Ok t) where
    pub columns_refused : (e : Error) → rows_by letters (objects tree.content) pool columns_name columns_columns ≡ Err e → schema_in letters tree pool ≡ Err e
    columns_refused e h = ap (λ m. m >>= after_tables) is_t ∙ ap (λ m. m >>= after_columns t) h

    module _ (c : List Row) (is_c : rows_by letters (objects tree.content) pool columns_name columns_columns ≡ Ok c) where
      pub validation_refused : (e : Error) → rows_by letters (objects tree.content) pool validation_name validation_columns ≡ Err e → schema_in letters tree pool ≡ Err e
      validation_refused e h = ap (λ m. m >>= after_tables) is_t ∙ ap (λ m. m >>= after_columns t) is_c ∙ ap (λ m. m >>= λ v. unless_not (told t c v) InvalidData) h

      module _ (v : List Row) (is_v : rows_by letters (objects tree.content) pool validation_name validation_columns ≡ Ok v) where
        undescribed : told t c v ≡ false → schema_in letters tree pool ≡ Err InvalidData
        undescribed none =
            ap (λ m. m >>= after_tables) is_t ∙ ap (λ m. m >>= after_columns t) is_c ∙ ap (λ m. m >>= λ v. unless_not (told t c v) InvalidData) is_v
            ∙ ap (λ b. unless_not b InvalidData) none

        pub schema_found : (whole : List ℕ) (r : Result Tables Error)
            → IfOk r (λ found. (told t c v ≡ true) × AreTold (map (row_data pool) t) (map (row_data pool) c) (map (row_data pool) v) pool.long (headings_in found.items))
            → IfErr r (λ e. (e ≡ Memory) ⊎ ((e ≡ InvalidData) × (told t c v ≡ false)))
            → FindsPart letters whole (λ ts. HasSchema letters tree pool (headings_in ts.items)) (schema_in letters tree pool) r
        schema_found whole (Ok found) ok err = record {
          tables = t;
          columns = c;
          validation = v;
          system = record { of_tables = is_t; of_columns = is_c; of_validation = is_v };
          schema = ok.0;
          described = ok.1;
        }
        schema_found whole (Err e) ok err = elim err [
          | inl memory ↦ inl (inl (subst (IsFaultOrInvalidInputIf ⊥) (sym memory) tt))
          | inr both ↦ inr (undescribed both.1 ∙ ap (λ x. Err x) (sym both.0))
        ]

-- ---- where the schema is left

abbrev pub Found : CaseTable → List ℕ → Tree → Pool → Result Tables Error → Type 0
Found letters bytes tree pool r = FindsPart letters bytes (λ ts. HasSchema letters tree pool (headings_in ts.items)) (schema_in letters tree pool) r

abbrev pub Refused : CaseTable → List ℕ → Tree → Pool → List ℕ → List Column → Error → Type 0
Refused letters bytes tree pool name columns e = IsLostPart letters bytes e ⊎ (rows_by letters (objects tree.content) pool name columns ≡ Err e)

abbrev pub Reads : CaseTable → Tree → Pool → List ℕ → List Column → List Row → Type 0
Reads letters tree pool name columns rows = rows_by letters (objects tree.content) pool name columns ≡ Ok rows

module _ (letters : CaseTable) (bytes : List ℕ) (tree : Tree) (pool : Pool) where
  -- columns that are the fixed ones
  fixed : {x : Result (List Row) Error} (name : List ℕ) (columns known : List Column) → columns ≡ known → rows_by letters (objects tree.content) pool name columns ≡ x → rows_by letters (objects tree.content) pool name known ≡ x
  fixed name columns known same is = ap (λ cs. rows_by letters (objects tree.content) pool name cs) (sym same) ∙ is

  left : (r : Result Tables Error) (e : Error) → r ≡ Err e → IsLostPart letters bytes e ⊎ (schema_in letters tree pool ≡ Err e) → Found letters bytes tree pool r
  left r e is why = subst (Found letters bytes tree pool) (sym is) why

  module _ (cs : List Column) (same : cs ≡ tables_columns) where
    pub tables_exit : (r : Result Tables Error) (e : Error) → r ≡ Err e → Refused letters bytes tree pool tables_name cs e → Found letters bytes tree pool r
    tables_exit r e is why = left r e is (elim why [ inl lost ↦ inl lost | inr refuses ↦ inr (tables_refused letters tree pool e (fixed tables_name cs tables_columns same refuses)) ])

    module _ (t : List Row) (is_t : Reads letters tree pool tables_name cs t) (ds : List Column) (same_columns : ds ≡ columns_columns) where
      pub columns_exit : (r : Result Tables Error) (e : Error) → r ≡ Err e → Refused letters bytes tree pool columns_name ds e → Found letters bytes tree pool r
      columns_exit r e is why = left r e is (elim why [
        | inl lost ↦ inl lost
        | inr refuses ↦ inr (columns_refused letters tree pool t (fixed tables_name cs tables_columns same is_t) e (fixed columns_name ds columns_columns same_columns refuses))
      ])

      module _ (c : List Row) (is_c : Reads letters tree pool columns_name ds c) (vs : List Column) (same_validation : vs ≡ validation_columns) where
        pub validation_exit : (r : Result Tables Error) (e : Error) → r ≡ Err e → Refused letters bytes tree pool validation_name vs e → Found letters bytes tree pool r
        validation_exit r e is why = left r e is (elim why [
          | inl lost ↦ inl lost
          | inr refuses ↦ inr (validation_refused letters tree pool t (fixed tables_name cs tables_columns same is_t) c (fixed columns_name ds columns_columns same_columns is_c) e
              (fixed validation_name vs validation_columns same_validation refuses))
        ])

        pub schema_end : (v : List Row) → Reads letters tree pool validation_name vs v → (r : Result Tables Error)
            → IfOk r (λ found. (told letters tree pool t c v ≡ true) × AreTold (map (row_data pool) t) (map (row_data pool) c) (map (row_data pool) v) pool.long (headings_in found.items))
            → IfErr r (λ e. (e ≡ Memory) ⊎ ((e ≡ InvalidData) × (told letters tree pool t c v ≡ false))) → Found letters bytes tree pool r
        schema_end v is_v r ok err =
            schema_found letters tree pool t (fixed tables_name cs tables_columns same is_t) c (fixed columns_name ds columns_columns same_columns is_c)
            v (fixed validation_name vs validation_columns same_validation is_v) bytes r ok err

-- rows that describe nothing have no cause in the medium
pub schema_cause : {F : Type 0} {g : Ghosts F} (a b : Allocator F g) {X : Type 0} (P : Type 0) (r : Result X Error) → IfErr r (λ e. (e ≡ Memory) ⊎ ((e ≡ InvalidData) × P)) → IfErr r (IsJustifiedBySectors a b)
schema_cause a b P (Ok x) err = tt
schema_cause a b P (Err e) err = elim err [ inl memory ↦ memory_cause a b e memory | inr both ↦ data_cause a b e both.0 ]

-- what an error that is passed has
pub err_at : {X : Type 0} (P : Error → Type 0) (r : Result X Error) (e : Error) → r ≡ Err e → P e → IfErr r P
err_at P r e is why = subst (λ r. IfErr r P) (sym is) why
