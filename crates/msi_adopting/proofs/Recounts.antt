-- What was counted in the parts of a package is what it counts with right counts; and why it can't be written so.
use Rattle.std.proofs.Common.{◌≡◌, ◌∙◌, ℕ, zero, suc, ◌+◌, ◌-◌, ◌<◌, ◌≤◌, ◌⊎◌, inl, inr, true, false, List, [], ◌∷◌, map, length, refl, sym, ap, ap₂, subst, arith, Some}
use Rattle.std.specs.Prelude.{All, Err, IfErr, IsTrue, MatchResult, Ok, Result, Vec, is_some, nat_lt, unwrap_or}
use Rattle.std.specs.List.{list_all}
use Rattle.std.specs.declared.alloc.Global.{Global}
use Rattle.std.proofs.lemmas.Bool.{cases_lt}
use Rattle.std.proofs.lemmas.List.{get_or-replicate, get_or_past, length-map, length-replicate}
use Rattle.std.proofs.lemmas.List.Elements.{All-cons, All-head, All-tail}
use Rattle.std.proofs.lemmas.List.Sums.{sum_by-cons}
use Rattle.cfb.specs.Views.{mini_of}
use Rattle.cfb.specs.declared.compound_file.CompoundFile.{CompoundFile}
use Rattle.cfb_fat.specs.Tables.{IsJustifiedBySectors}
use Rattle.cfb_medium.specs.Calls.{IsFaultOrInvalidInputIf}
use Rattle.cfb_medium.specs.declared.error.Error.{Error}
use Rattle.cfb_medium.specs.declared.error.Error.TheVariants.{Device, Failed, InvalidData, InvalidInput, Memory}
use Rattle.cfb_medium.specs.declared.medium.ReadMedium.{Ghosts}
use Rattle.cfb_mini.specs.Views.{allocator_of}
use Rattle.cfb_tree.specs.Names.{CaseTable}
use Rattle.cfb_tree.specs.Tree.{Tree}
use Rattle.msi_changes.specs.Laws.{uses_in}
use Rattle.msi_soundness.proofs.Counted.{some_is}
use Rattle.msi_soundness.proofs.Taken.{all_counted, AreLeft}
use Rattle.msi_soundness.specs.Counting.{TableIsRead, table_at}
use Rattle.msi_spec.proofs.PacksOnce.{ok_same, some_same}
use Rattle.msi_spec.proofs.SoundUses.{rows_read}
use Rattle.msi_spec.specs.Known.{HaveRows}
use Rattle.msi_spec.specs.Opening.{keeps_encoded_names}
use Rattle.msi_spec.specs.Package.{PackageContent, TreePacksPackage, data_name, objects, pool_name, table_stream}
use Rattle.msi_spec.specs.Sound.{is_free_table_name, refcounts_of}
use Rattle.msi_spec.specs.Uses.{RefcountsAreExact, counts_of, left_at}
use Rattle.msi_parts.proofs.Judging.{all_of, each_of, of_map, to_map}
use Rattle.msi_parts.proofs.Memory.{memory_is}
use Rattle.msi_parts.specs.Held.{ArePartsOfTree, headings_in}
use Rattle.msi_parts.specs.Judged.{are_free_names}
use Rattle.msi_parts.specs.Parts.{MemoryIsPackage, heading}
use Rattle.msi_parts.specs.declared.parts.PackageParts.{PackageParts}
use Rattle.msi_pool.specs.Pool.{PoolEntry, Pool, pool_stream, stored_of}
use Rattle.msi_pool.specs.PoolKept.{AreFreeEmpty}
use Rattle.msi_pool.specs.PoolState.{length_limit}
use Rattle.msi_pool.specs.PoolReading.{Begun, begun, texts_give_back}
use Rattle.msi_recounted.specs.Counts.{listed_uses, pool_with, with_uses}
use Rattle.msi_recounted.specs.Recounted.{CanBeAdopted, recounted}
use Rattle.msi_stored.specs.StoredPackages.{rows_in}
use Rattle.msi_tables.specs.Rows.{kinds_of}
use Rattle.msi_tables.specs.Table.{Heading, Table}
use Rattle.msi_adopting.specs.Adopted.{GetsPool, HasLongText, IsUnadopted}
use Rattle.msi_adopting.specs.Counted.{AreUsesAt, CanBeCounted, full_counts}

-- ---- lists

-- counts that agree from place 1 on
with_same : (f g : ℕ → ℕ) (ps : List PoolEntry) (n : ℕ) → 0 < n → ((m : ℕ) → 0 < m → f m ≡ g m) → with_uses f n ps ≡ with_uses g n ps
with_same f g [] n above same = refl
with_same f g (p ∷ ps) n above same =
    ap₂ (λ (c : ℕ) (qs : List PoolEntry). record { text = p.text; count = c } ∷ qs) (same n above) (with_same f g ps (n + 1) (omega arith) same)

length-with : (f : ℕ → ℕ) (ps : List PoolEntry) (n : ℕ) → length (with_uses f n ps) ≡ length ps
length-with f [] n = refl
length-with f (p ∷ ps) n = ap (λ k. suc k) (length-with f ps (n + 1))

full_most : (n k : ℕ) → left_at (full_counts n) k ≤ 65535
full_most n k = by (cases_lt k n)
  where
    by : (k < n) ⊎ (n ≤ k) → left_at (full_counts n) k ≤ 65535
    by (inl below) = let is : left_at (full_counts n) k ≡ 65535 = get_or-replicate n k 65535 0 below in omega (arith, is)
    by (inr past) =
        let is : left_at (full_counts n) k ≡ 0 = get_or_past (full_counts n) k 0 (let long = length-replicate {A = ℕ} n 65535 in omega (arith, long, past)) in
        omega (arith, is)

-- ---- tables whose rows are those of the tree

module _ (letters : CaseTable) (tree : Tree) (pool : Pool) where
  abbrev IsRead : Table → Type 0
  IsRead t = rows_in letters tree (heading pool.long t) ≡ Some t.rows

  own : (ts : List Table) → HaveRows letters tree pool ts → map (table_at letters tree) (map (heading pool.long) ts) ≡ ts
  own [] all = refl
  own (t ∷ ts) all =
      let here = some_is (rows_in letters tree (heading pool.long t)) t.rows [] (All-head IsRead t ts all) in
      ap (λ rs. record { name = t.name; columns = t.columns; rows = rs } ∷ map (table_at letters tree) (map (heading pool.long) ts)) here
      ∙ ap (λ us. t ∷ us) (own ts (All-tail IsRead t ts all))

  all_read : (ts : List Table) → HaveRows letters tree pool ts → All (TableIsRead letters tree) (map (heading pool.long) ts)
  all_read [] all = λ k d l. absurd (omega (arith, l))
  all_read (t ∷ ts) all =
      All-cons (TableIsRead letters tree) (heading pool.long t) (map (heading pool.long) ts)
      (ap is_some (All-head IsRead t ts all)) (all_read ts (All-tail IsRead t ts all))

  -- no cell of them names place 0
  none_named : (ts : List Table) → HaveRows letters tree pool ts → refcounts_of ts 0 ≡ 0
  none_named [] all = refl
  none_named (t ∷ ts) all =
      let here = (rows_read pool.long (kinds_of t.columns) (unwrap_or (table_stream letters (objects tree.content) t.name) []) t.rows (All-head IsRead t ts all)).1 in
      let later = none_named ts (All-tail IsRead t ts all) in
      let parts = sum_by-cons (λ (u : Table). uses_in u.rows 0) t ts in
      omega (arith, here, later, parts)

-- ---- the parts of a package

module _ (letters : CaseTable) (tree : Tree) (P : PackageContent) (packs : TreePacksPackage letters tree P) (it : PackageParts) (are : ArePartsOfTree letters tree it) where
  memory : MemoryIsPackage it.kind it.summary.props it.pool.pool (headings_in it) P
  memory = memory_is letters tree it.kind it.summary it.pool.pool it.gives_back (headings_in it) are.parts P packs

  rows : HaveRows letters tree it.pool.pool P.tables
  rows = subst (λ (q : Pool). HaveRows letters tree q P.tables) (sym memory.pool) packs.rows

  tables_same : map (table_at letters tree) (headings_in it) ≡ P.tables
  tables_same = ap (map (table_at letters tree)) memory.tables ∙ own letters tree it.pool.pool P.tables rows

  read : All (TableIsRead letters tree) (headings_in it)
  read = subst (λ (hs : List Heading). All (TableIsRead letters tree) hs) (sym memory.tables) (all_read letters tree it.pool.pool P.tables rows)

  abbrev n : ℕ
  n = length it.pool.pool.places

  -- what the streams of the pool give back was judged
  pool_gives : it.gives_back ≡ true → (pool_bytes data_bytes : List ℕ) (builder : Begun) → table_stream letters (objects tree.content) pool_name ≡ Some pool_bytes
      → table_stream letters (objects tree.content) data_name ≡ Some data_bytes → begun pool_bytes ≡ Ok builder → texts_give_back builder data_bytes ≡ Ok true
  pool_gives is pool_bytes data_bytes builder at also begins =
      let a = are.parts in
      let first : pool_bytes ≡ a.parts.pool_bytes = some_same pool_bytes a.parts.pool_bytes (sym at ∙ a.parts.pool_at) in
      let second : data_bytes ≡ a.parts.data_bytes = some_same data_bytes a.parts.data_bytes (sym also ∙ a.parts.data_at) in
      let same : builder ≡ a.parts.builder = ok_same builder a.parts.builder (sym begins ∙ ap begun first ∙ a.parts.begins) in
      ap (λ b. texts_give_back b data_bytes) same ∙ ap (texts_give_back a.parts.builder) second ∙ a.back ∙ ap (λ b. Ok b) is

  names_free : are_free_names (headings_in it) ≡ true → All (λ t. IsTrue (is_free_table_name t.name)) P.tables
  names_free free =
      of_map (heading it.pool.pool.long) (λ h. IsTrue (is_free_table_name h.name)) P.tables
      (subst (λ (hs : List Heading). All (λ h. IsTrue (is_free_table_name h.name)) hs) memory.tables (each_of (λ h. is_free_table_name h.name) (headings_in it) free))

  module _ (uses : List ℕ) (used : AreUsesAt letters tree (headings_in it) n uses) where
    counted : (m : ℕ) → 0 < m → listed_uses uses m ≡ refcounts_of P.tables m
    counted m above =
        let e : m ≡ suc (m - 1) = omega (arith, above) in
        used.each (m - 1) ∙ ap (λ ts. refcounts_of ts (suc (m - 1))) tables_same ∙ ap (refcounts_of P.tables) (sym e)

    pub pool_same : pool_with (listed_uses uses) it.pool.pool ≡ (recounted P).pool
    pool_same =
        ap (pool_with (listed_uses uses)) memory.pool
        ∙ ap (λ (ps : List PoolEntry). record P.pool { places = ps }) (with_same (listed_uses uses) (refcounts_of P.tables) P.pool.places 1 (omega arith) counted)

    few : (m : ℕ) → refcounts_of P.tables m ≤ 65535
    few zero = let none = none_named letters tree it.pool.pool P.tables rows in omega (arith, none)
    few (suc k) =
        let here : refcounts_of P.tables (suc k) ≤ left_at (full_counts n) k = subst (λ ts. refcounts_of ts (suc k) ≤ left_at (full_counts n) k) tables_same (used.can.few k) in
        let most = full_most n k in omega (arith, here, most)

    -- so the package can be written, with this stream
    pub gets : keeps_encoded_names letters ≡ true → it.gives_back ≡ true → are_free_names (headings_in it) ≡ true → n ≤ 16777215
        → AreFreeEmpty (pool_with (listed_uses uses) it.pool.pool).places → (bytes : List ℕ) → bytes ≡ pool_stream (pool_with (listed_uses uses) it.pool.pool) → GetsPool letters tree P bytes
    gets may gives_back free some empty bytes is = record {
      usable = may;
      packs = packs;
      can = record { texts = pool_gives gives_back; few = few; used = subst (λ (q : Pool). AreFreeEmpty q.places) pool_same empty };
      names = names_free free;
      named = subst (λ (q : Pool). length q.places ≤ 16777215) memory.pool some;
      stream = is ∙ ap pool_stream pool_same;
    }

    pub no_text_unused : (AreFreeEmpty (pool_with (listed_uses uses) it.pool.pool).places → ⊥) → CanBeAdopted letters tree P → ⊥
    no_text_unused none can = none (subst (λ (q : Pool). AreFreeEmpty q.places) (sym pool_same) can.sound.free)

    -- what the stream of these uses tells
    abbrev pub IsUnused : Type 0
    IsUnused = AreFreeEmpty (pool_with (listed_uses uses) it.pool.pool).places

    pub uses_told : keeps_encoded_names letters ≡ true → it.gives_back ≡ true → are_free_names (headings_in it) ≡ true → n ≤ 16777215 → (r : Result (Vec ℕ Global) Error)
        → MatchResult r (λ pool. IsUnused × (pool.items ≡ pool_stream (pool_with (listed_uses uses) it.pool.pool)))
        (λ e. (e ≡ Memory) ⊎ ((e ≡ InvalidData) × (IsUnused → ⊥)) ⊎ ((e ≡ InvalidInput) × (list_all (λ s. nat_lt (length s.0) length_limit) (stored_of it.pool.pool) ≡ false)))
        → MatchResult r (λ pool. GetsPool letters tree P pool.items) (IsUnadopted letters tree P (HasLongText P))
    uses_told may gives_back free some (Ok pool) told = gets may gives_back free some told.0 pool.items told.1
    uses_told may gives_back free some (Err e) (inl is) = inl (inl (subst (IsFaultOrInvalidInputIf ⊥) (sym is) tt))
    uses_told may gives_back free some (Err e) (inr (inl both)) = inr (inl (both.0, no_text_unused both.1))
    uses_told may gives_back free some (Err e) (inr (inr long)) =
        inr (inr (long.0, subst (λ (q : Pool). list_all (λ s. nat_lt (length s.0) length_limit) (stored_of q) ≡ false) memory.pool long.1))

  -- ---- why it can't be adopted

  pub no_texts_lost : it.gives_back ≡ false → CanBeAdopted letters tree P → ⊥
  no_texts_lost lost can =
      let a = are.parts in
      let is : it.gives_back ≡ true = ok_same it.gives_back true
      (sym a.back ∙ can.sound.gives_back.pool a.parts.pool_bytes a.parts.data_bytes a.parts.builder a.parts.pool_at a.parts.data_at a.parts.begins) in
      let never : true ≡ false = sym is ∙ lost in cc

  pub no_names_taken : are_free_names (headings_in it) ≡ false → CanBeAdopted letters tree P → ⊥
  no_names_taken taken can =
      let is : are_free_names (headings_in it) ≡ true = ap are_free_names memory.tables
      ∙ all_of (λ h. is_free_table_name h.name) (map (heading it.pool.pool.long) P.tables)
      (to_map (heading it.pool.pool.long) (λ h. IsTrue (is_free_table_name h.name)) P.tables can.sound.named.table_names) in
      let never : true ≡ false = sym is ∙ taken in cc

  pub no_places_more : 16777215 < n → CanBeAdopted letters tree P → ⊥
  no_places_more more can =
      let most : length P.pool.places ≤ 16777215 = can.named in
      let here : n ≤ 16777215 = subst (λ (q : Pool). length q.places ≤ 16777215) (sym memory.pool) most in
      omega (arith, more, here)

  can_be_counted : CanBeAdopted letters tree P → CanBeCounted letters tree (headings_in it) n
  can_be_counted can = record { read = read; few = λ k. by k (cases_lt k n) }
    where
      left : AreLeft letters tree (counts_of (recounted P).pool.places) (headings_in it)
      left = (all_counted letters tree (recounted P).pool (headings_in it)).1
          (read, subst (λ (ts : List Table). RefcountsAreExact (recounted P).pool ts) (sym tables_same) can.sound.counted)

      by : (k : ℕ) → (k < n) ⊎ (n ≤ k) → refcounts_of (map (table_at letters tree) (headings_in it)) (suc k) ≤ left_at (full_counts n) k
      by k (inl below) =
          let full : left_at (full_counts n) k ≡ 65535 = get_or-replicate n k 65535 0 below in
          let here : refcounts_of (map (table_at letters tree) (headings_in it)) (suc k) ≤ 65535 = subst (λ ts. refcounts_of ts (suc k) ≤ 65535) (sym tables_same) (can.few (suc k)) in
          omega (arith, full, here)
      by k (inr past) =
          let size : length (counts_of (recounted P).pool.places) ≡ n = length-map (recounted P).pool.places (λ (p : PoolEntry). p.count)
          ∙ length-with (refcounts_of P.tables) P.pool.places 1 ∙ ap (λ (q : Pool). length q.places) (sym memory.pool) in
          let none : left_at (counts_of (recounted P).pool.places) k ≡ 0 = get_or_past (counts_of (recounted P).pool.places) k 0 (omega (arith, size, past)) in
          let here = left.uses k in
          omega (arith, none, here)

  pub no_counts_many : (CanBeCounted letters tree (headings_in it) n → ⊥) → CanBeAdopted letters tree P → ⊥
  no_counts_many none can = none (can_be_counted can)

  pub counts_told : (e : Error) → IsFaultOrInvalidInputIf ⊥ e ⊎ ((e ≡ InvalidData) × (CanBeCounted letters tree (headings_in it) n → ⊥)) → IsUnadopted letters tree P (HasLongText P) e
  counts_told e (inl fault) = inl (inl fault)
  counts_told e (inr both) = inr (inl (both.0, no_counts_many both.1))

-- an error that is told of memory and rules has no cause in the file
pub no_cause : {F : Type 0} {g : Ghosts F} {X : Type 0} (a b : CompoundFile F g) (A : X → Type 0) (B C : Type 0) (r : Result X Error)
    → MatchResult r A (λ e. (e ≡ Memory) ⊎ ((e ≡ InvalidData) × B) ⊎ ((e ≡ InvalidInput) × C)) → IfErr r (IsJustifiedBySectors (allocator_of (mini_of a)) (allocator_of (mini_of b)))
no_cause a b A B C (Ok x) told = tt
no_cause a b A B C (Err e) (inl is) =
    λ start from. record { device = λ d. let never : Memory ≡ Device = sym is ∙ d in absurd (cc); earlier = λ d. let never : Memory ≡ Failed = sym is ∙ d in absurd (cc) }
no_cause a b A B C (Err e) (inr (inl (is, _))) =
    λ start from. record { device = λ d. let never : InvalidData ≡ Device = sym is ∙ d in absurd (cc); earlier = λ d. let never : InvalidData ≡ Failed = sym is ∙ d in absurd (cc) }
no_cause a b A B C (Err e) (inr (inr (is, _))) =
    λ start from. record { device = λ d. let never : InvalidInput ≡ Device = sym is ∙ d in absurd (cc); earlier = λ d. let never : InvalidInput ≡ Failed = sym is ∙ d in absurd (cc) }
