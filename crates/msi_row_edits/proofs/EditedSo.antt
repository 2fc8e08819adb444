-- What a query on the rows of a table makes of the package that a file stores.
use Rattle.std.proofs.Common.{◌≡◌, ◌∙◌, ℕ, Bool, true, false, List, [], ◌∷◌, map, length, Some, None, Option, inl, refl, sym, ap, ap₂, subst, arith, Result, Ok, Err}
use Rattle.std.specs.Prelude.{not, option_map, slice_get, unwrap_or, All, IsTrue, MatchResult}
use Rattle.std.specs.List.{list_all, remove}
use Rattle.std.proofs.lemmas.Option.{get_or_from_slice_get, slice_get-get_or, slice_get_within}
use Rattle.cfb.specs.FollowedRules.{FileMeansTree}
use Rattle.cfb.specs.Views.{file_case_table}
use Rattle.cfb.specs.declared.compound_file.CompoundFile.{CompoundFile}
use Rattle.cfb_medium.specs.declared.error.Error.{Error}
use Rattle.cfb_medium.specs.declared.error.Error.TheVariants.{InvalidInput, NotFound}
use Rattle.cfb_medium.specs.declared.medium.ReadMedium.{Ghosts}
use Rattle.cfb_tree.specs.Names.{CaseTable}
use Rattle.cfb_tree.specs.Tree.{Tree}
use Rattle.msi_changes.specs.Applied.{with_rows as rows_given}
use Rattle.msi_changes.specs.Changes.{deleted, inserted, updated}
use Rattle.msi_changes.proofs.Refused.{refused_likewise}
use Rattle.msi_changes.proofs.UsesKept.{used_are_counted}
use Rattle.msi_expr.specs.Formula.{Formula}
use Rattle.msi_pool.specs.Pool.{Pool}
use Rattle.msi_pool.specs.PoolKept.{AreFreeEmpty}
use Rattle.msi_pool.specs.PoolState.{PoolState}
use Rattle.msi_tables.specs.Rows.{has_place, kinds_of, rows_bytes, rows_of, AreRowsWritable, IsStored, Row}
use Rattle.msi_tables.specs.Table.{table_named, Heading, IsStoredByKeys, Table}
use Rattle.msi_values.specs.Datum.{Datum}
use Rattle.msi_texts.specs.Results.{◌>>=◌, or_refused}
use Rattle.msi_spec.specs.RoundTrips.{RowsRoundTrip}
use Rattle.msi_spec.specs.Calls.{change, changed, is_system, may_insert, may_update, rows_put, with_rows, Change, EndsRefusedOrBy, PackagePuts}
use Rattle.msi_spec.specs.Package.{at_name, objects, stream_name, table_stream}
use Rattle.msi_spec.specs.Package.{PackageContent}
use Rattle.msi_spec.specs.Sound.{is_free_table_name, refcounts_of}
use Rattle.msi_spec.specs.Split.{TreeStoresRest}
use Rattle.msi_spec.specs.Uses.{RefcountsAreExact}
use Rattle.msi_spec.proofs.SystemRows.{bytes_same}
use Rattle.msi_parts.specs.Parts.{heading}
use Rattle.msi_stored.specs.Changing.{StoresSoundPackage}
use Rattle.msi_stored.specs.Room.{IsFullForName, IsFullForRule}
use Rattle.msi_stored.specs.StoredPackages.{rows_in}
use Rattle.msi_rewritten.specs.Rewriting.{rewritten, HasPut, ReplacesTableRows}
use Rattle.msi_rewritten.proofs.Before.{uses_before}
use Rattle.msi_rewritten.proofs.Counted.{counted_after}
use Rattle.msi_rewritten.proofs.Edited.{delete_rewrites, deleted_come_back, update_rewrites, updated_come_back}
use Rattle.msi_rewritten.proofs.Inserted.{insert_rewrites, inserted_come_back}
use Rattle.msi_rewritten.proofs.Put.{data_beside, pool_beside, summary_beside}
use Rattle.msi_rewritten.proofs.Stored.{found_at, named_after, stores_after}
use Rattle.msi_rewritten.proofs.Tables.{columns_kept, found_after, name_kept, one_changed}
use Rattle.msi_row_edits.specs.Asked.{deleting, inserting, rows_after, rule_of, updating, IsPrepared, IsStoredFor, RowsAsked}
use Rattle.msi_row_edits.specs.Edited.{CanPut, IsEdited, IsTableOf}
use Rattle.msi_row_edits.proofs.Prepared.{delete_refused}

-- what describes others takes no insert and no delete
never_inserted : (pool : Pool) (t : Table) (news : List (List Datum)) (x : List Row × Pool) → inserted false pool t news ≡ Ok x → ⊥
never_inserted pool t news x is = by (inserted true pool t news) (refused_likewise pool t news)
  where
    by : (r : Result (List Row × Pool) Error) → MatchResult r (λ after. inserted false pool t news ≡ Err InvalidInput) (λ e. inserted false pool t news ≡ Err e) → ⊥
    by (Ok y) e = (let never : Ok x ≡ Err InvalidInput = sym is ∙ e in cc)
    by (Err y) e = (let never : Ok x ≡ Err y = sym is ∙ e in cc)

never_deleted : (pool : Pool) (t : Table) (condition : Option Formula) (x : List Row × Pool) → deleted false pool t condition ≡ Ok x → ⊥
never_deleted pool t condition x is = (let never : Err InvalidInput ≡ Ok x = sym (delete_refused pool t condition) ∙ is in cc)

was_ordinary : (made : Bool → Result (List Row × Pool) Error) (x : List Row × Pool) → (made false ≡ Ok x → ⊥) → (name : List ℕ) → made (may_insert name) ≡ Ok x → is_system name ≡ false
was_ordinary made x never name is = by (is_system name) refl
  where
    by : (b : Bool) → is_system name ≡ b → b ≡ false
    by false e = refl
    by true e = absurd (never (sym (ap (λ b. made (not b)) e) ∙ is))

-- ---- the rule

module _ (P : PackageContent) (t : Table) (name : List ℕ) (there : table_named P.tables name ≡ Some t) where
  module _ (query : Table → Result (List Row × Pool) Error) where
    change_is : (r : Result (List Row × Pool) Error) → query t ≡ r → change P name query ≡ changed t r
    change_is r is = subst (λ o. (◌≡◌ {A = Result Change Error} (of_found o) (changed t r))) (sym there) (ap (changed t) is)
      where
        of_found : Option Table → Result Change Error
        of_found o = or_refused o NotFound >>= λ t. changed t (query t)

    query_done : (Stored : Change → List Row → Type 0) (rows stored : List Row) (next : Pool) → query t ≡ Ok (rows, next) → Stored (record { table = t; rows = rows; pool = next }) stored
        → EndsRefusedOrBy (change P name query) P (rewritten P name stored next) (Ok tt) (λ x. (s : List Row) × Stored x s × PackagePuts P name x s (rewritten P name stored next))
    query_done Stored rows stored next is order =
        let Accepted : Change → Type 0 = λ x. (s : List Row) × Stored x s × PackagePuts P name x s (rewritten P name stored next) in
        subst (λ (r : Result Change Error). EndsRefusedOrBy r P (rewritten P name stored next) (Ok tt) Accepted) (sym (change_is (Ok (rows, next)) is)) (refl, (stored, order, refl))

    query_refused : (Accepted : Change → Type 0) (e : Error) → query t ≡ Err e → EndsRefusedOrBy (change P name query) P P (Err e) Accepted
    query_refused Accepted e is = subst (λ (r : Result Change Error). EndsRefusedOrBy r P P (Err e) Accepted) (sym (change_is (Err e) is)) (refl, refl)

  pub asked_done : (q : RowsAsked) (rows stored : List Row) (next : Pool) → rows_after q name P.pool t ≡ Ok (rows, next) → IsStoredFor q next t.columns rows stored → rule_of q name P (rewritten P name stored next) (Ok tt)
  asked_done (inserting news) rows stored next is order = query_done (λ t. inserted (may_insert name) P.pool t news) (λ x s. IsStoredByKeys x.pool x.table.columns x.rows s) rows stored next is order
  asked_done (updating sets condition) rows stored next is order =
      query_done (λ t. updated (may_update name t.columns sets) P.pool t sets condition) (λ x s. IsStored x.table.columns x.rows s) rows stored next is order
  asked_done (deleting condition) rows stored next is order = query_done (λ t. deleted (may_insert name) P.pool t condition) (λ x s. IsStored x.table.columns x.rows s) rows stored next is order

  pub asked_refused : (q : RowsAsked) (e : Error) → rows_after q name P.pool t ≡ Err e → rule_of q name P P (Err e)
  asked_refused (inserting news) e is =
      query_refused (λ t. inserted (may_insert name) P.pool t news) (λ x. (s : List Row) × IsStoredByKeys x.pool x.table.columns x.rows s × PackagePuts P name x s P) e is
  asked_refused (updating sets condition) e is =
      query_refused (λ t. updated (may_update name t.columns sets) P.pool t sets condition) (λ x. (s : List Row) × IsStored x.table.columns x.rows s × PackagePuts P name x s P) e is
  asked_refused (deleting condition) e is =
      query_refused (λ t. deleted (may_insert name) P.pool t condition) (λ x. (s : List Row) × IsStored x.table.columns x.rows s × PackagePuts P name x s P) e is

module _ (P : PackageContent) (name : List ℕ) (none : table_named P.tables name ≡ None) where
  missing : (query : Table → Result (List Row × Pool) Error) (Accepted : Change → Type 0) → EndsRefusedOrBy (change P name query) P P (Err NotFound) Accepted
  missing query Accepted =
      let is : change P name query ≡ Err NotFound = ap (λ o. or_refused o NotFound >>= λ t. changed t (query t)) none in
      subst (λ (r : Result Change Error). EndsRefusedOrBy r P P (Err NotFound) Accepted) (sym is) (refl, refl)

  pub not_found : (q : RowsAsked) → rule_of q name P P (Err NotFound)
  not_found (inserting news) = missing (λ t. inserted (may_insert name) P.pool t news) (λ x. (s : List Row) × IsStoredByKeys x.pool x.table.columns x.rows s × PackagePuts P name x s P)
  not_found (updating sets condition) = missing (λ t. updated (may_update name t.columns sets) P.pool t sets condition) (λ x. (s : List Row) × IsStored x.table.columns x.rows s × PackagePuts P name x s P)
  not_found (deleting condition) = missing (λ t. deleted (may_insert name) P.pool t condition) (λ x. (s : List Row) × IsStored x.table.columns x.rows s × PackagePuts P name x s P)

-- ---- the table is rewritten

module _ (letters : CaseTable) (tree : Tree) (P : PackageContent) (stores : TreeStoresRest letters tree P) (counted : RefcountsAreExact P.pool P.tables) (free : AreFreeEmpty P.pool.places) (k : ℕ) (t : Table) (at : slice_get P.tables k ≡ Some t) where
  pub asked_rewrites : (q : RowsAsked) (after : List Row × Pool) → rows_after q t.name P.pool t ≡ Ok after → (stored : List Row) → IsStoredFor q after.1 t.columns after.0 stored → ReplacesTableRows P k t stored after.1
  asked_rewrites (inserting news) after is stored order =
      insert_rewrites letters tree P stores k t at counted free (was_ordinary (λ may. inserted may P.pool t news) after (never_inserted P.pool t news after) t.name is) (may_insert t.name) news after is stored order
  asked_rewrites (updating sets condition) after is stored order = update_rewrites letters tree P stores k t at counted free sets condition after is stored order
  asked_rewrites (deleting condition) after is stored order =
      delete_rewrites letters tree P stores k t at counted free (was_ordinary (λ may. deleted may P.pool t condition) after (never_deleted P.pool t condition after) t.name is) (may_insert t.name) condition after is stored order

  pub asked_back : (q : RowsAsked) (after : List Row × Pool) → rows_after q t.name P.pool t ≡ Ok after → AreRowsWritable P.pool.long t.columns after.0 → All (λ row. IsTrue (list_all has_place row)) after.0
      → (stored : List Row) → IsStoredFor q after.1 t.columns after.0 stored → RowsRoundTrip P.pool.long t.columns stored
  asked_back (inserting news) after is writable places stored order = inserted_come_back letters tree P stores k t at (may_insert t.name) news after is writable places stored order
  asked_back (updating sets condition) after is writable places stored order =
      updated_come_back letters tree P stores k t at counted (may_update t.name t.columns sets) condition after stored writable places order sets is
  asked_back (deleting condition) after is writable places stored order =
      deleted_come_back letters tree P stores k t at counted (may_insert t.name) condition after stored writable places order is

-- ---- tables in memory

pub headings_stay : (long now : Bool) → now ≡ long → (name : List ℕ) (stored : List Row) (ts : List Table) → map (heading now) (rows_put name stored ts) ≡ map (heading long) ts
headings_stay long now same name stored [] = refl
headings_stay long now same name stored (t ∷ ts) = ap₂ (λ (h : Heading) (hs : List Heading). h ∷ hs) one (headings_stay long now same name stored ts)
  where
    one : heading now (with_rows name stored t) ≡ heading long t
    one = λ i. record { name = name_kept name stored t i; columns = columns_kept name stored t i; long = same i }

module _ {F : Type 0} {g : Ghosts F} (old new : CompoundFile F g) (tree : Tree) (P : PackageContent) (s : StoresSoundPackage (file_case_table old) tree P) (h : Heading) (t : Table) (pool : Pool) (of_it : IsTableOf pool h P t) where
  abbrev letters : CaseTable
  letters = file_case_table old

  -- its place among the tables
  place : (k : ℕ) × (slice_get P.tables k ≡ Some t)
  place =
      let at = found_at P.tables h.name t of_it.named in
      (at.0, slice_get-get_or P.tables at.0 t at.1 ∙ ap (λ (u : Table). Some u) at.2)

  named_so : h.name ≡ t.name
  named_so = ap (λ (x : Heading). x.name) of_it.told

  pub can_put : CanPut letters h.name tree
  can_put =
      let k = place.0 in
      let same = get_or_from_slice_get P.tables k t t place.1 in
      let within = slice_get_within P.tables k t place.1 in
      subst (λ name. CanPut letters name tree) (sym named_so) (record {
        free = subst (λ (u : Table). is_free_table_name u.name ≡ true) same (s.named.table_names k t within);
        no_storage = ap (λ os. at_name letters os (stream_name t.name)) (sym s.stores.storages) ∙ subst (λ (u : Table). at_name letters P.storages (stream_name u.name) ≡ None) same (s.named.no_storage k t within);
      })

  -- its rows stand in the tree
  pub rows_there : rows_in letters tree h ≡ Some t.rows
  rows_there =
      let k = place.0 in
      ap (rows_in letters tree) of_it.told
      ∙ subst (λ (u : Table). rows_of P.pool.long (kinds_of u.columns) (unwrap_or (table_stream letters (objects tree.content) u.name) []) ≡ Some u.rows) (get_or_from_slice_get P.tables k t t place.1) (s.stores.rows k t (slice_get_within P.tables k t place.1))

  pub wide_so : pool.long ≡ h.long
  wide_so = ap (λ (p : Pool). p.long) of_it.pool ∙ sym (ap (λ (x : Heading). x.long) of_it.told)

  -- and are those that were read
  rows_same : (rows : List Row) → rows_in letters tree h ≡ Some rows → rows_given h rows ≡ t
  rows_same rows read =
      let both : Some rows ≡ Some t.rows = sym read ∙ rows_there in
      let same : rows ≡ t.rows = grind (arith, both) in
      ap₂ rows_given of_it.told same

  module _ (q : RowsAsked) where
    pub refused_here : (rows : List Row) (e : Error) → rows_in letters tree h ≡ Some rows → rows_after q h.name pool (rows_given h rows) ≡ Err e → rule_of q h.name P P (Err e)
    refused_here rows e read is =
        asked_refused P t h.name of_it.named q e (ap₂ (λ p u. rows_after q h.name p u) (sym of_it.pool) (sym (rows_same rows read)) ∙ is)

    module _ (rows : List Row) (bytes : List ℕ) (next : Pool) (read : rows_in letters tree h ≡ Some rows) (prepared : IsPrepared q h.name pool (rows_given h rows) bytes next) where
      there : table_named P.tables t.name ≡ Some t
      there = ap (table_named P.tables) (sym named_so) ∙ of_it.named

      -- what is prepared, of the table that is there
      i : IsPrepared q t.name P.pool t bytes next
      i =
          subst (λ name. IsPrepared q name P.pool t bytes next) named_so
          (subst (λ (u : Table). IsPrepared q h.name P.pool u bytes next) (rows_same rows read)
          (subst (λ (p : Pool). IsPrepared q h.name p (rows_given h rows) bytes next) of_it.pool prepared))

      order : IsStoredFor q next t.columns i.rows i.stored
      order = i.order (used_are_counted t.columns (refcounts_of (remove P.tables place.0)) P.pool t.rows (uses_before letters tree P s.stores s.counted place.0 t place.1))

      abbrev after_it : PackageContent
      after_it = rewritten P t.name i.stored next

      answered : rule_of q h.name P after_it (Ok tt)
      answered = subst (λ name. rule_of q name P after_it (Ok tt)) (sym named_so) (asked_done P t t.name there q i.rows i.stored next i.accepted order)

      rewriting : ReplacesTableRows P place.0 t i.stored next
      rewriting = asked_rewrites letters tree P s.stores s.counted s.free place.0 t place.1 q (i.rows, next) i.accepted i.stored order

      -- the file lacks room for these rows
      pub full_here : IsFullForName old (stream_name h.name) (length bytes) → IsFullForRule (rule_of q h.name) old P
      full_here full = record {
        next = after_it;
        answered = answered;
        lacks = inl (record {
          name = t.name;
          table = record t { rows = i.stored };
          there = found_after t.name i.stored t.name P.tables ∙ ap (option_map (with_rows t.name i.stored)) there ∙ ap (λ (u : Table). Some u) (one_changed t.name i.stored t (bytes_same t.name));
          bytes = bytes;
          written = ap (λ long. rows_bytes long (kinds_of t.columns) i.stored) rewriting.long ∙ i.written;
          lacks = subst (λ name. IsFullForName old (stream_name name) (length bytes)) named_so full;
        });
      }

    pub edited_here : (rows : List Row) (bytes : List ℕ) (after : PoolState) → rows_in letters tree h ≡ Some rows
        → IsPrepared q h.name pool (rows_given h rows) bytes after.pool → (next : Tree) → FileMeansTree new next → HasPut letters h.name bytes tree next
        → IsEdited (rule_of q h.name) tree P old new after
    edited_here rows bytes after read prepared next means put =
        let k = place.0 in
        let at : slice_get P.tables k ≡ Some t = place.1 in
        let own = i rows bytes after.pool read prepared in
        let ordered = order rows bytes after.pool read prepared in
        let changing : ReplacesTableRows P k t own.stored after.pool = rewriting rows bytes after.pool read prepared in
        let back : RowsRoundTrip P.pool.long t.columns own.stored = asked_back letters tree P s.stores s.counted s.free k t at q (own.rows, after.pool) own.accepted own.writable own.places own.stored ordered in
        let one : Some back.bytes ≡ Some bytes = sym back.written ∙ own.written in
        let same : back.bytes ≡ bytes = grind (arith, one) in
        let read_back : rows_of P.pool.long (kinds_of t.columns) bytes ≡ Some own.stored = subst (λ (b : List ℕ). rows_of P.pool.long (kinds_of t.columns) b ≡ Some own.stored) same back.read in
        let put_there : HasPut letters t.name bytes tree next = subst (λ name. HasPut letters name bytes tree next) named_so put in
        record {
          changed = record {
            next = rewritten P t.name own.stored after.pool;
            after = next;
            answered = answered rows bytes after.pool read prepared;
            means = means;
            stores = record {
              usable = s.usable;
              stores = stores_after letters tree next P s.usable s.named s.stores k t own.stored after.pool changing bytes put_there read_back;
              counted = counted_after letters tree P s.stores k t own.stored after.pool changing;
              free = changing.empty;
              named = named_after letters tree next P s.usable s.named s.stores k t own.stored after.pool changing;
            };
            keeps = record {
              pool = pool_beside letters P s.usable s.named k t at tree next bytes put_there;
              pool_data = data_beside letters P s.usable s.named k t at tree next bytes put_there;
              summary = summary_beside letters P s.usable s.named k t at tree next bytes put_there;
            };
          };
          pool = refl;
          tables = headings_stay P.pool.long after.pool.long changing.long t.name own.stored P.tables;
        }
