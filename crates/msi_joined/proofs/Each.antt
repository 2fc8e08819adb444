-- Inserts of a package that are done as one, and one by one.
use Rattle.std.proofs.Common.{◌≡◌, ◌∙◌, ℕ, ◌<◌, Bool, true, false, not, cond, List, [], ◌∷◌, ◌++◌, append-nil, refl, sym, ap, subst, arith, Option, Some, None, Result, Ok, Err}
use Rattle.std.specs.Prelude.{◌==◌, bytes_eq, if◌then◌else◌, option_map, unwrap_or}
use Rattle.std.specs.List.{All, list_all}
use Rattle.std.proofs.lemmas.Bool.Decides.{nat_tests}
use Rattle.std.proofs.lemmas.List.Elements.{All-tail}
use Rattle.cfb_medium.specs.declared.error.Error.{Error}
use Rattle.msi_changes.specs.Changes.{inserted}
use Rattle.msi_changes.specs.Laws.{RowsAreCounted}
use Rattle.msi_pool.specs.Pool.{Pool, pool_entry_at}
use Rattle.msi_pool.specs.Refs.{is_counted}
use Rattle.msi_pool.specs.declared.stringref.ValueRef.{ValueRef}
use Rattle.msi_pool.specs.declared.stringref.ValueRef.TheVariants as cell
use Rattle.msi_tables.specs.Rows.{Row}
use Rattle.msi_tables.specs.Table.{table_named, IsStoredByKeys, Table}
use Rattle.msi_values.specs.Datum.{Datum}
use Rattle.msi_spec.specs.Calls.{changed, may_insert, rows_put, stored_rows, with_rows, Change, Inserts, PackagePuts, EndsRefusedOrBy}
use Rattle.msi_spec.specs.Package.{PackageContent}
use Rattle.msi_spec.specs.Sound.{IsPlaceUsed}
use Rattle.msi_spec.specs.Uses.{RefcountsAreExact}
use Rattle.msi_joined.proofs.Splitting.{split}
use Rattle.msi_joined.specs.Joined.{joined_rows, InsertsEach}

-- ---- an insert that is done, taken apart

record Done (P : PackageContent) (name : List ℕ) (new_rows : List (List Datum)) (Q : PackageContent) : Type 0 where
  pub table : Table
  pub found : table_named P.tables name ≡ Some table
  pub after : List Row × Pool
  pub is : inserted (may_insert name) P.pool table new_rows ≡ Ok after
  pub stored : List Row
  pub by_keys : IsStoredByKeys after.1 table.columns after.0 stored
  pub puts : Q ≡ record P { pool = after.1; tables = rows_put name stored P.tables }

module _ (P : PackageContent) (name : List ℕ) (new_rows : List (List Datum)) (Q : PackageContent) where
  abbrev asked : Table → Result (List Row × Pool) Error
  asked t = inserted (may_insert name) P.pool t new_rows

  abbrev Accepted : Change → Type 0
  Accepted x = (stored : List Row) × IsStoredByKeys x.pool x.table.columns x.rows stored × PackagePuts P name x stored Q

  of_rows : (t : Table) → table_named P.tables name ≡ Some t → (r : Result (List Row × Pool) Error) → asked t ≡ r → EndsRefusedOrBy (changed t r) P Q (Ok tt) Accepted → Done P name new_rows Q
  of_rows t found (Ok x) is ends = record { table = t; found = found; after = x; is = is; stored = ends.1.0; by_keys = ends.1.1; puts = ends.1.2 }
  of_rows t found (Err e) is ends = absurd (let never = ends.1 in cc never)

  taken : Inserts P name new_rows Q (Ok tt) → Done P name new_rows Q
  taken ends = on (table_named P.tables name) refl ends
    where
      on : (o : Option Table) → table_named P.tables name ≡ o → Inserts P name new_rows Q (Ok tt) → Done P name new_rows Q
      on None found ends = absurd (let e = (rw found at ends) in let never = e.1 in cc never)
      on (Some t) found ends = (let e = (rw found at ends) in of_rows t found (asked t) refl e)

  made : Done P name new_rows Q → Inserts P name new_rows Q (Ok tt)
  made d = rw (d.found, d.is) (refl, (d.stored, d.by_keys, d.puts))

-- ---- the table with other rows

module _ (name : List ℕ) (rows : List Row) where
  put_found : (ts : List Table) (t : Table) → table_named ts name ≡ Some t → table_named (rows_put name rows ts) name ≡ Some (record t { rows = rows })
  put_found [] t is = absurd (cc is)
  put_found (u ∷ us) t is = on (bytes_eq u.name name) refl is (put_found us t)
    where
      on : (b : Bool) → bytes_eq u.name name ≡ b → cond b (Some u) (table_named us name) ≡ Some t → (table_named us name ≡ Some t → table_named (rows_put name rows us) name ≡ Some (record t { rows = rows }))
          → table_named ((if b then record u { rows = rows } else u) ∷ rows_put name rows us) name ≡ Some (record t { rows = rows })
      on true is_named is deeper = (let same : u ≡ t = cc is in rw is_named (ap (λ (v : Table). Some (record v { rows = rows })) same))
      on false is_named is deeper = rw is_named (deeper is)

  put_again : (again : List Row) (ts : List Table) → rows_put name again (rows_put name rows ts) ≡ rows_put name again ts
  put_again again [] = refl
  put_again again (u ∷ us) = on (bytes_eq u.name name) refl (put_again again us)
    where
      on : (b : Bool) → bytes_eq u.name name ≡ b → rows_put name again (rows_put name rows us) ≡ rows_put name again us
          → with_rows name again (if b then record u { rows = rows } else u) ∷ rows_put name again (rows_put name rows us) ≡ (if b then record u { rows = again } else u) ∷ rows_put name again us
      on true is deeper = rw (is, deeper) refl
      on false is deeper = rw (is, deeper) refl

-- ---- two inserts

record Two (P : PackageContent) (name : List ℕ) (front back : List (List Datum)) (Q : PackageContent) : Type 0 where
  pub mid : PackageContent
  pub first : Inserts P name front mid (Ok tt)
  pub second : Inserts mid name back Q (Ok tt)
  pub counted : RowsAreCounted mid.pool (stored_rows mid name)

two : (P : PackageContent) (name : List ℕ) (front back : List (List Datum)) (Q : PackageContent) → RowsAreCounted P.pool (stored_rows P name) → Done P name (front ++ back) Q → Two P name front back Q
two P name front back Q counted d =
    let own : RowsAreCounted P.pool d.table.rows = subst (λ o. RowsAreCounted P.pool (unwrap_or (option_map (λ (t : Table). t.rows) o) [])) d.found counted in
    let s = split (may_insert name) P.pool d.table front back own d.after d.is d.stored d.by_keys in
    let mid : PackageContent = record P { pool = s.mid; tables = rows_put name s.between P.tables } in
    let found : table_named mid.tables name ≡ Some (record d.table { rows = s.between }) = put_found name s.between P.tables d.table d.found in
    record {
      mid = mid;
      first = made P name front mid (record { table = d.table; found = d.found; after = (d.table.rows ++ s.first, s.mid); is = s.in_first; stored = s.between; by_keys = s.is_between; puts = refl });
      second = made mid name back Q (record {
        table = record d.table { rows = s.between };
        found = found;
        after = (s.between ++ s.second, d.after.1);
        is = s.in_second;
        stored = d.stored;
        by_keys = s.at_last;
        puts = d.puts ∙ ap (λ ts. record P { pool = d.after.1; tables = ts }) (sym (put_again name s.between d.stored P.tables));
      });
      counted = subst (λ o. RowsAreCounted s.mid (unwrap_or (option_map (λ (t : Table). t.rows) o) [])) (sym found) s.counted;
    }

-- ---- any number

each_of : (P : PackageContent) (name : List ℕ) (first : List (List Datum)) (more : List (List (List Datum))) (Q : PackageContent) → RowsAreCounted P.pool (stored_rows P name) → Inserts P name (first ++ joined_rows more) Q (Ok tt) → InsertsEach P name (first ∷ more) Q
each_of P name first [] Q counted done = (Q, subst (λ rows. Inserts P name rows Q (Ok tt)) (append-nil first) done, refl)
each_of P name first (next ∷ more) Q counted done =
    let it = two P name first (joined_rows (next ∷ more)) Q counted (taken P name (first ++ joined_rows (next ∷ more)) Q done) in
    (it.mid, it.first, each_of it.mid name next more Q it.counted it.second)

-- ---- of a package whose texts are counted

all_pass : {X : Type 0} (Has : X → Type 0) (p : X → Bool) → ((x : X) → Has x → p x ≡ true) → (xs : List X) → All Has xs → list_all p xs ≡ true
all_pass Has p each [] all = refl
all_pass Has p each (x ∷ xs) all = rw (each x (all 0 x (omega arith))) (all_pass Has p each xs (All-tail Has x xs all))

used_counted : (pool : Pool) (v : ValueRef) → IsPlaceUsed pool v → is_counted pool v ≡ true
used_counted pool cell.Null used = refl
used_counted pool (cell.Int z) used = refl
used_counted pool (cell.Str n) used = some (pool_entry_at pool.places n).count used
  where
    some : (k : ℕ) → 0 < k → not (k == 0) ≡ true
    some k h = grind (arith, nat_tests, h)
used_counted pool cell.Binary used = refl

table_counted : (pool : Pool) (name : List ℕ) (ts : List Table) → All (λ t. All (All (IsPlaceUsed pool)) t.rows) ts → RowsAreCounted pool (unwrap_or (option_map (λ (t : Table). t.rows) (table_named ts name)) [])
table_counted pool name [] all = refl
table_counted pool name (u ∷ us) all = on (bytes_eq u.name name) (table_counted pool name us (All-tail (λ t. All (All (IsPlaceUsed pool)) t.rows) u us all))
  where
    on : (b : Bool) → RowsAreCounted pool (unwrap_or (option_map (λ (t : Table). t.rows) (table_named us name)) []) → RowsAreCounted pool (unwrap_or (option_map (λ (t : Table). t.rows) (cond b (Some u) (table_named us name))) [])
    on true deeper = all_pass (All (IsPlaceUsed pool)) (λ row. list_all (is_counted pool) row) (λ row. all_pass (IsPlaceUsed pool) (is_counted pool) (used_counted pool) row) u.rows (all 0 u (omega arith))
    on false deeper = deeper

pub each : (P : PackageContent) → RefcountsAreExact P.pool P.tables → (name : List ℕ) (first : List (List Datum)) (more : List (List (List Datum))) (Q : PackageContent) → Inserts P name (joined_rows (first ∷ more)) Q (Ok tt) → InsertsEach P name (first ∷ more) Q
each P counted name first more Q done = each_of P name first more Q (table_counted P.pool name P.tables counted.references) done
