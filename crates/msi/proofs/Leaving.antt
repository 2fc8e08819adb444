-- What changes of streams and of rows leave of a package.
use Rattle.std.proofs.Common.{◌≡◌, List, ap, length, refl, subst, sym, ℕ}
use Rattle.std.specs.Prelude.{Err, Ok, Option, Result, is_none, nat_le}
use Rattle.cfb_medium.specs.declared.error.Error.{Error}
use Rattle.cfb_medium.specs.declared.error.Error.TheVariants.{AlreadyExists, InvalidInput}
use Rattle.cfb_tree.specs.Names.{CaseTable}
use Rattle.msi_spec.specs.Calls.{Change, Deletes, EndsRefusedOrBy, Inserts, PackagePuts, Updates, change, may_insert, may_update}
use Rattle.msi_changes.specs.Changes.{deleted, inserted, updated}
use Rattle.msi_expr.specs.Formula.{Formula}
use Rattle.msi_spec.specs.Package.{PackageContent, at_name}
use Rattle.msi_spec.specs.Streams.{may_name, plain_stream_name, stream_put, stream_read, stream_removed, stream_written, unsigned, without_stream}
use Rattle.msi_streams.specs.Writing.{AppliesPackageRule, written_within}
use Rattle.msi_tables.specs.Rows.{IsStored, Row}
use Rattle.msi_tables.specs.Table.{IsStoredByKeys}
use Rattle.msi_texts.specs.Results.{◌>>=◌, unless_not}
use Rattle.msi_values.specs.Datum.{Datum}
use Rattle.msi.proofs.Changed.{LeavesTables}

-- all but the streams is as it was
record KeepsButStreams (P Q : PackageContent) : Type 0 where
  kind : Q.kind ≡ P.kind
  summary : Q.summary ≡ P.summary
  pool : Q.pool ≡ P.pool
  tables : Q.tables ≡ P.tables

abbrev Stays : PackageContent → Result PackageContent Error → Type 0
Stays P (Ok Q) = KeepsButStreams P Q
Stays P (Err e) = Unit {0}

stays_then : {A : Type 0} (P : PackageContent) (m : Result A Error) (k : A → Result PackageContent Error) → ((a : A) → Stays P (k a)) → Stays P (m >>= k)
stays_then P (Ok a) k each = each a
stays_then P (Err e) k each = tt

stays_through : (P : PackageContent) (m : Result PackageContent Error) (k : PackageContent → Result PackageContent Error) → Stays P m → ((Q : PackageContent) → KeepsButStreams P Q → Stays P (k Q)) → Stays P (m >>= k)
stays_through P (Ok Q) k stays each = each Q stays
stays_through P (Err e) k stays each = tt

written_stays : (letters : CaseTable) (name content : List ℕ) (P : PackageContent) → Stays P (stream_written letters P name content)
written_stays letters name content P =
    let free : Result (Unit {0}) Error = unless_not (is_none (at_name letters P.storages (plain_stream_name name))) AlreadyExists in
    let last : Unit {0} → Result PackageContent Error = λ _. Ok (record P { streams = stream_put letters (plain_stream_name name) content P.streams }) in
    stays_then P (may_name letters name) (λ _. free >>= last) (λ u. stays_then P free last (λ v. record { kind = refl; summary = refl; pool = refl; tables = refl }))

within_stays : (letters : CaseTable) (most : ℕ) (name content : List ℕ) (P : PackageContent) → Stays P (written_within letters most name content P)
within_stays letters most name content P =
    let short : Result (Unit {0}) Error = unless_not (nat_le (length content) most) InvalidInput in
    stays_through P (stream_written letters P name content) (λ Q. short >>= λ _. Ok Q) (written_stays letters name content P) (λ Q keeps. stays_then P short (λ _. Ok Q) (λ u. keeps))

removed_stays : (letters : CaseTable) (name : List ℕ) (P : PackageContent) → Stays P (stream_removed letters P name)
removed_stays letters name P =
    let last : List ℕ → Result PackageContent Error = λ _. Ok (record P { streams = without_stream letters (plain_stream_name name) P.streams }) in
    stays_then P (stream_read letters P name) last (λ u. record { kind = refl; summary = refl; pool = refl; tables = refl })

made_keeps : (made : PackageContent → Result PackageContent Error) → ((P : PackageContent) → Stays P (made P)) → (P Q : PackageContent) → AppliesPackageRule made P Q (Ok tt) → KeepsButStreams P Q
made_keeps made stays P Q told = by (made P) (stays P) told
  where
    by : (r : Result PackageContent Error) → Stays P r → EndsRefusedOrBy r P Q (Ok tt) (λ R. Q ≡ R) → KeepsButStreams P Q
    by (Err e) s told = let never : Ok tt ≡ Err e = told.1 in absurd (cc)
    by (Ok R) s told = subst (λ (X : PackageContent). KeepsButStreams P X) (sym told.1) s

leaves_made : (made : PackageContent → Result PackageContent Error) → ((P : PackageContent) → Stays P (made P)) → LeavesTables (AppliesPackageRule made)
leaves_made made stays = record {
  kind = λ P Q told. (made_keeps made stays P Q told).kind;
  summary = λ P Q told. (made_keeps made stays P Q told).summary;
  pool = λ P Q told. (made_keeps made stays P Q told).pool;
  tables = λ P Q told. (made_keeps made stays P Q told).tables;
}

pub writing_leaves : (letters : CaseTable) (most : ℕ) (name content : List ℕ) → LeavesTables (AppliesPackageRule (written_within letters most name content))
writing_leaves letters most name content = leaves_made (written_within letters most name content) (within_stays letters most name content)

pub removing_leaves : (letters : CaseTable) (name : List ℕ) → LeavesTables (AppliesPackageRule (λ P. stream_removed letters P name))
removing_leaves letters name = leaves_made (λ P. stream_removed letters P name) (removed_stays letters name)

pub unsigning_leaves : (letters : CaseTable) → LeavesTables (AppliesPackageRule (λ P. Ok (unsigned letters P)))
unsigning_leaves letters = leaves_made (λ P. Ok (unsigned letters P)) (λ P. record { kind = refl; summary = refl; pool = refl; tables = refl })

-- an insert keeps kind and summary
pub insert_keeps : (name : List ℕ) (rows : List (List Datum)) (P Q : PackageContent) → Inserts P name rows Q (Ok tt) → (Q.kind ≡ P.kind) × (Q.summary ≡ P.summary)
insert_keeps name rows P Q told = by (change P name (λ t. inserted (may_insert name) P.pool t rows)) told
  where
    by : (r : Result Change Error)
        → EndsRefusedOrBy r P Q (Ok tt) (λ x. (stored : List Row) × IsStoredByKeys x.pool x.table.columns x.rows stored × PackagePuts P name x stored Q) → (Q.kind ≡ P.kind) × (Q.summary ≡ P.summary)
    by (Err e) told = let never : Ok tt ≡ Err e = told.1 in absurd (cc)
    by (Ok x) told = let puts = told.1.2 in (ap (λ (X : PackageContent). X.kind) puts, ap (λ (X : PackageContent). X.summary) puts)

-- so do an update and a delete
module _ (name : List ℕ) (condition : Option Formula) (P Q : PackageContent) where
  puts_keep : (Stored : Change → List Row → Type 0) (r : Result Change Error) → EndsRefusedOrBy r P Q (Ok tt) (λ x. (stored : List Row) × Stored x stored × PackagePuts P name x stored Q) → (Q.kind ≡ P.kind) × (Q.summary ≡ P.summary)
  puts_keep Stored (Err e) told = let never : Ok tt ≡ Err e = told.1 in absurd (cc)
  puts_keep Stored (Ok x) told = let puts = told.1.2 in (ap (λ (X : PackageContent). X.kind) puts, ap (λ (X : PackageContent). X.summary) puts)

  pub update_keeps : (sets : List (List ℕ × Datum)) → Updates P name sets condition Q (Ok tt) → (Q.kind ≡ P.kind) × (Q.summary ≡ P.summary)
  update_keeps sets told = puts_keep (λ x s. IsStored x.table.columns x.rows s) (change P name (λ t. updated (may_update name t.columns sets) P.pool t sets condition)) told

  pub delete_keeps : Deletes P name condition Q (Ok tt) → (Q.kind ≡ P.kind) × (Q.summary ≡ P.summary)
  delete_keeps told = puts_keep (λ x s. IsStored x.table.columns x.rows s) (change P name (λ t. deleted (may_insert name) P.pool t condition)) told
