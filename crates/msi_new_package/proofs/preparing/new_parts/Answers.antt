use Rattle.std.proofs.Common.{◌≡◌, ◌∙◌, ap, subst, sym}
use Rattle.msi_tables.specs.Held.{heading_of}
use Rattle.msi_tables.specs.Schema.{columns_columns, tables_columns}
use Rattle.msi_tables.specs.Table.{Heading}
use Rattle.msi_pool.specs.PoolState.{PoolState}
use Rattle.msi_new_package.specs.New.{AreNewBytes}
use Rattle.msi_new_package.proofs.Prepared.{columns_writable, new_bytes, tables_writable, validation_writable}
use Rattle.msi_new_package.proofs.preparing.new_parts.Goals as goal

pub bytes_by_keys-requires : goal.bytes_by_keys-requires
bytes_by_keys-requires c =
    columns_writable _ _ _ _ c.in_ok-pool.ensures.counted (heading_of c.deref-2.result.now).long (heading_of c.deref-2.result.now).columns
    (ap (λ (h : Heading). h.long) (ap heading_of c.deref-2.ensures ∙ c.in_ok-columns.ensures.ok))
    (ap (λ (h : Heading). h.columns) (ap heading_of c.deref-2.ensures ∙ c.in_ok-columns.ensures.ok) ∙ c.in_ok-columns_columns.ensures.ok)

pub bytes_by_keys-requires-2 : goal.bytes_by_keys-requires-2
bytes_by_keys-requires-2 c =
    tables_writable _ _ _ _ c.in_ok-pool.ensures.counted (heading_of c.deref-3.result.now).long (heading_of c.deref-3.result.now).columns
    (ap (λ (h : Heading). h.long) (ap heading_of c.deref-3.ensures ∙ c.in_ok-tables.ensures.ok))
    (ap (λ (h : Heading). h.columns) (ap heading_of c.deref-3.ensures ∙ c.in_ok-tables.ensures.ok) ∙ c.in_ok-tables_columns.ensures.ok)

pub bytes_by_keys-requires-3 : goal.bytes_by_keys-requires-3
bytes_by_keys-requires-3 c =
    validation_writable _ _ _ _ c.in_ok-pool.ensures.counted (heading_of c.deref-4.result.now).long (heading_of c.deref-4.result.now).columns
    (ap (λ (h : Heading). h.long) (ap heading_of c.deref-4.ensures ∙ c.in_ok-validation-2.ensures.ok))
    (ap (λ (h : Heading). h.columns) (ap heading_of c.deref-4.ensures ∙ c.in_ok-validation-2.ensures.ok) ∙ c.in_ok-validation.ensures.ok)

pub returns-clause-bytes : goal.returns-clause-bytes
returns-clause-bytes c =
    subst (λ (p : PoolState). AreNewBytes p.pool c.in_ok-columns_bytes.columns_bytes.items c.in_ok-tables_bytes.tables_bytes.items c.in_ok-validation_bytes.validation_bytes.items) (sym c.pool.view_is)
    (new_bytes _ _ _ _ c.in_ok-pool.ensures.counted (heading_of c.deref-2.result.now).long (heading_of c.deref-3.result.now).long (heading_of c.deref-4.result.now).long
    (heading_of c.deref-2.result.now).columns (heading_of c.deref-3.result.now).columns (heading_of c.deref-4.result.now).columns
    c.in_ok-columns_bytes.columns_bytes.items c.in_ok-tables_bytes.tables_bytes.items c.in_ok-validation_bytes.validation_bytes.items
    (ap (λ (h : Heading). h.long) (ap heading_of c.deref-2.ensures ∙ c.in_ok-columns.ensures.ok))
    (ap (λ (h : Heading). h.long) (ap heading_of c.deref-3.ensures ∙ c.in_ok-tables.ensures.ok))
    (ap (λ (h : Heading). h.long) (ap heading_of c.deref-4.ensures ∙ c.in_ok-validation-2.ensures.ok))
    (ap (λ (h : Heading). h.columns) (ap heading_of c.deref-2.ensures ∙ c.in_ok-columns.ensures.ok) ∙ c.in_ok-columns_columns.ensures.ok)
    (ap (λ (h : Heading). h.columns) (ap heading_of c.deref-3.ensures ∙ c.in_ok-tables.ensures.ok) ∙ c.in_ok-tables_columns.ensures.ok)
    (ap (λ (h : Heading). h.columns) (ap heading_of c.deref-4.ensures ∙ c.in_ok-validation-2.ensures.ok) ∙ c.in_ok-validation.ensures.ok)
    c.in_ok-columns_bytes.ensures.ok c.in_ok-tables_bytes.ensures.ok c.in_ok-validation_bytes.ensures.ok)
