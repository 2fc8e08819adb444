use Rattle.std.proofs.Common.{◌≡◌, ◌∙◌, ap, subst, sym}
use Rattle.msi_pool.specs.PoolState.{PoolState}
use Rattle.msi_schema.specs.Headings.{headings_in}
use Rattle.msi_new_package.specs.New.{AreNewBytes}
use Rattle.msi_new_package.proofs.Created.{new_made}
use Rattle.msi_new_package.proofs.creating.create_package.Goals as goal

pub returns-in-Ok-lay_down-clause-made : goal.returns-in-Ok-lay_down-clause-made
returns-in-Ok-lay_down-clause-made g c = λ tree means none usable.
    new_made c.args.kind c.args.file c.lay_down.new.file c.from_parts.result.store c.from_parts.result.pool c.from_parts.result.summary.props
    c.from_parts.ensures.file c.in-Ok-lay_down.ensures.seen.0 usable (ap (λ tables. headings_in tables.items) c.from_parts.ensures.tables ∙ c.in-Ok.ensures.tables)
    (ap (λ s. s.props) c.from_parts.ensures.summary ∙ c.in-Ok.ensures.summary) (ap (λ p. p.modified) c.from_parts.ensures.pool ∙ c.in-Ok.ensures.modified)
    (subst (λ (p : PoolState). AreNewBytes p.pool c.in-Ok.parts.columns_bytes.items c.in-Ok.parts.tables_bytes.items c.in-Ok.parts.validation_bytes.items) (sym c.from_parts.ensures.pool) c.in-Ok.ensures.bytes) (c.in-Ok-lay_down.ensures.laid tree means none)
