use Rattle.std.proofs.Common.{◌≡◌, ◌∙◌, ap, map}
use Rattle.std.specs.Prelude.{string_bytes}
use Rattle.std.specs.Rc.{rc_value}
use Rattle.msi_spec.specs.Calls.{table_names}
use Rattle.msi_parts.proofs.Judging.{bare_names}
use Rattle.msi_tables.specs.Held.{heading_of}
use Rattle.msi.specs.Lists.{tables_left}
use Rattle.msi.specs.Opened.{pool_in}
use Rattle.msi.proofs.OpenedPackages.{if_ok_then}
use Rattle.msi.proofs.package.Package.tables.Goals as goal

pub returns-clause-held : goal.returns-clause-held
returns-clause-held g c P h =
    if_ok_then (λ it. map string_bytes (tables_left it) ≡ map (λ h. h.name) (map (λ t. heading_of (rc_value t)) c.deref.result.now)) (λ it. map string_bytes (tables_left it) ≡ table_names P)
    c.new.result c.new.ensures.names
    (λ it is. is ∙ ap (λ ts. map (λ h. h.name) (map (λ t. heading_of (rc_value t)) ts)) c.deref.ensures.value ∙ ap (map (λ h. h.name)) h.memory.tables ∙ bare_names (pool_in c.args.self.now).pool.long P.tables)
