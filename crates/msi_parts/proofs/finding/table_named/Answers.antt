use Rattle.std.proofs.Common.{◌∙◌, ap, Some}
use Rattle.std.specs.Prelude.{option_map}
use Rattle.std.specs.Rc.{rc_value}
use Rattle.msi_parts.proofs.Listed.{found_where}
use Rattle.msi_tables.specs.Held.{heading_of}
use Rattle.msi_parts.proofs.finding.table_named.Goals as goal

pub returns-in-Some : goal.returns-in-Some
returns-in-Some c =
    ap (λ t. Some (heading_of t)) c.deref.ensures ∙ ap (option_map (λ t. heading_of (rc_value t))) c.in-Some.ensures ∙ found_where c.args.tables.now c.args.name.now

pub returns-in-None : goal.returns-in-None
returns-in-None c = ap (option_map (λ t. heading_of (rc_value t))) c.in-None.ensures ∙ found_where c.args.tables.now c.args.name.now
