use Rattle.std.proofs.Common.{◌≡◌, ◌∙◌, ap, map, rules, sym}
use Rattle.msi_pool.specs.Pool.{Pool}
use Rattle.msi_props.specs.Held.{pair_in}
use Rattle.msi_building.proofs.comparing.has_facts.Goals as goal

pub returns-then-eq : goal.returns-then-eq
returns-then-eq g c P h same =
    let page : c.database_codepage.result ≡ c.args.said.now.codepage = search (rules, c.if-eq.true, c.eq.ensures) in
    (ap (λ (p : Pool). p.page) (sym h.memory.pool) ∙ sym c.database_codepage.ensures ∙ page, c.has_properties.ensures P h same ∙ ap (map pair_in) c.deref.ensures.value)
