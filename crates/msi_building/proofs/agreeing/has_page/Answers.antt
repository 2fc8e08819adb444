use Rattle.std.proofs.Common.{◌≡◌, ◌∙◌, ap, rules, sym}
use Rattle.msi_pool.specs.Pool.{Pool}
use Rattle.msi_building.proofs.agreeing.has_page.Goals as goal

pub returns : goal.returns
returns c P h same =
    let page : c.database_codepage.result ≡ c.args.page = search (rules, same, c.eq.ensures) in
    ap (λ (p : Pool). p.page) (sym h.memory.pool) ∙ sym c.database_codepage.ensures ∙ page
