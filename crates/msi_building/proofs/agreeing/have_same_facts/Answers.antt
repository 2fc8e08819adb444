use Rattle.std.proofs.Common.{◌≡◌, ◌∙◌, ap, sym}
use Rattle.msi_pool.specs.Pool.{Pool}
use Rattle.msi_building.proofs.agreeing.have_same_facts.Goals as goal

pub returns-then-has_page : goal.returns-then-has_page
returns-then-has_page c P Q h k same =
    (c.has_page.ensures Q k c.if-has_page.true ∙ c.database_codepage.ensures ∙ ap (λ (p : Pool). p.page) h.memory.pool, c.have_same_properties.ensures P Q h k same)
