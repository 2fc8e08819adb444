use Rattle.std.proofs.Common.{◌∙◌, sym}
use Rattle.cfb_findings.proofs.law.are_marked.Goals as goal

pub returns-clause-marked : goal.returns-clause-marked
returns-clause-marked g c = (
  (λ test. sym c.in_ok-found.ensures.found ∙ sym c.deref.ensures.value ∙ c.is_none.ensures.0 test),
  (λ none. c.is_none.ensures.1 (c.deref.ensures.value ∙ c.in_ok-found.ensures.found ∙ none)),
)
