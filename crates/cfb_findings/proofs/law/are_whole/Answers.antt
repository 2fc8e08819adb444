use Rattle.std.proofs.Common.{◌∙◌, sym}
use Rattle.cfb_findings.proofs.law.are_whole.Goals as goal

pub returns-clause-whole : goal.returns-clause-whole
returns-clause-whole g c = λ ids tree. record {
  found = c.in_ok-found.found.items;
  is = c.in_ok-found.ensures.found ids tree;
  empty = λ test. sym c.deref.ensures.value ∙ c.is_none.ensures.0 test;
  tells = λ none. c.is_none.ensures.1 (c.deref.ensures.value ∙ none);
}
