use Rattle.std.proofs.Common.{◌∙◌, sym}
use Rattle.cfb_findings.proofs.law.are_minis_apart.Goals as goal

pub returns-clause-apart : goal.returns-clause-apart
returns-clause-apart g c = λ ids tree.
    let (streams, chains, is) = c.in_ok-found.ensures.found ids tree in record {
      streams = streams;
      chains = chains;
      empty = λ test. sym is ∙ sym c.deref.ensures.value ∙ c.is_none.ensures.0 test;
      tells = λ none. c.is_none.ensures.1 (c.deref.ensures.value ∙ is ∙ none);
    }
