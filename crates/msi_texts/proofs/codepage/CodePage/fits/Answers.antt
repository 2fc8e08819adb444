use Rattle.std.proofs.Common.{sym, refl, ◌∙◌}
use Rattle.msi_texts.proofs.PageRoundTrip.{fitting_text_comes_back}
use Rattle.msi_texts.proofs.codepage.CodePage.fits.Goals as goal

pub returns-then-is_utf8-clause-comes_back : goal.returns-then-is_utf8-clause-comes_back
returns-then-is_utf8-clause-comes_back c = λ h. fitting_text_comes_back c.args.self c.args.text.now c.utf8.text (rw (← c.is_utf8.ensures, c.if-is_utf8.true) refl)

pub returns-else-is_utf8-clause-comes_back : goal.returns-else-is_utf8-clause-comes_back
returns-else-is_utf8-clause-comes_back c = λ h. fitting_text_comes_back c.args.self c.args.text.now c.utf8.text (rw (← c.is_utf8.ensures, c.if-is_utf8.false) (sym c.has_all.ensures ∙ h))
