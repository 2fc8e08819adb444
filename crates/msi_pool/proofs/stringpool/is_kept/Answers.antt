use Rattle.std.proofs.Common.{◌≡◌, ◌<◌, ◌^◌, ◌∙◌, IsTrue, List, [], length, sym, arith, refl}
use Rattle.std.proofs.lemmas.Bool.Decides.{nat_tests}
use Rattle.std.proofs.lemmas.Str.{is_utf8-from_IsUtf8}
use Rattle.msi_pool.proofs.PoolFits.{empty_told, empty_tells}
use Rattle.msi_pool.proofs.stringpool.is_kept.Goals as goal

pub returns-then-count-ne0 : goal.returns-then-count-ne0
returns-then-count-ne0 c = (
  λ yes. record {
    utf8 = is_utf8-from_IsUtf8 c.args.text.now c.utf8.text;
    fit = sym c.fits.ensures.exact ∙ c.if-not-fits.false;
    count = omega arith;
    size = omega arith;
    free = λ z. absurd (omega (arith, z));
  },
  λ kept. grind (arith, nat_tests),
)

pub returns-else-count-ne0 : goal.returns-else-count-ne0
returns-else-count-ne0 c = (
  λ yes. record {
    utf8 = is_utf8-from_IsUtf8 c.args.text.now c.utf8.text;
    fit = sym c.fits.ensures.exact ∙ c.if-not-fits.false;
    count = omega arith;
    size = omega arith;
    free = λ z. empty_told c.args.text.now (sym c.is_empty.ensures ∙ yes);
  },
  λ kept. c.is_empty.ensures ∙ empty_tells c.args.text.now (kept.free c.if-count-ne0.false),
)
