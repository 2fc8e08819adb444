use Rattle.std.proofs.Common.{◌≡◌, ◌∙◌, false, refl, sym, true}
use Rattle.msi.specs.Changing.{failed_in, setting_page, with_page}
use Rattle.msi.specs.Opened.{sound_in}
use Rattle.msi.proofs.Paged.{holds_paged}
use Rattle.msi.proofs.Permitted.{not_permitted, permitted}
use Rattle.msi.proofs.package.Package.set_database_codepage.Goals as goal

pub returns-in-Err-clause-changes : goal.returns-in-Err-clause-changes
returns-in-Err-clause-changes g c = not_permitted (setting_page c.args.codepage) c.args.self.now c.in-Err.error (sym c.may_change.ensures ∙ c.in-Err.is)

pub returns-clause-changes : goal.returns-clause-changes
returns-clause-changes g c =
    let it = c.args.self.now in
    let may = permitted (failed_in it) (sound_in it) (sym c.may_change.ensures ∙ c.in_default.is) in
    record {
      failed = λ yes. let never : true ≡ false = sym yes ∙ may.0 in absurd (cc);
      unsound = λ no wrong. let never : true ≡ false = sym may.1 ∙ wrong in absurd (cc);
      done = λ P h. (with_page c.args.codepage P, (refl, refl), holds_paged it _ c.args.codepage P refl refl refl refl refl refl c.set_codepage.ensures h);
      refused = tt;
      rests = tt;
      seen = (refl, refl);
    }
