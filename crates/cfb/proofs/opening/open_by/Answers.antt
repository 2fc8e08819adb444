use Rattle.std.proofs.Common.{◌≡◌, ◌∙◌, IsTrue, sym, subst, ⊎_elim}
use Rattle.cfb_medium.specs.declared.error.Error.TheVariants.{Failed, InvalidData, Memory}
use Rattle.cfb_opening.specs.Opened.{IsOpened}
use Rattle.cfb_opening.specs.Tables.{OnlyReadsMedium}
use Rattle.cfb.specs.Readers.{letters_by, validation_by}
use Rattle.cfb.proofs.OpenedFiles.{holds_so, judged_so, opens_since}
use Rattle.cfb.proofs.OpenedMeans.{means_so}
use Rattle.cfb.proofs.opening.open_by.Goals as goal

pub returns-clause-opened : goal.returns-clause-opened
returns-clause-opened g c = λ is.
    let G = g.F.ReadMedium in
    let old = c.args.medium in
    let it = c.in-Ok-open_file.mini in
    let letters = letters_by c.args.reader in
    let did = c.in-Ok.ensures in
    let read : OnlyReadsMedium G.honest G.bytes G.continues old c.len.new.self = record { as_honest = did.honest; same = did.bytes; extends = did.continues } in
    let told = c.in-Ok-open_file.ensures.opened (subst IsTrue (sym did.honest) is) in
    let here = subst (λ b. IsOpened (validation_by c.args.reader) letters b it told.0 told.1) (did.bytes is) told.2 in
    let opens = opens_since old c.len.new.self it read c.in-Ok-open_file.ensures.opens in
    let judged = judged_so old it told.0 letters told.1 c.in-Ok.len c.in-Ok-is_sound.is_sound is opens here.shows here.means (did.length is) c.in-Ok-is_sound.ensures.sound in
    record {
      layout = told.0;
      tree = told.1;
      opened = here;
      shown = holds_so it (G.bytes old) told.0 letters told.1 here.shows here.means;
      sound = judged;
      means = λ sound. let meant = means_so old it told.0 letters told.1 is opens here.shows here.means (judged.0 sound) in (meant.0, record { sound = sound; live = meant.1; held = tt });
    }

pub returns-in-Err-is_sound-clause-refused_only_if : goal.returns-in-Err-is_sound-clause-refused_only_if
returns-in-Err-is_sound-clause-refused_only_if g c = λ is honest can.
    ⊎_elim
    (λ want. let both : Memory ≡ InvalidData = sym want ∙ is in absurd (cc))
    (λ failed. let both : Failed ≡ InvalidData = sym failed.0 ∙ is in absurd (cc))
    c.in-Err-is_sound.ensures.errors
