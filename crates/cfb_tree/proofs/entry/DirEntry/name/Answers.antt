use Rattle.std.proofs.Common.{inr, refl, ap, sym, ◌∙◌, arith, map, take, Some}
use Rattle.std.proofs.lemmas.Str.{chars_from_encodes}
use Rattle.std.proofs.lemmas.Str.{IsUtf8-had}
use Rattle.std.specs.Char.Utf16.{utf16_chars, utf16_lossy_chars}
use Rattle.cfb_tree.proofs.NameSteps.{lossy_is, unpaired_none}
use Rattle.cfb_tree.proofs.entry.DirEntry.name.Goals as goal

pub returns-in-Ok-clause-named : goal.returns-in-Ok-clause-named
returns-in-Ok-clause-named c =
    let a = rw c.in-Ok.is at c.in_ok-name.ensures.chars in
    let b = rw c.in-Ok.is at c.in_ok-name.ensures.unpaired in
    let units = take c.saturating_sub-units.result c.args.self.now.name_units in
    let name = chars_from_encodes (utf16_lossy_chars units) _ (IsUtf8-had _ c.in-Ok.name.ok) (sym a) in
    record {
      even = omega arith;
      fits = omega arith;
      spelled = ap (λ n. utf16_chars (take n c.args.self.now.name_units)) (sym c.saturating_sub-units.ensures)
          ∙ lossy_is units (sym b) ∙ ap (λ xs. map Some xs) name;
    }

pub returns-in-Err-clause-errors : goal.returns-in-Err-clause-errors
returns-in-Err-clause-errors c =
    let b = rw c.in-Err.is at c.in_ok-name.ensures.unpaired in
    let units = take c.saturating_sub-units.result c.args.self.now.name_units in
    inr (refl, λ name named. unpaired_none units name (sym b) (ap (λ n. utf16_chars (take n c.args.self.now.name_units)) c.saturating_sub-units.ensures ∙ named.spelled))
