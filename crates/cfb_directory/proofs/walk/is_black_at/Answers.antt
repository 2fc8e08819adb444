use Rattle.std.proofs.Common.{◌≡◌, refl, sym, subst}
use Rattle.std.specs.Prelude.{IfSome}
use Rattle.cfb_tree.specs.Directory.{Entry, black}
use Rattle.cfb_siblings.proofs.Entries.{found_in}
use Rattle.cfb_directory.proofs.Judging.{lost_in}
use Rattle.cfb_directory.proofs.walk.is_black_at.Goals as goal

pub returns-in-Some : goal.returns-in-Some
returns-in-Some c =
    let at = c.in-Some.ensures.lookup in
    let found = found_in c.args.entries.now c.args.id c.in-Some.entry.now at.3.0 at.1 in (
      λ is. subst (λ o. IfSome o (λ (e : Entry). e.color ≡ black)) (sym found) (c.has_color.ensures.0 is),
      λ is. c.has_color.ensures.1 (subst (λ o. IfSome o (λ (e : Entry). e.color ≡ black)) found is),
    )

pub returns-in-None : goal.returns-in-None
returns-in-None c =
    let lost = lost_in c.args.entries.now c.args.id c.in-None.ensures.lookup.3 in
    (λ is. subst (λ o. IfSome o (λ (e : Entry). e.color ≡ black)) (sym lost) tt, λ is. refl)
