use Rattle.std.proofs.Common.{◌<◌, ◌∙◌, ap, sym, arith}
use Rattle.std.proofs.lemmas.Bool.Decides.{nat_tests}
use Rattle.std.proofs.lemmas.List.{at_drop_more}
use Rattle.msi_texts.specs.Category.{is_group, group_lens}
use Rattle.msi_texts.specs.Groups.{is_first_group}
use Rattle.msi_texts.proofs.category.is_group_at.Goals as goal

pub returns-in-Some : goal.returns-in-Some
returns-in-Some c =
    let inside : c.args.index < 5 = grind (arith, nat_tests, c.in-Some.ensures.lookup.0) in
    c.is_group.ensures
    ∙ ap (is_group c.args.group.now) c.in-Some.ensures.lookup.1
    ∙ sym (at_drop_more (is_first_group c.args.group.now) group_lens c.args.index c.in-Some.len.now inside)
