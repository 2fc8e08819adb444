use Rattle.std.proofs.Common.{◌∙◌, subst, sym}
use Rattle.cfb.specs.Views.{file_case_table}
use Rattle.msi.specs.Opened.{file_in}
use Rattle.msi_building.specs.Agreeing.{Agree}
use Rattle.msi_copies.proofs.Resting.{keeps_rests}
use Rattle.msi_building.proofs.once.with_texts_once.Goals as goal

pub returns : goal.returns
returns c P h sound =
    let held = c.in_ok-copy_of.ensures.held P h sound in
    let was = sym c.if-not-is_sound.ensures in
    let made = c.in_ok-made.ensures was in
    let reads = c.agree.ensures.reads_other in
    let same = c.in_ok-agree.ensures.same P made.0 held made.1 c.if-not-branch.false in
    let moved = subst (λ o. Agree (file_case_table (file_in c.copy_of.new.it)) P o made.0) (sym reads.file.letters) same in
    (reads.sound ∙ was, made.0, (keeps_rests c.in_ok-made.made c.agree.new.other reads).holds made.0 made.1, subst (λ l. Agree l P (file_case_table (file_in c.agree.new.other)) made.0) c.copy_of.ensures.letters moved)
