use Rattle.std.proofs.Common.{◌∙◌, subst, sym}
use Rattle.msi_copies.proofs.Resting.{keeps_rests}
use Rattle.msi_building.specs.Saying.{SaysPackage}
use Rattle.msi_building.proofs.building.said_package.Goals as goal

pub returns : goal.returns
returns c =
    let it = c.in_ok-package.package in
    let reads = c.says.ensures.only_reads in
    let was = sym c.is_sound.ensures ∙ c.if-not-is_sound.false in
    let held = c.in_ok-package.ensures was in
    let says = c.in_ok-says.ensures.says held.0 held.1 c.if-not-branch.false in
    (reads.sound ∙ was, held.0, (keeps_rests it c.says.new.built reads).holds held.0 held.1, subst (λ l. SaysPackage l held.0 c.args.said.now) (sym reads.file.letters) says)
