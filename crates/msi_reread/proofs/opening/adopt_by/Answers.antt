use Rattle.cfb.specs.Views.{mini_of}
use Rattle.cfb_chain_io.proofs.GoingOn.{goes_then, rests_go_on}
use Rattle.cfb_mini.specs.Views.{allocator_of}
use Rattle.cfb_tree.specs.CaseTableViews.{case_table_of}
use Rattle.msi_reread.proofs.OpenedTrees.{adopts_reread}
use Rattle.msi_reread.proofs.opening.adopt_by.Goals as goal

pub returns-in-Ok-adopt-clause-adopted : goal.returns-in-Ok-adopt-clause-adopted
returns-in-Ok-adopt-clause-adopted g c tree honest m same may =
    adopts_reread (case_table_of c.args.letters) c.args.pages.texts c.args.pages.summary c.args.source.now c.reread.new.file c.reread.ensures.letters same tree c.in-Ok.lacking (c.in-Ok.ensures.reread tree m) may
    (g.T.ReadMedium.bytes c.in-Ok-adopt.target) (λ t P packed. c.in-Ok-adopt.ensures.adopted t P honest packed)

pub returns-in-Ok-adopt-clause-invariants : goal.returns-in-Ok-adopt-clause-invariants
returns-in-Ok-adopt-clause-invariants g c =
    let m = allocator_of (mini_of c.reread.new.file) in
    let b = allocator_of (mini_of c.adopt.new.source) in
    goes_then _ m b c.reread.ensures.invariants (rests_go_on m b c.adopt.ensures.only_reads.mini.directory.allocator)

pub returns-in-Err-adopt-clause-invariants : goal.returns-in-Err-adopt-clause-invariants
returns-in-Err-adopt-clause-invariants g c =
    let m = allocator_of (mini_of c.reread.new.file) in
    let b = allocator_of (mini_of c.adopt.new.source) in
    goes_then _ m b c.reread.ensures.invariants (rests_go_on m b c.adopt.ensures.only_reads.mini.directory.allocator)
