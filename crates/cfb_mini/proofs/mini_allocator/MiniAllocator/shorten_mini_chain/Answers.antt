use Rattle.std.proofs.Common.{subst, sym}
use Rattle.cfb_sectors.proofs.Appending.{on_ok}
use Rattle.cfb_fat.specs.Tables.{OnlyReadsAllocator}
use Rattle.cfb_chain_io.specs.ChainEffects.{KeepsFileInvariants, HasDataChain}
use Rattle.cfb_mini.specs.NumberWrites.{CutsMinis}
use Rattle.cfb_mini.specs.LinkViews.{minis_of}
use Rattle.cfb_mini.proofs.Keeping.{fat_chain, rests_is, shortens_is}
use Rattle.cfb_mini.proofs.Results.{both_err}
use Rattle.cfb_mini.proofs.mini_allocator.MiniAllocator.shorten_mini_chain.Goals as goal

pub returns-clause-shortened : goal.returns-clause-shortened
returns-clause-shortened g c =
    let it = c.args.self.now in
    let same = c.allocator_mut.ensures.value in
    let b = c.cut_minis.new.allocator in
    let mini = c.cut_minis.new.mini_fat in
    let minis = minis_of c.args.links.now in
    let later = minis_of c.cut_minis.new.links in
    on_ok c.cut_minis.result _ _
    (λ cuts own h linked. shortens_is c.args.count minis later it b mini own h linked (subst (λ x. KeepsFileInvariants x b) same c.cut_minis.ensures.invariants) c.allocator_mut.ensures.kept c.cut_minis.ensures.lies
    (subst (λ x. CutsMinis c.args.count x b it.mini_fat mini minis later) same (cuts (subst (λ x. HasDataChain x it.mini_fat.links) (sym same) (fat_chain it own h)))))
    c.cut_minis.ensures.cuts

pub returns-clause-after_error : goal.returns-clause-after_error
returns-clause-after_error g c =
    both_err c.cut_minis.result _ _ _ _
    (λ rests same. rests_is c.args.self.now c.cut_minis.new.allocator c.cut_minis.new.mini_fat (subst (λ x. OnlyReadsAllocator x c.cut_minis.new.allocator) c.allocator_mut.ensures.value rests) c.cut_minis.ensures.lies same)
    c.cut_minis.ensures.error_contract.after c.cut_minis.ensures.after_error
