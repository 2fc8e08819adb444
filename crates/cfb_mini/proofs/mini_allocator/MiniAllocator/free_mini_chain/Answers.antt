use Rattle.std.proofs.Common.{subst, sym}
use Rattle.cfb_fat.specs.Tables.{OnlyReadsAllocator}
use Rattle.cfb_chain_io.specs.ChainEffects.{KeepsFileInvariants, HasDataChain}
use Rattle.cfb_mini.specs.NumberWrites.{Enters}
use Rattle.cfb_mini.specs.LinkViews.{minis_of}
use Rattle.cfb_mini.proofs.Keeping.{fat_chain, frees_is, rests_is}
use Rattle.cfb_mini.proofs.Results.{both_err}
use Rattle.cfb_mini.proofs.mini_allocator.MiniAllocator.free_mini_chain.Goals as goal
use Rattle.cfb_directory.proofs.Results.{two_ok}

pub returns-clause-freed : goal.returns-clause-freed
returns-clause-freed g c =
    let it = c.args.self.now in
    let same = c.allocator_mut.ensures.value in
    let b = c.free_minis.new.allocator in
    two_ok c.free_minis.result _ _ _
    (λ enters freed own h. frees_is (minis_of c.args.links.now) it b c.free_minis.new.mini_fat own h (subst (λ x. KeepsFileInvariants x b) same c.free_minis.ensures.invariants) c.allocator_mut.ensures.kept c.free_minis.ensures.lies
    (subst (λ x. Enters (minis_of c.args.links.now) x b it.mini_fat c.free_minis.new.mini_fat) same (enters (subst (λ x. HasDataChain x it.mini_fat.links) (sym same) (fat_chain it own h)))) freed)
    c.free_minis.ensures.enters c.free_minis.ensures.freed

pub returns-clause-after_error : goal.returns-clause-after_error
returns-clause-after_error g c =
    both_err c.free_minis.result _ _ _ _
    (λ rests same. rests_is c.args.self.now c.free_minis.new.allocator c.free_minis.new.mini_fat (subst (λ x. OnlyReadsAllocator x c.free_minis.new.allocator) c.allocator_mut.ensures.value rests) c.free_minis.ensures.lies same)
    c.free_minis.ensures.error_contract.after c.free_minis.ensures.after_error
