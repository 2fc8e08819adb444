use Rattle.std.proofs.Common.{◌+◌, length, subst, sym, IsTrue}
use Rattle.cfb_sectors.proofs.Appending.{on_ok}
use Rattle.cfb_fat.specs.Tables.{has_failed_here, orderly_of, OnlyReadsAllocator}
use Rattle.cfb_chain_io.specs.ChainEffects.{KeepsFileInvariants, HasDataChain, LacksSectors}
use Rattle.cfb_chains.specs.LinkViews.{ids_of}
use Rattle.cfb_mini.specs.FatGrowth.{GrowsTable}
use Rattle.cfb_mini.specs.Views.{allocator_of}
use Rattle.cfb_mini.proofs.Keeping.{fat_chain, grows_fat_is, rests_same}
use Rattle.cfb_mini.proofs.LongerTables.{lacks_one}
use Rattle.cfb_mini.proofs.Results.{live_err}
use Rattle.cfb_mini.proofs.mini_allocator.MiniAllocator.grow_mini_fat.Goals as goal

pub returns-clause-grown : goal.returns-clause-grown
returns-clause-grown g c =
    let it = c.args.self.now in
    let same = c.allocator_mut.ensures.value in
    let b = c.grow_table.new.allocator in
    on_ok c.grow_table.result _ _
    (λ grows own h. grows_fat_is it b c.grow_table.new.mini_fat own h (subst (λ x. KeepsFileInvariants x b) same c.grow_table.ensures.invariants) c.allocator_mut.ensures.kept
    (subst (λ x. GrowsTable x b it.mini_fat c.grow_table.new.mini_fat) same (grows (subst (λ x. HasDataChain x it.mini_fat.links) (sym same) (fat_chain it own h)))))
    c.grow_table.ensures.grows

pub returns-clause-refused_only_if : goal.returns-clause-refused_only_if
returns-clause-refused_only_if g c = λ wrong own h orderly.
    let it = c.args.self.now in
    let same = c.allocator_mut.ensures.value in
    c.grow_table.ensures.refused_only_if wrong (subst (λ x. HasDataChain x it.mini_fat.links) (sym same) (fat_chain it own h)) (subst (λ x. IsTrue (orderly_of x)) (sym same) orderly)

pub returns-clause-full_only_if : goal.returns-clause-full_only_if
returns-clause-full_only_if g c = λ wrong live.
    let it = c.args.self.now in
    lacks_one (allocator_of it) it.mini_fat.links (subst (λ x. LacksSectors x it.mini_fat.links (length (ids_of it.mini_fat.links) + 1)) c.allocator_mut.ensures.value (c.grow_table.ensures.full_only_if wrong live))

pub returns-clause-after_error : goal.returns-clause-after_error
returns-clause-after_error g c =
    let it = c.args.self.now in
    let b = c.grow_table.new.allocator in
    live_err c.grow_table.result (has_failed_here b) _ _ _
    (λ rests kept. rests_same it b c.grow_table.new.mini_fat (subst (λ x. OnlyReadsAllocator x b) c.allocator_mut.ensures.value rests) kept.0 c.grow_table.ensures.version c.grow_table.ensures.stream kept.1)
    c.grow_table.ensures.error_contract.after c.grow_table.ensures.kept
