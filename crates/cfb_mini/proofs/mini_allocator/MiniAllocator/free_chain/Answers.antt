use Rattle.std.proofs.Common.{refl, subst, sym, IsTrue}
use Rattle.cfb_fat.specs.Tables.{orderly_of, OnlyReadsAllocator}
use Rattle.cfb_chain_io.specs.ChainEffects.{KeepsFileInvariants, HasDataChain, Resizes}
use Rattle.cfb_sectors.specs.declared.initial.SectorInit.TheVariants.{Zero}
use Rattle.cfb_mini.proofs.Keeping.{frees_chain_is, own_chain, rests_is}
use Rattle.cfb_mini.proofs.Results.{on_err}
use Rattle.std.proofs.Common.{inl, inr, ⊎_elim}
use Rattle.cfb_mini.proofs.mini_allocator.MiniAllocator.free_chain.Goals as goal
use Rattle.cfb_directory.proofs.Results.{two_ok}

pub returns-clause-freed : goal.returns-clause-freed
returns-clause-freed g c =
    let it = c.args.self.now in
    let links = c.args.links.now in
    let after = c.free_chain.new.links in
    let same = c.allocator_mut.ensures.value in
    let b = c.free_chain.new.allocator in
    two_ok c.free_chain.result _ _ _
    (λ did none own key h past is version. frees_chain_is key it b links after own h past is (subst (λ x. KeepsFileInvariants x b) same c.free_chain.ensures.invariants) c.allocator_mut.ensures.kept none
    (subst (λ x. Resizes Zero 0 x b links after) same (did (subst (λ x. HasDataChain x links) (sym same) (own_chain it own key links h is version)))))
    c.free_chain.ensures.freed c.free_chain.ensures.emptied

pub returns-clause-refused_only_if : goal.returns-clause-refused_only_if
returns-clause-refused_only_if g c = λ wrong own key h is version orderly.
    let it = c.args.self.now in
    let links = c.args.links.now in
    let same = c.allocator_mut.ensures.value in
    c.free_chain.ensures.refused_only_if wrong (subst (λ x. HasDataChain x links) (sym same) (own_chain it own key links h is version)) (subst (λ x. IsTrue (orderly_of x)) (sym same) orderly)

pub returns-clause-after_error : goal.returns-clause-after_error
returns-clause-after_error g c =
    let it = c.args.self.now in
    let b = c.free_chain.new.allocator in
    on_err c.free_chain.result _ _
    (λ either. ⊎_elim (λ failed. inl failed) (λ rests. inr (rests_is it b it.mini_fat (subst (λ x. OnlyReadsAllocator x b) c.allocator_mut.ensures.value rests) (record { links = refl; stream = refl }) refl)) either)
    c.free_chain.ensures.error_contract.after
