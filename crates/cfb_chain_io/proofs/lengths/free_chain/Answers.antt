use Rattle.std.proofs.Common.{◌≡◌, refl, sym, ap, subst, ◌∙◌}
use Rattle.std.specs.Prelude.{slice_index_or, OnOk}
use Rattle.cfb_sectors.specs.Copies.{copies}
use Rattle.cfb_sectors.specs.Initial.{initial}
use Rattle.cfb_sectors.specs.Sectors.{end_of_chain, free, joined}
use Rattle.cfb_sectors.specs.declared.initial.SectorInit.TheVariants.{Zero}
use Rattle.cfb_sectors.proofs.Appending.{on_ok}
use Rattle.cfb_sectors.proofs.OneChain.{chain_unique}
use Rattle.cfb_chains.specs.Changes.{AreSubsetOf, HaveEntry}
use Rattle.cfb_chains.specs.ChainViews.{holder_of, sectors_of}
use Rattle.cfb_chains.specs.Grown.{AreSectorsWritable, IsChainInTable}
use Rattle.cfb_chains.specs.LinkViews.{ids_of, links_version}
use Rattle.cfb_chains.proofs.Lending.{told_of_lent}
use Rattle.cfb_fat.specs.Changing.{MayWrite}
use Rattle.cfb_fat.specs.Tables.{bytes_of, fat_of}
use Rattle.cfb_chain_io.specs.ChainEffects.{KeepsFileInvariants}
use Rattle.cfb_chain_io.proofs.GoingOn.{changes_go_on}
use Rattle.cfb_chain_io.proofs.Resizing.{on_ok_both, resized_links, resized_shorter, Resized}
use Rattle.cfb_chain_io.proofs.lengths.free_chain.Goals as goal

pub returns-clause-invariants : goal.returns-clause-invariants
returns-clause-invariants g c =
    let made = c.new-chain.ensures in
    let did = c.free.ensures in
    let a = holder_of c.new-chain.result in
    let b = holder_of c.free.new.self in
    let is = c.allocator-1.given.1 (sym (did.same.holder ∙ made.same_reference)) in
    let links_is = c.links-1.given.1 (sym (did.same.links ∙ made.same_links)) in
    told_of_lent (λ a v s b t. KeepsFileInvariants {g = g.F.ReadMedium} a b) a c.args.allocator.now b _ _ _ _ _ _ _ made.holder made.chain.0 made.chain.1 is (ap ids_of links_is) (changes_go_on did.frees.0 a b did.frees.2)

pub returns-clause-freed : goal.returns-clause-freed
returns-clause-freed g c =
    let made = c.new-chain.ensures in
    let did = c.free.ensures in
    let r = c.free.result in
    let a = holder_of c.new-chain.result in
    let b = holder_of c.free.new.self in
    let v = c.new-chain.result.links.now.version in
    let s = sectors_of c.new-chain.result in
    let t = sectors_of c.free.new.self in
    let is = c.allocator-1.given.1 (sym (did.same.holder ∙ made.same_reference)) in
    let links_is = c.links-1.given.1 (sym (did.same.links ∙ made.same_links)) in
    let did_so : OnOk r (Resized {g = g.F.ReadMedium} (λ k len. copies k (initial Zero len)) 0 a v s b t) =
    on_ok r _ _ (λ all.
    let none = all.1.1.0 in
    resized_shorter Zero 0 a b v s t did.frees.0 all.0.0 all.0.1 none did.frees.2
    (λ linked. let same = chain_unique (fat_of a) (slice_index_or s 0 end_of_chain) did.frees.0 s all.1.0.0 linked in
    (subst (AreSubsetOf s) (sym same) (λ n none. none), subst (HaveEntry free (fat_of b)) same all.1.0.1))
    (λ linked. subst (IsChainInTable (fat_of b)) (sym none) refl)
    (λ same may. subst (AreSectorsWritable (MayWrite b) v) (sym none) tt)
    (λ honest may. subst (λ l. joined v (bytes_of b) l ≡ joined v (bytes_of a) l) (sym none) refl))
    (on_ok_both r _ _ did.error_contract.live (on_ok_both r _ _ did.frees.1 did.emptied)) in
    let told = told_of_lent (λ a v s b t. OnOk r (Resized {g = g.F.ReadMedium} (λ k len. copies k (initial Zero len)) 0 a v s b t))
    a c.args.allocator.now b _ v c.args.links.now.version s (ids_of c.args.links.now) t _ made.holder made.chain.0 made.chain.1 is (ap ids_of links_is) did_so in
    on_ok r _ _ (λ had chain. resized_links Zero 0 c.args.allocator.now _ c.args.links.now _ (ap links_version links_is ∙ did.same.version ∙ made.chain.0) had chain) told
