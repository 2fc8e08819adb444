use Rattle.std.proofs.Common.{◌≡◌, ap, sym, subst, ◌∙◌}
use Rattle.cfb_chains.specs.LinkViews.{ids_of}
use Rattle.cfb_directory.specs.Views as directory
use Rattle.cfb_fat.specs.Tables.{fat_of, version_of}
use Rattle.cfb_mini.specs.Views.{allocator_of}
use Rattle.cfb_sectors.specs.Sectors.{Chain}
use Rattle.cfb_tree_edits.proofs.freeing.free_long.Goals as goal
use Rattle.cfb_sectors.proofs.OneChain.{chain_unique}

pub returns-in-Err-free_chain-clause-refused_only_if : goal.returns-in-Err-free_chain-clause-refused_only_if
returns-in-Err-free_chain-clause-refused_only_if g c = λ wrong own key h starts orderly.
    let it = c.args.mini.now in
    let links = c.in-Ok.links in
    let same : c.allocator-2.result.now ≡ allocator_of it = c.allocator-2.ensures ∙ ap directory.allocator_of c.directory-2.ensures in
    c.in-Err-free_chain.ensures.refused_only_if wrong own key h
    (chain_unique (fat_of (allocator_of it)) c.args.start (own key) (ids_of links) (subst (λ n. Chain (fat_of (allocator_of it)) n (own key)) (sym starts) (h.owned.linked key))
    (subst (λ x. Chain (fat_of x) c.args.start (ids_of links)) same c.in-Ok.ensures.chain))
    (c.in-Ok.ensures.version ∙ ap version_of same) orderly

pub returns-clause-freed : goal.returns-clause-freed
returns-clause-freed g c = λ own key h past starts.
    let it = c.args.mini.now in
    let links = c.in-Ok.links in
    let same : c.allocator-2.result.now ≡ allocator_of it = c.allocator-2.ensures ∙ ap directory.allocator_of c.directory-2.ensures in
    c.in_default.ensures.freed own key h past
    (chain_unique (fat_of (allocator_of it)) c.args.start (own key) (ids_of links) (subst (λ n. Chain (fat_of (allocator_of it)) n (own key)) (sym starts) (h.owned.linked key))
    (subst (λ x. Chain (fat_of x) c.args.start (ids_of links)) same c.in-Ok.ensures.chain))
    (c.in-Ok.ensures.version ∙ ap version_of same)
