use Rattle.std.proofs.Common.{◌≡◌, ℕ, IsTrue, ap, sym, ◌∙◌, subst}
use Rattle.std.specs.Prelude.{Err}
use Rattle.cfb_medium.specs.declared.error.Error.TheVariants.{InvalidData}
use Rattle.cfb_sectors.specs.Sectors.{joined, Chain as IsChain}
use Rattle.cfb_sectors.proofs.OneChain.{chain_unique}
use Rattle.cfb_tree.specs.Directory.{entries_of}
use Rattle.cfb_tree.specs.CaseTableViews.{case_table_of}
use Rattle.cfb_directory.specs.Entries.{entries_in, SizesFit}
use Rattle.cfb_directory.specs.Taken.{HasAny, IsTakenAs}
use Rattle.cfb_sectors.proofs.Causes.{err_same}
use Rattle.cfb_chains.specs.LinkViews.{ids_of, links_version}
use Rattle.cfb_fat.specs.Tables.{bytes_of, fat_of, is_honest, version_of}
use Rattle.cfb_directory.proofs.ReadTrees.{linked_of}
use Rattle.cfb_chain_io.specs.ChainEffects.{HasFatChain}
use Rattle.cfb_fat.specs.declared.allocator.Allocator.{Allocator}
use Rattle.cfb_chains.specs.declared.links.Links.{Links}
use Rattle.cfb_medium.specs.declared.medium.ReadMedium.{Ghosts}
use Rattle.cfb_directory.proofs.reading.read_directory.Goals as goal

-- a chain that was opened, in an honest file
has_links : {F : Type 0} {g : Ghosts F} (it : Allocator F g) (links : Links) (start : ℕ) → IsTrue (is_honest it) → IsChain (fat_of it) start (ids_of links) → links_version links ≡ version_of it → HasFatChain it links
has_links it links start honest chain version = record { honest = honest; version = version; linked = linked_of (fat_of it) start (ids_of links) chain }

pub returns-in_err-bytes-clause-refused_only_if : goal.returns-in_err-bytes-clause-refused_only_if
returns-in_err-bytes-clause-refused_only_if g c = λ wrong honest ids chain tree it.
    let same = err_same c.from_residual-in_err-bytes.result c.in_err-bytes.field-0.0 InvalidData c.from_residual-in_err-bytes.ensures.1 wrong in
    c.in_err-bytes.ensures.refused_only_if (ap Err same) (has_links c.args.allocator.now c.in_ok-links.links c.args.first_sector honest c.in_ok-links.ensures.chain c.in_ok-links.ensures.version)

pub returns-then-not-branch-clause-refused_only_if : goal.returns-then-not-branch-clause-refused_only_if
returns-then-not-branch-clause-refused_only_if g c = λ wrong honest ids chain tree it.
    let v = version_of c.args.allocator.now in
    let bytes = bytes_of c.args.allocator.now in
    let has = has_links c.args.allocator.now c.in_ok-links.links c.args.first_sector honest c.in_ok-links.ensures.chain c.in_ok-links.ensures.version in
    let same : ids_of c.in_ok-links.links ≡ ids = chain_unique (fat_of c.args.allocator.now) c.args.first_sector (ids_of c.in_ok-links.links) ids c.in_ok-links.ensures.chain chain in
    let entries : entries_in c.in_ok-items.items.items ≡ entries_of v (joined v bytes ids) =
    c.in_ok-items.ensures.read
    ∙ ap (λ w. entries_of w c.deref.result.now) (c.version.ensures ∙ c.in_ok-bytes.ensures.only_reads.sectors.version)
    ∙ ap (entries_of v) (c.deref.ensures.value ∙ c.in_ok-bytes.ensures.read has ∙ ap (joined v bytes) same) in
    c.in_ok-is_tree.ensures.none c.if-not-branch.true tree
    (subst (λ es. IsTakenAs c.args.validation (case_table_of c.args.letters.now) HasAny es tree) (sym (ap entries_in c.deref-2.ensures.value ∙ entries)) it)

pub returns-clause-sizes : goal.returns-clause-sizes
returns-clause-sizes g c = subst (λ v. SizesFit v (entries_in c.in_ok-items.items.items)) (c.version.ensures ∙ c.in_ok-bytes.ensures.only_reads.sectors.version) c.in_ok-items.ensures.sizes
