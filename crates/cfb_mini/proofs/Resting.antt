-- A chain over reads.
use Rattle.std.proofs.Common.{◌≡◌, ap, sym, subst, ◌∙◌, IsTrue}
use Rattle.cfb_medium.specs.declared.medium.ReadMedium.{Ghosts}
use Rattle.cfb_sectors.specs.Sectors.{joined}
use Rattle.cfb_chains.specs.Grown.{IsChainInTable}
use Rattle.cfb_chains.specs.LinkViews.{ids_of}
use Rattle.cfb_chains.specs.declared.links.Links.{Links}
use Rattle.cfb_fat.specs.Tables.{bytes_of, version_of, OnlyReadsAllocator}
use Rattle.cfb_fat.specs.declared.allocator.Allocator.{Allocator}
use Rattle.cfb_chain_io.specs.ChainEffects.{content_of, HasFatChain}

module _ {F : Type 0} {g : Ghosts F} where
  pub has_yet : (a b : Allocator F g) (links : Links) → OnlyReadsAllocator a b → HasFatChain a links → HasFatChain b links
  has_yet a b links rests has = record {
    honest = subst IsTrue (sym rests.sectors.honest) has.honest;
    version = has.version ∙ sym rests.sectors.version;
    linked = subst (λ l. IsChainInTable l (ids_of links)) (sym rests.fat) has.linked;
  }

  pub same_content : (a b : Allocator F g) (links : Links) → OnlyReadsAllocator a b → HasFatChain a links → content_of b links ≡ content_of a links
  same_content a b links rests has =
      ap (λ v. joined v (bytes_of b) (ids_of links)) rests.sectors.version ∙ ap (λ l. joined (version_of a) l (ids_of links)) (rests.sectors.bytes has.honest)
