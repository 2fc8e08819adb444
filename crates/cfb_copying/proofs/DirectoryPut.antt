-- The directory's chain takes in as many sectors as its bytes need.
use Rattle.std.proofs.Common.{◌≡◌, ℕ, ◌+◌, ◌*◌, ◌<◌, List, [], ◌∷◌, length, ap, sym, subst, ◌∙◌, arith}
use Rattle.std.proofs.lemmas.List.{length-map}
use Rattle.cfb_medium.specs.Versions.{sector_len}
use Rattle.cfb_medium.specs.declared.version.Version.{Version}
use Rattle.cfb_medium.specs.declared.medium.ReadMedium.{Ghosts}
use Rattle.cfb_sectors.specs.Sectors.{Chain}
use Rattle.cfb_chains.specs.Changes.{AreDisjoint}
use Rattle.cfb_chains.specs.Grown.{IsChainInTable}
use Rattle.cfb_chains.specs.LinkViews.{ids_of, links_version}
use Rattle.cfb_chains.specs.Positions.{sectors_for}
use Rattle.cfb_chains.specs.declared.links.Links.{Links}
use Rattle.cfb_chains.proofs.ChainWriting.{length-joined}
use Rattle.cfb_directory.specs.Entries.{entries_in}
use Rattle.cfb_fat.specs.Tables.{bytes_of, fat_of, tables_of, version_of}
use Rattle.cfb_fat.specs.declared.allocator.Allocator.{Allocator}
use Rattle.cfb_chain_io.specs.ChainEffects.{content_of, len_of, HasDataChain}
use Rattle.cfb_ownership.specs.Owners.{directory_owner}
use Rattle.cfb_tree.specs.EntryViews.{entry_in}
use Rattle.cfb_tree.specs.declared.entry.DirEntry.{DirEntry}
use Rattle.cfb_copying.specs.Making.{IsFileInProgress}
use Rattle.cfb_copying.specs.Steps.{FillSectors}
use Rattle.cfb_copying.proofs.PutChains.{linked_of}
use Rattle.cfb_chains.proofs.Extending.{whole_sectors}
use Rattle.cfb_sectors.proofs.OneChain.{chain_unique}

module _ (v : Version) (es : List DirEntry) (content : List ℕ) (fills : FillSectors v (entries_in es)) (size : length content ≡ length es * 128) where
  pub content_whole : length content ≡ fills.count * sector_len v
  content_whole = size ∙ ap (λ n. n * 128) (sym (length-map es entry_in)) ∙ fills.whole

  pub sectors_needed : (w : Version) (len n : ℕ) → len ≡ length content → w ≡ v → n ≡ sectors_for w len → n ≡ fills.count
  sectors_needed w len n is same needs = needs ∙ ap (λ u. sectors_for u len) same ∙ ap (sectors_for v) (is ∙ content_whole) ∙ whole_sectors v fills.count

  long : (links : Links) → links_version links ≡ v → length (ids_of links) ≡ fills.count → len_of links ≡ length content
  long links version many = ap (λ u. length (ids_of links) * sector_len u) version ∙ ap (λ n. n * sector_len v) many ∙ sym content_whole

  pub all_fits : (links : Links) → links_version links ≡ v → length (ids_of links) ≡ fills.count → len_of links < 0 + length content → ⊥
  all_fits links version many less = let is = long links version many in omega (arith, less, is)

  pub as_many : {F : Type 0} {g : Ghosts F} (b : Allocator F g) (links : Links) → links_version links ≡ v → version_of b ≡ v → length (ids_of links) ≡ fills.count → length content ≡ length (content_of b links)
  as_many b links version same many =
      sym (long links version many) ∙ ap (λ u. length (ids_of links) * sector_len u) (version ∙ sym same) ∙ sym (length-joined (version_of b) (bytes_of b) (ids_of links))

module _ {F : Type 0} {g : Ghosts F} (m : ℕ) (a : Allocator F g) (own bytes : ℕ → List ℕ) (made : IsFileInProgress 1 m a own bytes) (mine : own directory_owner ≡ 1 ∷ []) where
  -- the directory has its one sector
  pub has_first : Chain (fat_of a) 1 (1 ∷ [])
  has_first = subst (IsChainInTable (fat_of a)) mine (made.owned.linked directory_owner)

  pub first_sector : (links : Links) → Chain (fat_of a) 1 (ids_of links) → ids_of links ≡ 1 ∷ []
  first_sector links chain = chain_unique (fat_of a) 1 (ids_of links) (1 ∷ []) chain has_first

  pub directory_has : (links : Links) → Chain (fat_of a) 1 (ids_of links) → links_version links ≡ version_of a → HasDataChain a links
  directory_has links chain version = record {
    has = record { honest = made.honest; version = version; linked = linked_of (fat_of a) 1 (ids_of links) chain };
    beside = subst (AreDisjoint (tables_of a)) (mine ∙ sym (first_sector links chain)) (made.owned.beside directory_owner);
  }
