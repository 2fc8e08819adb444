use Rattle.std.proofs.Common.{◌≡◌, ◌⊎◌, ◌+◌, ◌-◌, ◌<◌, ◌≤◌, ℕ, false, List, ◌++◌, length, ap, sym, subst, ◌∙◌, IsTrue}
use Rattle.cfb_medium.specs.Versions.{sector_len}
use Rattle.cfb_medium.specs.declared.medium.ReadMedium.{Ghosts}
use Rattle.cfb_medium.specs.declared.version.Version.{Version}
use Rattle.cfb_sectors.specs.Copies.{copies}
use Rattle.cfb_sectors.specs.Initial.{initial}
use Rattle.cfb_sectors.specs.Sectors.{greatest_regular, joined}
use Rattle.cfb_sectors.specs.declared.initial.SectorInit.{SectorInit}
use Rattle.cfb_chains.specs.Changes.{AreSubsetOf}
use Rattle.cfb_chains.specs.Grown.{AreSectorsWritable, IsChainInTable}
use Rattle.cfb_chains.specs.LinkViews.{ids_of}
use Rattle.cfb_chains.specs.Positions.{sectors_for}
use Rattle.cfb_chains.proofs.Lending.{told_of_lent}
use Rattle.cfb_fat.specs.declared.allocator.Allocator.{Allocator}
use Rattle.cfb_fat.specs.Changing.{MayWrite}
use Rattle.cfb_fat.specs.Growing.{LacksSectorNumbers, AllocatesSectors}
use Rattle.cfb_fat.specs.Tables.{bytes_of, fat_of, has_failed_here, is_honest, orderly_of, version_of}
use Rattle.std.specs.Prelude.{OnOk}
use Rattle.cfb_fat.proofs.allocator.Allocator.lengthen_chain.Goals as goal

module _ {F : Type 0} {g : Ghosts F} where
  -- the chain's bytes before, and what its new sectors hold
  abbrev Filled : SectorInit → Allocator F g → Version → List ℕ → Allocator F g → List ℕ → Type 0
  Filled init a v s b t = IsTrue (is_honest a) → version_of a ≡ v → IsChainInTable (fat_of a) s → AreSectorsWritable (MayWrite a) v s
      → joined v (bytes_of b) t ≡ joined v (bytes_of a) s ++ copies (length t - length s) (initial init (sector_len v))

pub returns-clause-longer : goal.returns-clause-longer
returns-clause-longer g c =
    let it = c.args.self.now in
    let made = c.new-chain.ensures in
    let self_is = c.self-1.given.1 (sym (c.set_len.ensures.same.holder ∙ made.same_reference)) in
    let links_is = c.links-1.given.1 (sym (c.set_len.ensures.same.links ∙ made.same_links)) in
    told_of_lent (λ a v s b t. length s ≤ sectors_for v c.args.len → (more : List ℕ) × (changed : List ℕ) × (t ≡ s ++ more) × AllocatesSectors {g = g.F.ReadMedium} more changed a b × (IsChainInTable (fat_of a) s → AreSubsetOf t changed))
    _ it _ _ _ _ _ _ _ _ made.holder made.chain.0 made.chain.1 self_is (ap ids_of links_is) c.set_len.ensures.longer c.requires.more

pub returns-clause-filled : goal.returns-clause-filled
returns-clause-filled g c =
    let it = c.args.self.now in
    let made = c.new-chain.ensures in
    let new = c.set_len.new.self in
    let self_is = c.self-1.given.1 (sym (c.set_len.ensures.same.holder ∙ made.same_reference)) in
    let links_is = c.links-1.given.1 (sym (c.set_len.ensures.same.links ∙ made.same_links)) in
    let filled = subst (λ i. (length (ids_of c.new-chain.result.links.now) ≤ sectors_for (c.new-chain.result.links.now.version) c.args.len → OnOk c.set_len.result (Filled {g = g.F.ReadMedium} i c.new-chain.result.holder.now c.new-chain.result.links.now.version (ids_of c.new-chain.result.links.now) new.holder.now (ids_of new.links.now))))
    made.chain.3 c.set_len.ensures.filled in
    told_of_lent (λ a v s b t. length s ≤ sectors_for v c.args.len → OnOk c.set_len.result (Filled {g = g.F.ReadMedium} c.args.init a v s b t))
    _ it _ _ _ _ _ _ _ _ made.holder made.chain.0 made.chain.1 self_is (ap ids_of links_is) filled c.requires.more

pub returns-clause-full_only_if : goal.returns-clause-full_only_if
returns-clause-full_only_if g c = λ is.
    let it = c.args.self.now in
    let made = c.new-chain.ensures in
    let self_is = c.self-1.given.1 (sym (c.set_len.ensures.same.holder ∙ made.same_reference)) in
    let links_is = c.links-1.given.1 (sym (c.set_len.ensures.same.links ∙ made.same_links)) in
    let short = c.set_len.ensures.full_only_if is in
    told_of_lent (λ a v s b t. IsTrue (orderly_of {g = g.F.ReadMedium} a) × (has_failed_here b ≡ false → LacksSectorNumbers a (sectors_for v c.args.len - length s) ⊎ (greatest_regular + 1 < sectors_for v c.args.len)))
    _ it _ _ _ _ _ _ _ _ made.holder made.chain.0 made.chain.1 self_is (ap ids_of links_is) (short.orderly, short.lacks)
