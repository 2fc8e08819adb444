-- A chain that is put into a file in the making.
use Rattle.std.proofs.Common.{◌≡◌, ◌⊎◌, ℕ, inl, inr, false, List, [], ◌∷◌, refl, sym, subst, ◌∙◌, ⊎_elim}
use Rattle.cfb_medium.specs.Calls.{IsFaultOrInvalidInputIf}
use Rattle.cfb_medium.specs.declared.error.Error.{Error}
use Rattle.cfb_medium.specs.declared.error.Error.TheVariants.{Full, InvalidData, InvalidInput}
use Rattle.cfb_medium.specs.declared.medium.ReadMedium.{Ghosts}
use Rattle.cfb_sectors.specs.Sectors.{joined, Chain}
use Rattle.cfb_chains.specs.ChainCalls.{IsInvalidPlace}
use Rattle.cfb_chains.specs.Changes.{AreDisjoint}
use Rattle.cfb_chains.specs.Grown.{IsChainInTable}
use Rattle.cfb_chains.specs.LinkViews.{ids_of, links_version}
use Rattle.cfb_chains.specs.declared.links.Links.{Links}
use Rattle.cfb_fat.specs.Tables.{bytes_of, fat_of, has_failed_here, tables_of, version_of}
use Rattle.cfb_fat.specs.declared.allocator.Allocator.{Allocator}
use Rattle.cfb_tree_edits.specs.LiveTreeRules.{IsFaultOrFull}
use Rattle.cfb_chain_io.specs.ChainEffects.{content_of, KeepsFileInvariants, HasDataChain, HasFatChain}
use Rattle.cfb_copying.specs.Chains.{CopiesChain, IsCopyError}
use Rattle.cfb_copying.specs.Making.{with_list, IsFileInProgress}
use Rattle.cfb_copying.specs.Steps.{CanPut}
use Rattle.cfb_copying.proofs.Made.{made_more}
use Rattle.cfb_sectors.proofs.OneChain.{chain_unique}

-- an error of a copy that is none of a place is a fault
pub fault_of : (e : Error) → (IsInvalidPlace e → ⊥) → IsCopyError e → IsFaultOrFull e
fault_of e never fault = ⊎_elim (λ is. inl is) (λ rest. ⊎_elim (λ invalid. absurd (never invalid)) (λ full. inr full) rest) fault

-- a fault that isn't want of numbers
pub no_full : (e : Error) → (e ≡ Full → ⊥) → IsFaultOrFull e → IsFaultOrInvalidInputIf ⊥ e
no_full e never fault = ⊎_elim (λ is. is) (λ full. absurd (never full)) fault

-- want of numbers is no fault, and no refusal
pub not_full : (e : Error) → IsFaultOrInvalidInputIf ⊥ e ⊎ IsInvalidPlace e → e ≡ Full → ⊥
not_full e fault is = ⊎_elim (λ f. subst (IsFaultOrInvalidInputIf ⊥) is f) (λ place. ⊎_elim (λ invalid. let wrong : InvalidData ≡ Full = sym invalid ∙ is in differ_data wrong) (λ input. let wrong : InvalidInput ≡ Full = sym input ∙ is in differ_input wrong) place) fault
  where
    differ_data : InvalidData ≡ Full → ⊥
    differ_data e = cc

    differ_input : InvalidInput ≡ Full → ⊥
    differ_input e = cc

-- a chain from a start is one from its first sector
pub linked_of : (fat : List ℕ) (start : ℕ) (ids : List ℕ) → Chain fat start ids → IsChainInTable fat ids
linked_of fat start [] chain = refl
linked_of fat start (x ∷ ids) chain = subst (λ n. Chain fat n (x ∷ ids)) (sym chain.0) chain

module _ {F : Type 0} {g : Ghosts F} {T : Type 0} {h : Ghosts T} (a : Allocator F g) (start : ℕ) (b : Allocator T h) (d m key : ℕ) (own bytes : ℕ → List ℕ) (ids : List ℕ) (can : CanPut a start b d m key own bytes ids) where
  pub source_has : (links : Links) → Chain (fat_of a) start (ids_of links) → links_version links ≡ version_of a → HasFatChain a links
  source_has links chain version = record { honest = can.honest; version = version; linked = linked_of (fat_of a) start (ids_of links) chain }

  pub target_has : (links : Links) → ids_of links ≡ [] → links_version links ≡ version_of a → HasDataChain b links
  target_has links empty version = record {
    has = record { honest = can.made.honest; version = version ∙ sym can.version; linked = subst (IsChainInTable (fat_of b)) (sym empty) refl };
    beside = subst (AreDisjoint (tables_of b)) (sym empty) tt;
  }

  pub chain_put : (c : Allocator T h) (from before links : Links) → Chain (fat_of a) start (ids_of from) → ids_of before ≡ [] → KeepsFileInvariants b c → has_failed_here c ≡ false
      → CopiesChain (content_of a from) b c before links → IsFileInProgress d m c (with_list key (ids_of links) own) (with_list key (joined (version_of a) (bytes_of a) ids) bytes)
  chain_put c from before links chain empty goes live copied =
      subst (λ l. IsFileInProgress d m c (with_list key (ids_of links) own) (with_list key (joined (version_of a) (bytes_of a) l) bytes)) (chain_unique (fat_of a) start (ids_of from) ids chain can.chain)
      (made_more d m b c before links own bytes key (content_of a from) can.made (can.none ∙ sym empty) goes live copied)
