-- What calls that change a mini chain say of it ([MS-CFB] 2.4).
use Rattle.std.specs.Prelude.{◌≡◌, ℕ, ◌-◌, ◌%◌, ◌⊎◌, false, true, min, List, length, IsTrue, OnErr, Result}
use Rattle.cfb_fat.specs.Tables.{has_failed_here, orderly_of}
use Rattle.cfb_medium.specs.declared.error.Error.{Error}
use Rattle.cfb_medium.specs.declared.medium.ReadMedium.{Ghosts}
use Rattle.cfb_mini.specs.Views.{OnlyReadsMini}
use Rattle.cfb_mini_chains.specs.MiniChainViews.{allocator_under, mini_of, mini_sectors_of, position_of, HasOwnedMiniChain}
use Rattle.cfb_mini_chains.specs.declared.chain.MiniChain.{MiniChain}

-- how many bytes lie behind a length in the mini sector in which it ends
abbrev pub mini_tail_in : ℕ → ℕ
mini_tail_in len = (64 - len % 64) % 64

module _ {F : Type 0} {g : Ghosts F} where
  -- of these bytes a write takes so many: what the position's mini sector takes
  abbrev pub taken_count : List ℕ → MiniChain F g → ℕ
  taken_count bytes it = min (length bytes) (64 - position_of it % 64)

  -- what an error leaves: the position, and if it has not failed, the mini sectors, and all else
  pub record Refuses {T : Type 0} (result : Result T Error) (old new : MiniChain F g) : Type 0 where
    pub position : OnErr result (position_of new ≡ position_of old)
    pub sectors : OnErr result (has_failed_here (allocator_under new) ≡ false → mini_sectors_of new ≡ mini_sectors_of old)
    pub rests : OnErr result ((has_failed_here (allocator_under new) ≡ true) ⊎ OnlyReadsMini (mini_of old) (mini_of new))

  -- the mini FAT hasn't the chain, or sectors have two owners
  abbrev pub LacksMiniChainOrOwner : MiniChain F g → Type 0
  LacksMiniChainOrOwner it = (own : ℕ → List ℕ) → HasOwnedMiniChain it own → ⊥

  -- so it is, or the FAT's tables can't be changed
  abbrev pub LacksUsableMiniChain : MiniChain F g → Type 0
  LacksUsableMiniChain it = IsTrue (orderly_of (allocator_under it)) → LacksMiniChainOrOwner it
