-- Who owns which sectors of a table: the FAT's sectors, or the mini FAT's mini sectors.
use Rattle.std.specs.Prelude.{◌≡◌, ℕ, suc, List, [], slice_index_or}
use Rattle.cfb_sectors.specs.Sectors.{end_of_chain}

-- the directory's number as an owner
abbrev pub directory_owner : ℕ
directory_owner = 0

-- the mini FAT's
abbrev pub mini_fat_owner : ℕ
mini_fat_owner = 1

-- the mini stream's
abbrev pub mini_stream_owner : ℕ
mini_stream_owner = 2

-- that of the stream of entry `id`
abbrev pub stream_owner : ℕ → ℕ
stream_owner id = suc (suc (suc id))

-- the sectors and the mini sectors of each owner, in the order of its chain
pub record Owners : Type 0 where
  pub sectors : ℕ → List ℕ
  pub minis : ℕ → List ℕ

-- where the chain of these starts
abbrev pub first_of : List ℕ → ℕ
first_of ids = slice_index_or ids 0 end_of_chain

-- the owner has neither sectors nor mini sectors
abbrev pub OwnsNothing : Owners → ℕ → Type 0
OwnsNothing who k = (who.sectors k ≡ []) × (who.minis k ≡ [])
