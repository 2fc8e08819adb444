-- What `MiniLinks` show.
use Rattle.std.specs.Prelude.{ℕ, ◌<◌, ◌≤◌, List, vec_capacity, vec_len}
use Rattle.cfb_sectors.specs.Sectors.{greatest_regular}
use Rattle.cfb_mini.specs.declared.links.MiniLinks.{MiniLinks}

-- the mini sectors, in the order of their chain
abbrev pub minis_of : MiniLinks → List ℕ
minis_of it = it.mini_sector_ids.items

-- one mini sector more can be taken in, without memory
pub record MiniHasRoom (it : MiniLinks) : Type 0 where
  pub memory : vec_len it.mini_sector_ids < vec_capacity it.mini_sector_ids
  pub number : vec_len it.mini_sector_ids ≤ greatest_regular
