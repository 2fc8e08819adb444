-- What `Links` show: the version, and the sectors in order.
use Rattle.std.specs.Prelude.{ℕ, ◌<◌, ◌≤◌, List, vec_capacity, vec_len}
use Rattle.cfb_medium.specs.declared.version.Version.{Version}
use Rattle.cfb_sectors.specs.Sectors.{greatest_regular}
use Rattle.cfb_chains.specs.declared.links.Links.{Links}

abbrev pub links_version : Links → Version
links_version it = it.version

abbrev pub ids_of : Links → List ℕ
ids_of it = it.sector_ids.items

-- one sector more can be taken in, without memory
pub record HasRoom (it : Links) : Type 0 where
  pub memory : vec_len it.sector_ids < vec_capacity it.sector_ids
  pub number : vec_len it.sector_ids ≤ greatest_regular
