-- What a `Part` and a `Sector` show: which part of the file it is, the position there, and the layer behind it.
use Rattle.std.specs.Prelude.{◌≡◌, ℕ, ◌+◌, ◌-◌, List, length, min}
use Rattle.cfb_sectors.specs.declared.sector.Part.{Part}
use Rattle.cfb_sectors.specs.declared.sector.Sector.{Sector}

abbrev pub part_start : Part → ℕ
part_start it = it.start

abbrev pub part_len : Part → ℕ
part_len it = it.len

abbrev pub part_position : Part → ℕ
part_position it = it.position

module _ {H : Type 0} where
  abbrev pub holder_of : Sector H → H
  holder_of it = it.holder.now

  abbrev pub start_of : Sector H → ℕ
  start_of it = part_start it.part

  abbrev pub len_of : Sector H → ℕ
  len_of it = part_len it.part

  abbrev pub position_of : Sector H → ℕ
  position_of it = part_position it.part

  -- the place of its position in the file
  abbrev pub place_of : Sector H → ℕ
  place_of it = start_of it + position_of it

  -- so many bytes lie behind its position
  abbrev pub rest_of : Sector H → ℕ
  rest_of it = len_of it - position_of it

  -- as many of these bytes as fit in may be written there
  abbrev pub CanWriteInSector : (H → ℕ → ℕ → Type 0) → List ℕ → Sector H → Type 0
  CanWriteInSector may_write bytes it = may_write (holder_of it) (place_of it) (min (length bytes) (rest_of it))

  -- the same part, lent by the same layer
  pub record IsSame (old new : Sector H) : Type 0 where
    pub holder : new.holder.ghost_name ≡ old.holder.ghost_name
    pub start : start_of new ≡ start_of old
    pub len : len_of new ≡ len_of old
