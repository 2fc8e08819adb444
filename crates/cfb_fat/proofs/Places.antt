-- Places that the FAT's sectors have for entries, against the entries that it has.
use Rattle.std.proofs.Common.{◌≡◌, ℕ, ◌+◌, ◌*◌, ◌/◌, ◌<◌, ◌≤◌, ◌^◌, true, sym, subst, arith}
use Rattle.std.specs.Prelude.{Result, Ok, Err, IsErrAnd}
use Rattle.cfb_medium.specs.Calls.{Reaches, IsFaultOrInvalidInputIf}
use Rattle.cfb_medium.specs.Versions.{sector_len}
use Rattle.cfb_medium.specs.declared.error.Error.{Error}
use Rattle.cfb_medium.specs.declared.medium.ReadMedium.{Ghosts}
use Rattle.cfb_medium.specs.declared.version.Version.{Version}
use Rattle.cfb_medium.specs.declared.version.Version.TheVariants.{V3, V4}
use Rattle.cfb_sectors.specs.Held as held
use Rattle.cfb_sectors.specs.Sectors.{greatest_regular, sector_start}
use Rattle.cfb_sectors.specs.declared.sectors.Sectors.{Sectors}
use Rattle.cfb_fat.specs.Calls.{WriteErrorContract}
use Rattle.cfb_fat.specs.Growing.{HasMemory}
use Rattle.cfb_fat.specs.declared.allocator.Allocator.{Allocator}
use Rattle.cfb_fat.proofs.EntryChanges.{cause_since}

-- no place is left
pub none_left : (v : Version) (size count len : ℕ) → len ≡ sector_len v → count ≤ size / (len / 4) → size ≤ count * (sector_len v / 4) → size ≡ count * (sector_len v / 4)
none_left V3 size count len is most whole = omega (arith, is, most, whole, full size count (subst (λ l. count ≤ size / (l / 4)) is most))
  where
    full : (size count : ℕ) → count ≤ size / (512 / 4) → count * (512 / 4) ≤ size
    full size count most = omega (arith, most)
none_left V4 size count len is most whole = omega (arith, is, most, whole, full size count (subst (λ l. count ≤ size / (l / 4)) is most))
  where
    full : (size count : ℕ) → count ≤ size / (4096 / 4) → count * (4096 / 4) ≤ size
    full size count most = omega (arith, most)

-- one is
pub some_left : (v : Version) (size count len : ℕ) → len ≡ sector_len v → size / (len / 4) < count → size < count * (sector_len v / 4)
some_left V3 size count len is less = some size count (subst (λ l. size / (l / 4) < count) is less)
  where
    some : (size count : ℕ) → size / (512 / 4) < count → size < count * (512 / 4)
    some size count less = omega (arith, less)
some_left V4 size count len is less = some size count (subst (λ l. size / (l / 4) < count) is less)
  where
    some : (size count : ℕ) → size / (4096 / 4) < count → size < count * (4096 / 4)
    some size count less = omega (arith, less)

-- a table that is full ends long before the numbers do
pub few_full : (v : Version) (size count : ℕ) → size ≡ count * (sector_len v / 4) → size ≤ greatest_regular → size + 2 ≤ greatest_regular
few_full V3 size count full few = omega (arith, full, few)
few_full V4 size count full few = omega (arith, full, few)

-- the sectors end before place and length overflow
pub few_bytes : (v : Version) (count place size : ℕ) → place + size ≤ sector_start v count → count ≤ greatest_regular + 1 → place + size < 2 ^ 63
few_bytes V3 count place size ends few = omega (arith, ends, few)
few_bytes V4 count place size ends few = omega (arith, ends, few)

module _ {F : Type 0} {g : Ghosts F} where
  -- an error that is passed on after a change, by writes alone
  pub passed_attempts : {T : Type 0} (r : Result T Error) (e : Error) (a m b : Sectors F g) → IsErrAnd r (λ x. x ≡ e) → Reaches g.continues (held.medium_of a) (held.medium_of m) → held.has_failed_here m ≡ held.has_failed_here a
      → held.has_failed_here b ≡ true → held.IsJustifiedByMedium m b e → IsFaultOrInvalidInputIf ⊥ e → WriteErrorContract r a b
  passed_attempts (Ok x) e a m b h leads same failed cause fault = absurd h
  passed_attempts (Err x) e a m b h leads same failed cause fault = record {
    live = tt;
    err = failed;
    cause = subst (held.IsJustifiedByMedium a b) (sym h) (cause_since a m b e leads same cause);
    fault = subst (IsFaultOrInvalidInputIf ⊥) (sym h) fault;
  }

  -- what there is memory for, with one sector less
  pub memory_for_one : (it : Allocator F g) (n : ℕ) → HasMemory it 0 (n + 1) → HasMemory it 1 n
  memory_for_one it n h = record { fat = let p = h.fat in omega (arith, p); fat_sectors = let p = h.fat_sectors in omega (arith, p); difat_sectors = let p = h.difat_sectors in omega (arith, p) }
