-- What there is memory for, call by call.
use Rattle.std.proofs.Common.{◌≡◌, ℕ, ◌+◌, ◌-◌, ◌*◌, ◌/◌, ◌≤◌, length, ap, sym, subst, ◌∙◌, arith}
use Rattle.std.specs.Prelude.{Result, Ok, Err, IfErr, IsErrAnd, OnOk, vec_capacity}
use Rattle.cfb_medium.specs.Versions.{sector_len}
use Rattle.cfb_medium.specs.declared.error.Error.{Error}
use Rattle.cfb_medium.specs.declared.medium.ReadMedium.{Ghosts}
use Rattle.cfb_medium.specs.declared.version.Version.{Version}
use Rattle.cfb_medium.specs.declared.version.Version.TheVariants.{V3, V4}
use Rattle.cfb_fat.specs.declared.allocator.Allocator.{Allocator}
use Rattle.cfb_fat.specs.Growing.{places_left, HasMemory}
use Rattle.cfb_fat.specs.Tables.{capacity_of, difat_sectors_of, fat_of, fat_sectors_of, runs_of, version_of}

-- where an error is passed on
pub exit_spends : {T : Type 0} (r : Result T Error) (e : Error) (X : Type 0) (Q : Error → Type 0) → IsErrAnd r (λ x. x ≡ e) → Q e → OnOk r X × IfErr r Q
exit_spends (Ok x) e X Q h q = absurd h
exit_spends (Err x) e X Q h q = (tt, subst Q (sym h) q)

-- behind a sector of the FAT that was added there are places for long
pub places_after : (v w : Version) (count len more later size : ℕ) → w ≡ v → len ≡ count * (sector_len v / 4) → later ≡ count + 1 → size ≡ len + more → more ≤ 2 → 6 - (later * (sector_len w / 4) - size) ≡ 0
places_after v w count len more later size version full one long few =
    subst (λ u. 6 - (later * (sector_len u / 4) - size) ≡ 0) (sym version) (both v full)
  where
    both : (v : Version) → len ≡ count * (sector_len v / 4) → 6 - (later * (sector_len v / 4) - size) ≡ 0
    both V3 full = omega (arith, full, one, long, few)
    both V4 full = omega (arith, full, one, long, few)

module _ {F : Type 0} {g : Ghosts F} where
  pub less_memory : (it : Allocator F g) (n : ℕ) → HasMemory it 0 (n + 1) → HasMemory it 0 n
  less_memory it n h = record { fat = let p = h.fat in omega (arith, p); fat_sectors = let p = h.fat_sectors in omega (arith, p); difat_sectors = let p = h.difat_sectors in omega (arith, p) }

  -- and with fewer entries
  pub fewer_entries : (it : Allocator F g) (more entries n : ℕ) → entries ≤ more → HasMemory it more n → HasMemory it entries n
  fewer_entries it more entries n less h = record { fat = let p = h.fat in omega (arith, p, less); fat_sectors = h.fat_sectors; difat_sectors = h.difat_sectors }

  -- as many places are left for as many sectors of the FAT and as many entries
  pub left_same : (a b : Allocator F g) → version_of b ≡ version_of a → fat_sectors_of b ≡ fat_sectors_of a → length (fat_of b) ≡ length (fat_of a) → places_left b ≡ places_left a
  left_same a b version sectors size =
      ap (λ v. length (fat_sectors_of b) * (sector_len v / 4) - length (fat_of b)) version
      ∙ ap (λ l. length l * (sector_len (version_of a) / 4) - length (fat_of b)) sectors
      ∙ ap (λ n. length (fat_sectors_of a) * (sector_len (version_of a) / 4) - n) size

  -- so many entries were set
  pub memory_used : (a b : Allocator F g) (had entries set n : ℕ) → version_of b ≡ version_of a → fat_sectors_of b ≡ fat_sectors_of a → difat_sectors_of b ≡ difat_sectors_of a
      → vec_capacity a.fat_sectors ≤ vec_capacity b.fat_sectors → vec_capacity a.difat_sectors ≤ vec_capacity b.difat_sectors → length (fat_of b) ≡ length (fat_of a)
      → capacity_of a ≤ capacity_of b → runs_of b ≤ runs_of a + 2 * set → had ≡ entries + set → HasMemory a had n → HasMemory b entries n
  memory_used a b had entries set n version sectors difat more_fs more_ds size capacity runs is h =
      let left = left_same a b version sectors size in record {
        fat = let p = h.fat in omega (arith, p, left, capacity, runs, is);
        fat_sectors = let p = h.fat_sectors in let same = ap length sectors in omega (arith, p, same, more_fs);
        difat_sectors = let p = h.difat_sectors in let same = ap length difat in omega (arith, p, same, more_ds);
      }
