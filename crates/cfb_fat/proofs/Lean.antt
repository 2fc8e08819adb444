-- Tables that become longer only where they are full are no larger than they need to be.
use Rattle.std.proofs.Common.{◌≡◌, ℕ, ◌+◌, ◌*◌, ◌/◌, ◌<◌, ◌≤◌, subst, sym, arith, ⊎_elim}
use Rattle.std.proofs.lemmas.Bool.Decides.{eqb_tells, leb_tells}
use Rattle.cfb_medium.specs.Versions.{sector_len}
use Rattle.cfb_medium.specs.declared.version.Version.{Version}
use Rattle.cfb_fat.specs.Orderly.{named_at_most, AreLean}

-- where the FAT of so many sectors is full, it gets one more, and with it at most one that names it
pub lean_longer : (v : Version) (count fat_count difat_count content later more : ℕ) → count ≡ fat_count * (sector_len v / 4) → later + difat_count ≡ count + 1 + more
    → ((d : ℕ) → d < more → named_at_most v d < fat_count + 1) → AreLean v count fat_count difat_count content → AreLean v later (fat_count + 1) more content
lean_longer v count fat_count difat_count content later more full sum named h = record {
  most = omega (arith, sum, h.most);
  fat = λ f d below fits. ⊎_elim
      (λ same. ⊎_elim
      (λ enough. subst (λ n. n * (sector_len v / 4) ≤ content + n + d) (sym same.1) (subst (λ n. n ≤ content + fat_count + d) full (omega (arith, enough.1, h.most))))
      (λ few. let less = h.difat d few.1 in absurd (omega (arith, less, fits, same.1)))
      (leb_tells difat_count d))
      (λ off. let differ = off.1 in h.fat f d (omega (arith, differ, below)) fits)
      (eqb_tells f fat_count);
  difat = named;
}

-- so it is with one sector more
pub lean_one : (v : Version) (count fat_count difat_count content later : ℕ) → later ≡ count + 1 → AreLean v count fat_count difat_count content → AreLean v later fat_count difat_count (content + 1)
lean_one v count fat_count difat_count content later is h = record {
  most = omega (arith, is, h.most);
  fat = λ f d below named. let enough = h.fat f d below named in omega (arith, enough);
  difat = h.difat;
}
