-- What a change that spares the header's front leaves of it.
use Rattle.std.proofs.Common.{◌≡◌, ℕ, ◌+◌, ◌-◌, ◌≤◌, ◌⊎◌, inl, inr, List, length, take, drop, sym, ap, ◌∙◌, arith}
use Rattle.std.specs.Int.{from_le_bytes, w16, w32}
use Rattle.cfb_medium.specs.declared.version.Version.{Version}
use Rattle.cfb_medium.specs.Numbers.{u16_at, u32_at}
use Rattle.cfb_sectors.specs.Header.{IsHeader}
use Rattle.cfb_sectors.specs.Sectors.{filled_part}
use Rattle.cfb_fat.proofs.Words.{filled_is}

-- so many bytes from a place on are those that they were, up to this place
abbrev pub KeepsFront : ℕ → List ℕ → List ℕ → Type 0
KeepsFront most old new = (place count : ℕ) → place + count ≤ most → (place + count ≤ 40) ⊎ (48 ≤ place) → filled_part new place count ≡ filled_part old place count

module _ (most : ℕ) (inside : most ≤ 68) (old new : List ℕ) (whole : 512 ≤ length old) (longer : length old ≤ length new) (keeps : KeepsFront most old new) where
  part_same : (place count : ℕ) → place + count ≤ most → (place + count ≤ 40) ⊎ (48 ≤ place) → take count (drop place new) ≡ take count (drop place old)
  part_same place count front beside = sym (filled_is new place count (omega (arith, whole, longer, front, inside))) ∙ keeps place count front beside ∙ filled_is old place count (omega (arith, whole, front, inside))

  pub u32_same : (place : ℕ) → place + 4 ≤ most → (place + 4 ≤ 40) ⊎ (48 ≤ place) → u32_at new place ≡ u32_at old place
  u32_same place front beside =
      let four : place + 4 - place ≡ 4 = omega arith in
      ap (from_le_bytes w32) (ap (λ n. take n (drop place new)) four ∙ part_same place 4 front beside ∙ sym (ap (λ n. take n (drop place old)) four))

  u16_same : (place : ℕ) → place + 2 ≤ most → place + 2 ≤ 40 → u16_at new place ≡ u16_at old place
  u16_same place front early =
      let two : place + 2 - place ≡ 2 = omega arith in
      ap (from_le_bytes w16) (ap (λ n. take n (drop place new)) two ∙ part_same place 2 front (inl early) ∙ sym (ap (λ n. take n (drop place old)) two))

  pub header_stays : 60 ≤ most → (v : Version) → IsHeader v old → IsHeader v new
  header_stays enough v h = record {
    whole = omega (arith, whole, longer);
    signed = part_same 0 8 (omega (arith, enough)) (inl (omega arith)) ∙ h.signed;
    for_version = u16_same 26 (omega (arith, enough)) (omega arith) ∙ h.for_version;
    low_byte_first = u16_same 28 (omega (arith, enough)) (omega arith) ∙ h.low_byte_first;
    sectors = u16_same 30 (omega (arith, enough)) (omega arith) ∙ h.sectors;
    mini_sectors = u16_same 32 (omega (arith, enough)) (omega arith) ∙ h.mini_sectors;
    cutoff = u32_same 56 (omega (arith, enough)) (inr (omega arith)) ∙ h.cutoff;
  }

pub front_then : (most : ℕ) (a b c : List ℕ) → KeepsFront most a b → KeepsFront most b c → KeepsFront most a c
front_then most a b c h k place count front beside = k place count front beside ∙ h place count front beside
