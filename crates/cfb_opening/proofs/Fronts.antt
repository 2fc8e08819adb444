-- What the first 512 bytes of a file tell of its header.
use Rattle.std.proofs.Common.{◌≡◌, ℕ, ◌+◌, ◌-◌, ◌≤◌, min, List, length, take, drop, ap, sym, ◌∙◌, arith, length-take}
use Rattle.std.specs.Prelude.{slice_range}
use Rattle.std.specs.Int.{w16, w32, from_le_bytes}
use Rattle.std.proofs.lemmas.List.{drop-take, take_min, take-take}
use Rattle.cfb_medium.specs.Bytes.{Serves}
use Rattle.cfb_medium.specs.Numbers.{numbers, u16_at, u32_at}
use Rattle.cfb_medium.specs.declared.version.Version.{Version}
use Rattle.cfb_medium.proofs.Pieces.{range_is}
use Rattle.cfb_sectors.specs.Header.{HasFields, HeaderFields, IsHeader}

part_of_front : (b : List ℕ) (i k : ℕ) → i + k ≤ 512 → slice_range (take 512 b) i (i + k) ≡ slice_range b i (i + k)
part_of_front b i k inside =
    let sum : 512 ≡ i + (512 - i) = omega (arith, inside) in
    range_is (take 512 b) i k ∙ ap (λ n. take k (drop i (take n b))) sum ∙ ap (take k) (drop-take i (512 - i) b) ∙ take-take k (512 - i) (drop i b) (omega (arith, inside)) ∙ sym (range_is b i k)

word16 : (b : List ℕ) (i : ℕ) → i + 2 ≤ 512 → u16_at (take 512 b) i ≡ u16_at b i
word16 b i inside = ap (from_le_bytes w16) (part_of_front b i 2 inside)

word32 : (b : List ℕ) (i : ℕ) → i + 4 ≤ 512 → u32_at (take 512 b) i ≡ u32_at b i
word32 b i inside = ap (from_le_bytes w32) (part_of_front b i 4 inside)

pub header_of_front : (v : Version) (b : List ℕ) → IsHeader v (take 512 b) → IsHeader v b
header_of_front v b h = record {
  whole = let size = length-take 512 b in omega (arith, size, h.whole);
  signed = sym (take-take 8 512 b (omega arith)) ∙ h.signed;
  for_version = sym (word16 b 26 (omega arith)) ∙ h.for_version;
  low_byte_first = sym (word16 b 28 (omega arith)) ∙ h.low_byte_first;
  sectors = sym (word16 b 30 (omega arith)) ∙ h.sectors;
  mini_sectors = sym (word16 b 32 (omega arith)) ∙ h.mini_sectors;
  cutoff = sym (word32 b 56 (omega arith)) ∙ h.cutoff;
}

pub front_of_header : (v : Version) (b : List ℕ) → IsHeader v b → IsHeader v (take 512 b)
front_of_header v b h = record {
  whole = let size = length-take 512 b in omega (arith, size, h.whole);
  signed = take-take 8 512 b (omega arith) ∙ h.signed;
  for_version = word16 b 26 (omega arith) ∙ h.for_version;
  low_byte_first = word16 b 28 (omega arith) ∙ h.low_byte_first;
  sectors = word16 b 30 (omega arith) ∙ h.sectors;
  mini_sectors = word16 b 32 (omega arith) ∙ h.mini_sectors;
  cutoff = word32 b 56 (omega arith) ∙ h.cutoff;
}

pub fields_of_front : (h : HeaderFields) (b : List ℕ) → HasFields h (take 512 b) → HasFields h b
fields_of_front h b f = record {
  header = header_of_front h.version b f.header;
  directory_count = sym (word32 b 40 (omega arith)) ∙ f.directory_count;
  fat_count = sym (word32 b 44 (omega arith)) ∙ f.fat_count;
  directory = sym (word32 b 48 (omega arith)) ∙ f.directory;
  mini_fat = sym (word32 b 60 (omega arith)) ∙ f.mini_fat;
  mini_fat_count = sym (word32 b 64 (omega arith)) ∙ f.mini_fat_count;
  difat_start = sym (word32 b 68 (omega arith)) ∙ f.difat_start;
  difat_count = sym (word32 b 72 (omega arith)) ∙ f.difat_count;
  difat = sym (ap numbers (part_of_front b 76 436 (omega arith))) ∙ f.difat;
}

-- the front that a read served
pub served_front : (b old new : List ℕ) (count : ℕ) → length old ≡ 512 → Serves b 0 old new count → take count new ≡ take 512 b
served_front b old new count size served =
    let same : count ≡ min 512 (length b) = let small = served.smaller in omega (arith, small, size) in
    served.front ∙ ap (λ n. take n b) same ∙ take_min 512 b
