-- A directory's entries, of which one is written over or unused ones are appended.
use Rattle.std.proofs.Common.{◌≡◌, ℕ, ◌*◌, ◌<◌, List, ◌++◌, length, replicate, set, refl, ap, sym, ◌∙◌, arith, lit<, zero, suc, ◌^◌}
use Rattle.std.specs.List.{AllByRecursion}
use Rattle.cfb_medium.specs.Bytes.{overwritten}
use Rattle.cfb_medium.specs.declared.version.Version.{Version}
use Rattle.cfb_sectors.specs.Copies.{copies, unused_entry}
use Rattle.cfb_tree.specs.Directory.{Entry, FitsEntry, entries_of, entry_bytes, entry_of}
use Rattle.cfb_tree.specs.Entries.{empty_entry}
use Rattle.cfb_tree.proofs.EntryRead.{entry_again, length-entry_bytes}
use Rattle.cfb_directory.proofs.EntryPlaces.{each, each_copy, length-each, more_behind, one_written}

pub length-entries : (v : Version) (count : ℕ) (bytes : List ℕ) → length bytes ≡ count * 128 → length (entries_of v bytes) ≡ count
unfolding entries_of each
length-entries v count bytes long = length-each (entry_of v) count bytes long

pub entry_written : (v : Version) (count id at : ℕ) (old xs : List ℕ) (es : List Entry) (e : Entry) → length old ≡ count * 128 → es ≡ entries_of v old → id < length es → FitsEntry v e → xs ≡ entry_bytes e → at ≡ 128 * id → entries_of v (overwritten old at xs) ≡ set es id e
unfolding entries_of each
entry_written v count id at old xs es e long held below fits is place =
    let size = ap length held ∙ length-entries v count old long in
    one_written (entry_of v) count id at old xs long (omega (arith, size, below)) (ap length is ∙ length-entry_bytes v e fits) (omega (arith, place))
    ∙ ap (λ l. set l id (entry_of v xs)) (sym held)
    ∙ ap (set es id) (ap (entry_of v) is ∙ entry_again v e fits)

pub entries_behind : (v : Version) (a b : ℕ) (old more : List ℕ) → length old ≡ a * 128 → length more ≡ b * 128 → entries_of v (old ++ more) ≡ entries_of v old ++ entries_of v more
unfolding entries_of each
entries_behind v a b old more first second = more_behind (entry_of v) a b old more first second

small_zeros : (n : ℕ) → AllByRecursion (λ u. u < 2 ^ 16) (replicate n 0)
small_zeros zero = tt
small_zeros (suc n) = (lit< tt, small_zeros n)

empty_fits : (v : Version) → FitsEntry v empty_entry
empty_fits v = record {
  name_units = small_zeros 32;
  name_units_len = refl;
  name_len = lit< tt;
  kind = lit< tt;
  color = lit< tt;
  left = lit< tt;
  right = lit< tt;
  child = lit< tt;
  clsid_len = refl;
  state_bits = lit< tt;
  created = lit< tt;
  modified = lit< tt;
  start = lit< tt;
  size = omega arith;
}

-- what an entry in no use is read as
pub unused_read : (v : Version) → entry_of v unused_entry ≡ empty_entry
unfolding entry_bytes
unused_read v = entry_again v empty_entry (empty_fits v)

pub unused_entries : (v : Version) (n : ℕ) → entries_of v (copies n unused_entry) ≡ replicate n empty_entry
unfolding entries_of each
unused_entries v n = each_copy (entry_of v) n unused_entry refl ∙ ap (replicate n) (unused_read v)
