-- The directory of a new file is read.
use Rattle.std.proofs.Common.{◌≡◌, ℕ, ◌+◌, ◌-◌, ◌*◌, ◌/◌, ◌<◌, ◌≤◌, ◌^◌, List, [], ◌∷◌, ◌++◌, length, take, drop, map, replicate, zero, suc, refl, ap, sym, ◌∙◌, arith, length-append, append_assoc}
use Rattle.std.specs.Prelude.{codes}
use Rattle.std.specs.Char.{IsScalar}
use Rattle.std.specs.Char.Utf16.{utf16_chars}
use Rattle.std.specs.List.{flat_map, AllByRecursion}
use Rattle.std.proofs.Math.Seq.{take-append_seam, drop-append_seam}
use Rattle.std.proofs.lemmas.List.{append-nil, length-replicate}
use Rattle.cfb_medium.specs.declared.version.Version.{Version}
use Rattle.cfb_medium.specs.Numbers.{pieces, all_pieces}
use Rattle.cfb_medium.specs.Versions.{dir_entries_per_sector, stream_len_mask}
use Rattle.cfb_sectors.specs.Copies.{copies, unused_entry}
use Rattle.cfb_tree.specs.Directory.{FitsEntry, HasName, entry_of, entries_of, entry_bytes}
use Rattle.cfb_tree.specs.Entries.{empty_root}
use Rattle.cfb_tree.specs.Names.{name_units}
use Rattle.cfb_tree.proofs.EntryRead.{length-entry_bytes, entry_again}
use Rattle.cfb_tree.proofs.NamesRead.{all_append, units_fit, units_spell}
use Rattle.cfb_creating.specs.NewFile.{new_directory}

pub all_replicate : (P : ℕ → Type 0) (n x : ℕ) → P x → AllByRecursion P (replicate n x)
all_replicate P zero x h = tt
all_replicate P (suc n) x h = (h, all_replicate P n x h)

-- the root's name
abbrev name : List ℕ
name = codes "Root Entry"

name_scalar : AllByRecursion IsScalar name
name_scalar = (refl, (refl, (refl, (refl, (refl, (refl, (refl, (refl, (refl, (refl, tt))))))))))

named : (units : List ℕ) → AllByRecursion (λ u. u < 2 ^ 16) units → length units ≡ 10
    → AllByRecursion (λ u. u < 2 ^ 16) (units ++ replicate (32 - length units) 0) × (length (units ++ replicate (32 - length units) 0) ≡ 32)
named units small ten = (
  all_append (λ u. u < 2 ^ 16) units (replicate (32 - length units) 0) small (all_replicate (λ u. u < 2 ^ 16) (32 - length units) 0 (omega arith)),
  rw (length-append units (replicate (32 - length units) 0), length-replicate {A = ℕ} (32 - length units) 0) (omega (arith, ten)),
)

ten_units : length (name_units name) ≡ 10
ten_units = refl

size_fits : (v : Version) → 0 ≤ stream_len_mask v
size_fits v = omega arith

pub root_fits : (v : Version) → FitsEntry v empty_root
root_fits v =
    let field = named (name_units name) (units_fit name name_scalar) ten_units in
    record {
      name_units = field.0;
      name_units_len = field.1;
      name_len = omega (arith, ten_units);
      kind = omega arith;
      color = omega arith;
      left = omega arith;
      right = omega arith;
      child = omega arith;
      clsid_len = refl;
      state_bits = omega arith;
      created = omega arith;
      modified = omega arith;
      start = omega arith;
      size = size_fits v;
    }

spelled : (units : List ℕ) → length units ≡ 10 → take ((2 * length units + 2) / 2 - 1) (units ++ replicate (32 - length units) 0) ≡ units
spelled units ten =
    let half : (2 * length units + 2) / 2 - 1 ≡ length units = omega (arith, ten) in
    ap (λ n. take n (units ++ replicate (32 - length units) 0)) half ∙ take-append_seam units (replicate (32 - length units) 0)

pub root_named : HasName empty_root (codes "Root Entry")
root_named = record {
  even = refl;
  fits = omega (arith, ten_units);
  spelled = ap utf16_chars (spelled (name_units name) ten_units) ∙ units_spell name name_scalar;
}

-- pieces of one size, joined, are cut into these pieces again
pieces_again : (size : ℕ) (parts : List (List ℕ)) → AllByRecursion (λ part. length part ≡ size) parts
    → pieces size (length parts) (flat_map (λ part. part) parts) ≡ parts
unfolding pieces
pieces_again size [] sizes = refl
pieces_again size (part ∷ parts) sizes =
    let rest = flat_map (λ part. part) parts in
    ap (λ n. take n (part ++ rest) ∷ pieces size (length parts) (drop n (part ++ rest))) (sym sizes.0)
    ∙ ap (λ xs. xs ∷ pieces size (length parts) (drop (length part) (part ++ rest))) (take-append_seam part rest)
    ∙ ap (λ xs. part ∷ pieces size (length parts) xs) (drop-append_seam part rest)
    ∙ ap (λ xs. part ∷ xs) (pieces_again size parts sizes.1)

length-joined : (size : ℕ) (parts : List (List ℕ)) → AllByRecursion (λ part. length part ≡ size) parts → length (flat_map (λ part. part) parts) ≡ length parts * size
length-joined size [] sizes = omega arith
length-joined size (part ∷ parts) sizes = length-append part (flat_map (λ part. part) parts) ∙ (let tail = length-joined size parts sizes.1 in omega (arith, sizes.0))

entries_again : (v : Version) (parts : List (List ℕ)) → AllByRecursion (λ part. length part ≡ 128) parts → entries_of v (flat_map (λ part. part) parts) ≡ map (entry_of v) parts
unfolding entries_of all_pieces
entries_again v parts sizes =
    let count : length (flat_map (λ part. part) parts) / 128 ≡ length parts = let long = length-joined 128 parts sizes in omega arith in
    ap (λ n. map (entry_of v) (pieces 128 n (flat_map (λ part. part) parts))) count ∙ ap (λ ps. map (entry_of v) ps) (pieces_again 128 parts sizes)

-- copies of one piece, as a list of them
copies_joined : (n : ℕ) → copies n unused_entry ≡ flat_map (λ part. part) (replicate n unused_entry)
copies_joined zero = refl
copies_joined (suc n) = ap (λ xs. unused_entry ++ xs) (copies_joined n)

copy_sizes : (n : ℕ) → AllByRecursion (λ part. length part ≡ 128) (replicate n unused_entry)
copy_sizes zero = tt
copy_sizes (suc n) = (refl, copy_sizes n)

pub length-copies : (n : ℕ) → length (copies n unused_entry) ≡ n * 128
length-copies n = ap length (copies_joined n) ∙ length-joined 128 (replicate n unused_entry) (copy_sizes n) ∙ ap (λ k. k * 128) (length-replicate {A = List ℕ} n unused_entry)

-- the root, and behind it entries in no use
pub directory_read : (v : Version) → entries_of v (new_directory v) ≡ empty_root ∷ map (entry_of v) (replicate (dir_entries_per_sector v - 1) unused_entry)
unfolding new_directory
directory_read v =
    let count = dir_entries_per_sector v - 1 in
    ap (λ xs. entries_of v (entry_bytes empty_root ++ xs)) (copies_joined count)
    ∙ entries_again v (entry_bytes empty_root ∷ replicate count unused_entry) (length-entry_bytes v empty_root (root_fits v), copy_sizes count)
    ∙ ap (λ e. e ∷ map (entry_of v) (replicate count unused_entry)) (entry_again v empty_root (root_fits v))

-- one copy more
copies_behind : (n : ℕ) (piece : List ℕ) → copies (suc n) piece ≡ copies n piece ++ piece
copies_behind zero piece = append-nil piece
copies_behind (suc n) piece = ap (λ xs. piece ++ xs) (copies_behind n piece) ∙ sym (append_assoc piece (copies n piece) piece)

pub copies_more : (n : ℕ) (first before now piece : List ℕ) → before ≡ first ++ copies n piece → now ≡ before ++ piece → now ≡ first ++ copies (n + 1) piece
copies_more n first before now piece was is =
    let more : suc n ≡ n + 1 = omega arith in
    is ∙ ap (λ xs. xs ++ piece) was ∙ append_assoc first (copies n piece) piece ∙ ap (λ xs. first ++ xs) (sym (copies_behind n piece)) ∙ ap (λ k. first ++ copies k piece) more
