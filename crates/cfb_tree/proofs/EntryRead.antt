-- A directory entry that was written is read.
use Rattle.std.proofs.Common.{◌≡◌, ℕ, ◌+◌, ◌*◌, ◌<◌, ◌^◌, List, [], ◌∷◌, ◌++◌, length, take, drop, map, refl, ap, sym, ◌∙◌, arith, append_assoc, length-append}
use Rattle.std.specs.Prelude.{slice_range, slice_index}
use Rattle.std.specs.List.{flat_map, range_with_len, AllByRecursion}
use Rattle.std.specs.Int.{w8, w16, w32, w64, from_le_bytes, to_le_bytes}
use Rattle.std.proofs.lemmas.Nat.{from_le_bytes-to_le_bytes_2, from_le_bytes-to_le_bytes_4, from_le_bytes-to_le_bytes_8}
use Rattle.std.proofs.Math.Seq.{get_or-append_seam, drop-append-add, drop-append_seam}
use Rattle.cfb_medium.specs.declared.version.Version.{Version}
use Rattle.cfb_medium.specs.declared.version.Version.TheVariants.{V3, V4}
use Rattle.cfb_medium.specs.Numbers.{u8_at, u16_at, u32_at, u64_at}
use Rattle.cfb_medium.proofs.Pieces.{range_is}
use Rattle.cfb_tree.specs.Directory.{Entry, FitsEntry, clsid_of, size_of, name_units_of, entry_of, entry_bytes}

-- numbers of two bytes that were written are read one by one
units_read : (us front rest : List ℕ) (k : ℕ) (bytes : List ℕ) → AllByRecursion (λ u. u < 2 ^ 16) us → length front ≡ 2 * k
    → bytes ≡ front ++ (flat_map (to_le_bytes w16) us ++ rest) → map (λ i. u16_at bytes (2 * i)) (range_with_len k (length us)) ≡ us
units_read [] front rest k bytes small long is = refl
units_read (u ∷ us) front rest k bytes small long is =
    let at : drop (2 * k) bytes ≡ flat_map (to_le_bytes w16) (u ∷ us) ++ rest =
    ap (λ n. drop n bytes) (sym long) ∙ ap (λ xs. drop (length front) xs) is ∙ drop-append_seam front (flat_map (to_le_bytes w16) (u ∷ us) ++ rest) in
    let here : u16_at bytes (2 * k) ≡ u =
    ap (from_le_bytes w16) (range_is bytes (2 * k) 2 ∙ ap (λ xs. take 2 xs) at) ∙ from_le_bytes-to_le_bytes_2 u small.0 in
    let moved : bytes ≡ (front ++ to_le_bytes w16 u) ++ (flat_map (to_le_bytes w16) us ++ rest) =
    is ∙ sym (append_assoc front (to_le_bytes w16 u) (flat_map (to_le_bytes w16) us ++ rest)) in
    let further : length (front ++ to_le_bytes w16 u) ≡ 2 * (k + 1) = simp length-append (omega arith) in
    let later : map (λ i. u16_at bytes (2 * i)) (range_with_len (k + 1) (length us)) ≡ us =
    units_read us (front ++ to_le_bytes w16 u) rest (k + 1) bytes small.1 further moved in
    ap (λ x. x ∷ map (λ i. u16_at bytes (2 * i)) (range_with_len (k + 1) (length us))) here ∙ ap (λ xs. u ∷ xs) later

pub length-units : (us : List ℕ) → length (flat_map (to_le_bytes w16) us) ≡ 2 * length us
length-units [] = refl
length-units (u ∷ us) = let tail = length-units us in omega arith

-- the bytes behind a name's field
rest_bytes : Entry → List ℕ
rest_bytes e =
    (to_le_bytes w16 e.name_len ++ e.kind ∷ e.color ∷ to_le_bytes w32 e.left ++ to_le_bytes w32 e.right ++ to_le_bytes w32 e.child)
    ++ (clsid_of e.facts.clsid
    ++ (to_le_bytes w32 e.facts.state_bits ++ to_le_bytes w64 e.facts.created ++ to_le_bytes w64 e.facts.modified
    ++ to_le_bytes w32 e.start ++ to_le_bytes w64 e.size))

split : (e : Entry) → entry_bytes e ≡ flat_map (to_le_bytes w16) e.name_units ++ rest_bytes e
unfolding entry_bytes rest_bytes
split e = simp append_assoc

pub length-entry_bytes : (v : Version) (e : Entry) → FitsEntry v e → length (entry_bytes e) ≡ 128
unfolding rest_bytes
length-entry_bytes v e fits =
    ap length (split e) ∙ length-append (flat_map (to_le_bytes w16) e.name_units) (rest_bytes e)
    ∙ (let long = length-units e.name_units in omega (arith, fits.name_units_len))

-- indices read a list whole
indices : (xs front : List ℕ) (all : List ℕ) (k : ℕ) → all ≡ front ++ xs → length front ≡ k → map (slice_index all) (range_with_len k (length xs)) ≡ xs
indices [] front all k is long = refl
indices (x ∷ xs) front all k is long =
    let here : slice_index all k ≡ x =
    ap (λ n. slice_index all n) (sym long) ∙ ap (λ ys. slice_index ys (length front)) is ∙ get_or-append_seam front x xs 0 in
    let later : map (slice_index all) (range_with_len (k + 1) (length xs)) ≡ xs =
    indices xs (front ++ x ∷ []) all (k + 1) (is ∙ sym (append_assoc front (x ∷ []) xs)) (simp length-append (omega arith)) in
    ap (λ y. y ∷ map (slice_index all) (range_with_len (k + 1) (length xs))) here ∙ ap (λ ys. x ∷ ys) later

clsid_again : (bytes : List ℕ) → length bytes ≡ 16 → clsid_of (clsid_of bytes) ≡ bytes
clsid_again bytes long = ap (λ n. map (slice_index bytes) (range_with_len 0 n)) (sym long) ∙ indices bytes [] bytes 0 refl refl

module _ (v : Version) (e : Entry) (fits : FitsEntry v e) where
  front : List ℕ
  front = flat_map (to_le_bytes w16) e.name_units

  long : length front ≡ 64
  unfolding front
  long = let each = length-units e.name_units in omega (arith, fits.name_units_len)

  -- a part behind the name's field is that part of the rest
  behind : (k n : ℕ) → take n (drop (64 + k) (entry_bytes e)) ≡ take n (drop k (rest_bytes e))
  unfolding front
  behind k n =
      ap (λ xs. take n (drop (64 + k) xs)) (split e) ∙ ap (λ m. take n (drop (m + k) (front ++ rest_bytes e))) (sym long)
      ∙ ap (λ xs. take n xs) (drop-append-add front (rest_bytes e) k)

  again_name_units : name_units_of (entry_bytes e) ≡ e.name_units
  unfolding name_units_of
  again_name_units =
      ap (λ n. map (λ i. u16_at (entry_bytes e) (2 * i)) (range_with_len 0 n)) (sym fits.name_units_len)
      ∙ units_read e.name_units [] (rest_bytes e) 0 (entry_bytes e) fits.name_units refl (split e)

  again_name_len : u16_at (entry_bytes e) 64 ≡ e.name_len
  unfolding rest_bytes
  again_name_len = ap (from_le_bytes w16) (behind 0 2) ∙ from_le_bytes-to_le_bytes_2 e.name_len fits.name_len

  again_kind : u8_at (entry_bytes e) 66 ≡ e.kind
  unfolding rest_bytes
  again_kind = ap (from_le_bytes w8) (behind 2 1)

  again_color : u8_at (entry_bytes e) 67 ≡ e.color
  unfolding rest_bytes
  again_color = ap (from_le_bytes w8) (behind 3 1)

  again_left : u32_at (entry_bytes e) 68 ≡ e.left
  unfolding rest_bytes
  again_left = ap (from_le_bytes w32) (behind 4 4) ∙ from_le_bytes-to_le_bytes_4 e.left fits.left

  again_right : u32_at (entry_bytes e) 72 ≡ e.right
  unfolding rest_bytes
  again_right = ap (from_le_bytes w32) (behind 8 4) ∙ from_le_bytes-to_le_bytes_4 e.right fits.right

  again_child : u32_at (entry_bytes e) 76 ≡ e.child
  unfolding rest_bytes
  again_child = ap (from_le_bytes w32) (behind 12 4) ∙ from_le_bytes-to_le_bytes_4 e.child fits.child

  again_clsid : clsid_of (slice_range (entry_bytes e) 80 96) ≡ e.facts.clsid
  unfolding rest_bytes
  again_clsid = ap clsid_of (behind 16 16) ∙ clsid_again e.facts.clsid fits.clsid_len

  again_state_bits : u32_at (entry_bytes e) 96 ≡ e.facts.state_bits
  unfolding rest_bytes
  again_state_bits = ap (from_le_bytes w32) (behind 32 4) ∙ from_le_bytes-to_le_bytes_4 e.facts.state_bits fits.state_bits

  again_created : u64_at (entry_bytes e) 100 ≡ e.facts.created
  unfolding rest_bytes
  again_created = ap (from_le_bytes w64) (behind 36 8) ∙ from_le_bytes-to_le_bytes_8 e.facts.created fits.created

  again_modified : u64_at (entry_bytes e) 108 ≡ e.facts.modified
  unfolding rest_bytes
  again_modified = ap (from_le_bytes w64) (behind 44 8) ∙ from_le_bytes-to_le_bytes_8 e.facts.modified fits.modified

  again_start : u32_at (entry_bytes e) 116 ≡ e.start
  unfolding rest_bytes
  again_start = ap (from_le_bytes w32) (behind 52 4) ∙ from_le_bytes-to_le_bytes_4 e.start fits.start

again_size : (v : Version) (e : Entry) → FitsEntry v e → size_of v (entry_bytes e) ≡ e.size
unfolding rest_bytes
again_size V3 e fits =
    ap (from_le_bytes w32) (behind V3 e fits 56 4)
    ∙ from_le_bytes-to_le_bytes_4 e.size (omega (arith, fits.size))
again_size V4 e fits = ap (from_le_bytes w64) (behind V4 e fits 56 8) ∙ from_le_bytes-to_le_bytes_8 e.size (omega (arith, fits.size))

-- a written entry is read as it was
pub entry_again : (v : Version) (e : Entry) → FitsEntry v e → entry_of v (entry_bytes e) ≡ e
unfolding entry_of
entry_again v e fits =
    λ i. record {
      name_units = again_name_units v e fits i;
      name_len = again_name_len v e fits i;
      kind = again_kind v e fits i;
      color = again_color v e fits i;
      left = again_left v e fits i;
      right = again_right v e fits i;
      child = again_child v e fits i;
      facts = record {
        clsid = again_clsid v e fits i;
        state_bits = again_state_bits v e fits i;
        created = again_created v e fits i;
        modified = again_modified v e fits i;
      };
      start = again_start v e fits i;
      size = again_size v e fits i;
    }
