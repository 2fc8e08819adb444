-- Sizes that are read fit the version.
use Rattle.std.proofs.Common.{◌≡◌, ℕ, ◌<◌, ◌≤◌, List, [], ◌∷◌, length, map, take, drop, get_or, zero, suc, sym, subst, ◌/◌, arith}
use Rattle.std.specs.Int.{from_le_bytes, w32, w64}
use Rattle.cfb_medium.specs.Numbers.{all_pieces, pieces}
use Rattle.cfb_medium.specs.Versions.{stream_len_mask}
use Rattle.cfb_medium.specs.declared.version.Version.{Version}
use Rattle.cfb_medium.specs.declared.version.Version.TheVariants.{V3, V4}
use Rattle.cfb_tree.specs.Directory.{entries_of, entry_of, Entry}
use Rattle.cfb_tree.proofs.OneContent.{Some_same}
use Rattle.cfb_directory.specs.Entries.{SizesFit}

abbrev pub AreBytes : List ℕ → Type 0
AreBytes xs = (i : ℕ) → get_or xs i 0 < 256

all_drop : (n : ℕ) (xs : List ℕ) → AreBytes xs → AreBytes (drop n xs)
all_drop zero xs all = all
all_drop (suc n) [] all = all
all_drop (suc n) (x ∷ xs) all = all_drop n xs (λ i. all (suc i))

all_take : (n : ℕ) (xs : List ℕ) → AreBytes xs → AreBytes (take n xs)
all_take zero xs all i = omega arith
all_take (suc n) [] all i = all i
all_take (suc n) (x ∷ xs) all zero = all zero
all_take (suc n) (x ∷ xs) all (suc i) = all_take n xs (λ j. all (suc j)) i

four : (xs : List ℕ) → AreBytes xs → from_le_bytes w32 xs ≤ 0xFFFFFFFF
four xs all = omega (arith, all 0, all 1, all 2, all 3)

eight : (xs : List ℕ) → AreBytes xs → from_le_bytes w64 xs ≤ 0xFFFFFFFFFFFFFFFF
eight xs all = omega (arith, all 0, all 1, all 2, all 3, all 4, all 5, all 6, all 7)

size_fits : (v : Version) (piece : List ℕ) → AreBytes piece → (entry_of v piece).size ≤ stream_len_mask v
unfolding entry_of
size_fits V3 piece all = four (take 4 (drop 120 piece)) (all_take 4 (drop 120 piece) (all_drop 120 piece all))
size_fits V4 piece all = eight (take 8 (drop 120 piece)) (all_take 8 (drop 120 piece) (all_drop 120 piece all))

piece_fits : (v : Version) (count : ℕ) (bytes : List ℕ) → AreBytes bytes → SizesFit v (map (entry_of v) (pieces 128 count bytes))
unfolding pieces
piece_fits v zero bytes all k e is = absurd (cc)
piece_fits v (suc count) bytes all zero e is = subst (λ (x : Entry). x.size ≤ stream_len_mask v) (Some_same is) (size_fits v (take 128 bytes) (all_take 128 bytes all))
piece_fits v (suc count) bytes all (suc k) e is = piece_fits v count (drop 128 bytes) (all_drop 128 bytes all) k e is

pub sizes_fit : (v : Version) (bytes : List ℕ) → AreBytes bytes → SizesFit v (entries_of v bytes)
unfolding entries_of all_pieces
sizes_fit v bytes all = piece_fits v (length bytes / 128) bytes all

pub sizes_same : (v w : Version) (xs ys : List Entry) → w ≡ v → ys ≡ xs → SizesFit v xs → SizesFit w ys
sizes_same v w xs ys version same fits = subst (λ u. SizesFit u ys) (sym version) (subst (SizesFit v) (sym same) fits)
