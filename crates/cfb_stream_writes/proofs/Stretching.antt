-- The bytes and the places of a long stream that became longer or shorter, told by index.
use Rattle.std.proofs.Common.{◌≡◌, ℕ, ◌+◌, ◌-◌, ◌*◌, ◌/◌, ◌%◌, ◌<◌, ◌≤◌, ◌⊎◌, inl, inr, Bool, List, suc, ◌++◌, length, take, get_or, ap, sym, subst, ◌∙◌, ⊎_elim, arith, length-take, mul-le-mul_right}
use Rattle.std.specs.Prelude.{min, nat_eq, if◌then◌else◌}
use Rattle.std.specs.List.{count_by}
use Rattle.std.proofs.lemmas.Bool.Decides.{leb_tells}
use Rattle.std.proofs.lemmas.List.{get_or-take, get_or_past, length-replicate, take-replicate}
use Rattle.cfb_chains.specs.Behind.{AreWhole}
use Rattle.cfb_chains.specs.LinkViews.{ids_of, links_version}
use Rattle.cfb_chains.specs.Positions.{sectors_for, tail_in}
use Rattle.cfb_chains.specs.declared.links.Links.{Links}
use Rattle.cfb_chains.proofs.ChainWriting.{split_below}
use Rattle.cfb_chains.proofs.Overwriting.{get_before, get_behind, get_written}
use Rattle.cfb_fat.specs.Growing.{LacksSectorNumbers}
use Rattle.cfb_fat.specs.Tables.{bytes_of, fat_of, version_of, OnlyReadsAllocator}
use Rattle.cfb_fat.specs.declared.allocator.Allocator.{Allocator}
use Rattle.cfb_medium.specs.Bytes.{overwritten}
use Rattle.cfb_medium.specs.Versions.{sector_len}
use Rattle.cfb_medium.specs.declared.medium.ReadMedium.{Ghosts}
use Rattle.cfb_medium.specs.declared.version.Version.{Version}
use Rattle.cfb_medium.specs.declared.version.Version.TheVariants.{V3, V4}
use Rattle.cfb_mini.specs.Changing.{LacksMiniSectors}
use Rattle.cfb_mini.specs.Views.{allocator_of, MiniMatchesBytes, OnlyReadsMini}
use Rattle.cfb_mini.specs.declared.mini_allocator.MiniAllocator.{MiniAllocator}
use Rattle.cfb_chain_io.specs.ChainEffects.{content_of, place_of, LacksSectors, Resizes}
use Rattle.cfb_sectors.specs.Copies.{copies}
use Rattle.cfb_sectors.specs.Header.{mini_cutoff}
use Rattle.cfb_sectors.specs.Initial.{initial}
use Rattle.cfb_sectors.specs.Sectors.{free, greatest_regular}
use Rattle.cfb_sectors.specs.declared.initial.SectorInit.TheVariants.{Zero}
use Rattle.cfb_stream_writes.specs.Sizes.{minis_of_stream, sectors_of_stream}
use Rattle.cfb_stream_writes.specs.Streams.{IsPastNumbers, LacksRoom, LacksSectorsFor}
use Rattle.cfb_stream_writes.proofs.LongBytes.{get_grown, get_taken, get_zeros, joined_front, place_kept}
use Rattle.cfb_chain_io.proofs.FrontWritten.{place_new, zeros_joined}
use Rattle.cfb_mini.specs.Minis.{minis_for}
use Rattle.cfb_mini.proofs.Lacking.{lacks_before, lacks_fewer, more_for}
use Rattle.cfb_mini.proofs.Padded.{zero_at, zeros}

-- so many sectors hold so many bytes
pub room_for : (v : Version) (len : ℕ) → len ≤ sectors_for v len * sector_len v
room_for V3 len = omega arith
room_for V4 len = omega arith

pub whole_for : (v : Version) (len : ℕ) → len + tail_in v len ≡ sectors_for v len * sector_len v
whole_for V3 len = omega arith
whole_for V4 len = omega arith

pub tail_fits : (v : Version) (len : ℕ) → tail_in v len ≤ 4096
tail_fits V3 len = omega arith
tail_fits V4 len = omega arith

below_split : (v : Version) (k n : ℕ) → k / sector_len v < n → k < n * sector_len v
below_split V3 k n below = omega (arith, below)
below_split V4 k n below = omega (arith, below)

split_past : (v : Version) (k n : ℕ) → n * sector_len v ≤ k → n ≤ k / sector_len v
split_past V3 k n past = omega (arith, past)
split_past V4 k n past = omega (arith, past)

-- sectors that so many bytes need lie before their end
pub tight_for : (v : Version) (n len : ℕ) → n ≤ sectors_for v len → n * sector_len v ≤ len + tail_in v len
tight_for V3 n len few = omega (arith, few)
tight_for V4 n len few = omega (arith, few)

-- what has room for so many bytes has the sectors that they need
fewer_for : (v : Version) (n len : ℕ) → len ≤ n * sector_len v → sectors_for v len ≤ n
fewer_for V3 n len room = omega (arith, room)
fewer_for V4 n len room = omega (arith, room)

module _ {F : Type 0} {g : Ghosts F} where
  -- a chain that became longer by sectors of zeros
  pub grown_bytes : (count : ℕ) (a b : Allocator F g) (before after : Links) (r : Resizes Zero count a b before after)
      → content_of b after ≡ take (count * sector_len (version_of a)) (content_of a before) ++ zeros (length r.more * sector_len (version_of a))
  unfolding initial
  grown_bytes count a b before after r =
      let v = version_of a in
      r.content ∙ ap (λ l. l ++ copies (length r.more) (zeros (sector_len v))) (joined_front v (bytes_of a) (ids_of before) count) ∙ ap (λ l. take (count * sector_len v) (content_of a before) ++ l) (zeros_joined (length r.more) (sector_len v))

-- zeros that were written over
get_zeroed : (xs : List ℕ) (size tail k : ℕ) → size ≤ k → k < size + tail → get_or (overwritten xs size (zeros tail)) k 0 ≡ 0
get_zeroed xs size tail k behind inside =
    let there : size + (k - size) ≡ k = omega (arith, behind) in
    let part : k - size < length (zeros tail) = let count = length-replicate {A = ℕ} tail 0 in omega (arith, count, behind, inside) in
    ap (λ i. get_or (overwritten xs size (zeros tail)) i 0) (sym there) ∙ get_written xs size (zeros tail) (k - size) part ∙ zero_at tail (k - size)

-- what lies behind them
get_past : (xs : List ℕ) (size tail k : ℕ) → size + tail ≤ k → get_or (overwritten xs size (zeros tail)) k 0 ≡ get_or xs k 0
get_past xs size tail k past = get_behind xs size (zeros tail) k (let count = length-replicate {A = ℕ} tail 0 in omega (arith, past, count))

-- a stream's byte, among those of its chain
get_front : (xs content : List ℕ) (size k : ℕ) → content ≡ take size xs → k < size → get_or content k 0 ≡ get_or xs k 0
get_front xs content size k is below = ap (λ l. get_or l k 0) is ∙ get_or-take size xs k 0 below

get_none : (xs content : List ℕ) (size k : ℕ) → content ≡ take size xs → size ≤ k → get_or content k 0 ≡ 0
get_none xs content size k is past = ap (λ l. get_or l k 0) is ∙ get_taken xs size k past

-- cut to its bytes, with zeros behind them, and then of another length
pub stretched_bytes : (x0 x1 x2 x3 content : List ℕ) (n1 m1 size tail n3 m3 len : ℕ) → x1 ≡ take n1 x0 ++ zeros m1 → x2 ≡ overwritten x1 size (zeros tail) → x3 ≡ take n3 x2 ++ zeros m3
    → content ≡ take size x0 → size + tail ≡ n1 → len ≤ n3 → (k : ℕ) → k < len → get_or x3 k 0 ≡ get_or content k 0
stretched_bytes x0 x1 x2 x3 content n1 m1 size tail n3 m3 len one two three is all fits k below =
    let kept : k < n3 = omega (arith, below, fits) in
    get_grown x2 x3 n3 m3 k three kept ∙ ap (λ l. get_or l k 0) two ∙ ⊎_elim
    (λ behind.
    ⊎_elim
    (λ past. get_past x1 size tail k (let p = past.1 in omega (arith, p, all)) ∙ get_zeros x0 x1 n1 m1 k one past.1)
    (λ inside. get_zeroed x1 size tail k behind.1 (let i = inside.1 in omega (arith, i, all)))
    (leb_tells n1 k)
    ∙ sym (get_none x0 content size k is behind.1))
    (λ before. get_before x1 size (zeros tail) k before.1 ∙ get_grown x0 x1 n1 m1 k one (let b = before.1 in omega (arith, b, all)) ∙ sym (get_front x0 content size k is before.1))
    (leb_tells size k)

-- cut
pub cut_bytes : (x0 x1 content : List ℕ) (n m size len : ℕ) → x1 ≡ take n x0 ++ zeros m → content ≡ take size x0 → len ≤ n → len ≤ size → (k : ℕ) → k < len → get_or x1 k 0 ≡ get_or content k 0
cut_bytes x0 x1 content n m size len one is fits few k below =
    get_grown x0 x1 n m k one (omega (arith, below, fits)) ∙ sym (get_front x0 content size k is (omega (arith, below, few)))

-- longer by zeros, with zeros behind its bytes, where it had no byte behind these
pub lengthened_bytes : (x0 x1 x2 content : List ℕ) (n m size tail len : ℕ) → x1 ≡ take n x0 ++ zeros m → x2 ≡ overwritten x1 size (zeros tail) → content ≡ take size x0
    → length x0 ≤ size + tail → len ≤ n → (k : ℕ) → k < len → get_or x2 k 0 ≡ get_or content k 0
lengthened_bytes x0 x1 x2 content n m size tail len one two is tight fits k below =
    let same = get_grown x0 x1 n m k one (omega (arith, below, fits)) in
    ap (λ l. get_or l k 0) two ∙ ⊎_elim
    (λ behind.
    ⊎_elim
    (λ past. get_past x1 size tail k past.1 ∙ same ∙ get_or_past x0 k 0 (let p = past.1 in omega (arith, p, tight)))
    (λ inside. get_zeroed x1 size tail k behind.1 inside.1)
    (leb_tells (size + tail) k)
    ∙ sym (get_none x0 content size k is behind.1))
    (λ before. get_before x1 size (zeros tail) k before.1 ∙ same ∙ sym (get_front x0 content size k is before.1))
    (leb_tells size k)

-- its bytes lie in the file
pub stretched_places : (v : Version) (ids0 ids1 ids3 more1 more3 b0 b2 b3 : List ℕ) (c1 c3 size tail len : ℕ) → ids1 ≡ take c1 ids0 ++ more1 → ids3 ≡ take c3 ids1 ++ more3 → length ids1 ≡ c1 → length ids3 ≡ c3
    → size + tail ≡ c1 * sector_len v → size ≤ length ids0 * sector_len v → len ≤ c3 * sector_len v → length b0 ≤ length b2 → length b2 ≤ length b3
    → ((k : ℕ) → k < size → place_of v ids0 k < length b0) → ((k : ℕ) → size ≤ k → k < size + length (zeros tail) → place_of v ids1 k < length b2) → AreWhole v b3 more3
    → (k : ℕ) → k < len → place_of v ids3 k < length b3
stretched_places v ids0 ids1 ids3 more1 more3 b0 b2 b3 c1 c3 size tail len one three count1 count3 whole fits room first second old there new k below =
    let i = k / sector_len v in
    let inside : i < c3 = split_below v k c3 (less k len (c3 * sector_len v) below room) in
    ⊎_elim
    (λ past. place_new v b3 (take c3 ids1) ids3 more3 k three new (front c3 (length ids1) c1 i (length (take c3 ids1)) (length-take c3 ids1) count1 past.1) (subst (λ n. i < n) (sym count3) inside))
    (λ early.
    let kept : i < length ids1 = subst (λ n. i < n) (sym count1) early.1 in
    let all : k < size + tail = subst (λ n. k < n) (sym whole) (below_split v k c1 early.1) in
    let same = place_kept v ids1 ids3 more3 c3 k three inside kept in
    ⊎_elim
    (λ behind.
    let here = there k behind.1 (let count = length-replicate {A = ℕ} tail 0 in omega (arith, all, count)) in
    subst (λ p. p < length b3) same (less (place_of v ids1 k) (length b2) (length b3) here second))
    (λ before.
    let was = place_kept v ids0 ids1 more1 c1 k one early.1 (split_below v k (length ids0) (less k size (length ids0 * sector_len v) before.1 fits)) in
    subst (λ p. p < length b3) same (subst (λ p. p < length b3) was (less (place_of v ids0 k) (length b0) (length b3) (old k before.1) (most (length b0) (length b2) (length b3) first second))))
    (leb_tells size k))
    (leb_tells c1 i)
  where
    less : (x y z : ℕ) → x < y → y ≤ z → x < z
    less x y z few many = omega (arith, few, many)

    most : (x y z : ℕ) → x ≤ y → y ≤ z → x ≤ z
    most x y z few many = omega (arith, few, many)

    front : (c n m j t : ℕ) → t ≡ min c n → n ≡ m → m ≤ j → t ≤ j
    front c n m j t size same past = omega (arith, size, same, past)

pub cut_places : (v : Version) (ids0 ids1 more b0 b1 : List ℕ) (count size len : ℕ) → ids1 ≡ take count ids0 ++ more → size ≤ length ids0 * sector_len v → len ≤ count * sector_len v → len ≤ size
    → length b0 ≤ length b1 → ((k : ℕ) → k < size → place_of v ids0 k < length b0) → (k : ℕ) → k < len → place_of v ids1 k < length b1
cut_places v ids0 ids1 more b0 b1 count size len one fits room few longer old k below =
    let first : k < size = omega (arith, below, few) in
    let same = place_kept v ids0 ids1 more count k one (split_below v k count (less k len (count * sector_len v) below room)) (split_below v k (length ids0) (less k size (length ids0 * sector_len v) first fits)) in
    subst (λ p. p < length b1) same (less (place_of v ids0 k) (length b0) (length b1) (old k first) longer)
  where
    less : (x y z : ℕ) → x < y → y ≤ z → x < z
    less x y z few many = omega (arith, few, many)

pub lengthened_places : (v : Version) (ids0 ids1 more b0 b1 b2 : List ℕ) (count size tail len : ℕ) → ids1 ≡ take count ids0 ++ more → length ids1 ≡ count → length ids0 * sector_len v ≤ size + tail
    → size ≤ length ids0 * sector_len v → len ≤ count * sector_len v → length b0 ≤ length b1 → length b1 ≤ length b2
    → ((k : ℕ) → k < size → place_of v ids0 k < length b0) → ((k : ℕ) → size ≤ k → k < size + length (zeros tail) → place_of v ids1 k < length b2) → AreWhole v b1 more
    → (k : ℕ) → k < len → place_of v ids1 k < length b2
lengthened_places v ids0 ids1 more b0 b1 b2 count size tail len one is_count tight fits room first second old there new k below =
    let i = k / sector_len v in
    let inside : i < count = split_below v k count (less k len (count * sector_len v) below room) in
    ⊎_elim
    (λ behind.
    ⊎_elim
    (λ past.
    let end : length ids0 ≤ i = split_past v k (length ids0) (most (length ids0 * sector_len v) (size + tail) k tight past.1) in
    less (place_of v ids1 k) (length b1) (length b2)
    (place_new v b1 (take count ids0) ids1 more k one new (front count (length ids0) i (length (take count ids0)) (length-take count ids0) end) (subst (λ n. i < n) (sym is_count) inside)) second)
    (λ sooner. there k behind.1 (let count = length-replicate {A = ℕ} tail 0 in let s = sooner.1 in omega (arith, s, count)))
    (leb_tells (size + tail) k))
    (λ before.
    let same = place_kept v ids0 ids1 more count k one inside (split_below v k (length ids0) (less k size (length ids0 * sector_len v) before.1 fits)) in
    subst (λ p. p < length b2) same (less (place_of v ids0 k) (length b0) (length b2) (old k before.1) (most (length b0) (length b1) (length b2) first second)))
    (leb_tells size k)
  where
    less : (x y z : ℕ) → x < y → y ≤ z → x < z
    less x y z few many = omega (arith, few, many)

    most : (x y z : ℕ) → x ≤ y → y ≤ z → x ≤ z
    most x y z few many = omega (arith, few, many)

    front : (c n j t : ℕ) → t ≡ min c n → n ≤ j → t ≤ j
    front c n j t size past = omega (arith, size, past)

-- as many zeros as lie behind so many bytes in a sector
pub zero_front : (v : Version) (len size : ℕ) → len ≡ sector_len v → take ((len - size % len) % len) (zeros 4096) ≡ zeros (tail_in v size)
zero_front v len size same = subst (λ l. take ((l - size % l) % l) (zeros 4096) ≡ zeros (tail_in v size)) (sym same) (take-replicate (tail_in v size) 4096 0 (tail_fits v size))

-- what is past the end of a chain is so with the rest of its sector too
pub tail_more : (v : Version) (n size : ℕ) → n * sector_len v < 0 + size → n * sector_len v < size + tail_in v size
tail_more v n size past = omega (arith, past)

-- they lie in a chain of these bytes, or of more
pub never_past : (v w : Version) (n size len : ℕ) → w ≡ v → n ≡ sectors_for v len → size ≤ len → n * sector_len w < size + tail_in w size → ⊥
never_past v w n size len same count more past =
    let at : n * sector_len v < size + tail_in v size = subst (λ u. n * sector_len u < size + tail_in u size) same past in
    let all = whole_for v size in
    let few : sectors_for v size * sector_len v ≤ n * sector_len v = times (sectors_for v size) n (sector_len v) (subst (λ m. sectors_for v size ≤ m) (sym count) (more_for v size len more)) in
    omega (arith, at, all, few)
  where
    times : (x y l : ℕ) → x ≤ y → x * l ≤ y * l
    times x y l few = mul-le-mul_right l few

-- a short stream has no sectors
short_has : (v : Version) (size : ℕ) → size < mini_cutoff → sectors_of_stream v size ≡ 0
short_has v size below =
    ⊎_elim
    (λ yes. ap (λ (t : Bool). if t then 0 else sectors_for v size) yes.0)
    (λ no. let few = no.1 in absurd (omega (arith, few, below)))
    (leb_tells (suc size) mini_cutoff)

-- and none has more than its bytes need
stream_has : (v : Version) (size : ℕ) → sectors_of_stream v size ≤ sectors_for v size
stream_has v size =
    ⊎_elim
    (λ yes. let none = short_has v size yes.1 in omega (arith, none))
    (λ no. let same : sectors_of_stream v size ≡ sectors_for v size = ap (λ (t : Bool). if t then 0 else sectors_for v size) no.0 in omega (arith, same))
    (leb_tells (suc size) mini_cutoff)

-- so it is with mini sectors: what has room for a short stream has those that it needs, and a long one has none
pub minis_has : (size count : ℕ) → size ≤ 64 * count → minis_of_stream size ≤ count
minis_has size count room =
    ⊎_elim
    (λ yes. let same : minis_of_stream size ≡ minis_for size = ap (λ (t : Bool). if t then minis_for size else 0) yes.0 in omega (arith, same, room))
    (λ no. let same : minis_of_stream size ≡ 0 = ap (λ (t : Bool). if t then minis_for size else 0) no.0 in omega (arith, same))
    (leb_tells (suc size) mini_cutoff)

pub long_has : (size : ℕ) → mini_cutoff ≤ size → minis_of_stream size ≡ 0
long_has size up =
    ⊎_elim
    (λ yes. let few = yes.1 in absurd (omega (arith, few, up)))
    (λ no. ap (λ (t : Bool). if t then minis_for size else 0) no.0)
    (leb_tells (suc size) mini_cutoff)

abbrev lacks_by : Version → List ℕ → ℕ → ℕ → Type 0
lacks_by v fat size len = (greatest_regular + 1 + count_by (λ entry. nat_eq entry free) fat < length fat + (sectors_for v len - sectors_of_stream v size)) ⊎ (greatest_regular + 1 < sectors_for v len)

-- numbers that are missing for some are missing for more
few_more : (a b few more : ℕ) → a < b + few → few ≤ more → a < b + more
few_more a b few more lacks most = omega (arith, lacks, most)

-- a size for which no file has numbers is none of a short stream
past_cutoff : (v : Version) (len : ℕ) → IsPastNumbers v len → mini_cutoff ≤ len
past_cutoff V3 len past = omega (arith, past)
past_cutoff V4 len past = omega (arith, past)

module _ {F : Type 0} {g : Ghosts F} where
  pub lacks_more : (a : Allocator F g) (links : Links) (size len : ℕ) → size ≤ len → LacksSectors a links (sectors_for (links_version links) size) → LacksSectors a links (sectors_for (links_version links) len)
  lacks_more a links size len more lacks =
      let most = more_for (links_version links) size len more in
      ⊎_elim (λ few. inl (few_more _ _ _ _ few (omega (arith, most)))) (λ long. inr (omega (arith, long, most))) lacks

  -- what is missing for the chain of a stream of `size` bytes is missing for the stream
  pub lacks_room : (it : MiniAllocator F g) (links : Links) (size len : ℕ) → size ≤ length (ids_of links) * sector_len (links_version links) → links_version links ≡ version_of (allocator_of it)
      → LacksSectors (allocator_of it) links (sectors_for (links_version links) len) → LacksSectorsFor it size len
  unfolding LacksSectorsFor
  lacks_room it links size len room version lacks =
      let a = allocator_of it in
      let few = fewer_for (links_version links) (length (ids_of links)) size room in
      let some = stream_has (links_version links) size in
      subst (λ v. LacksSectorNumbers a (sectors_for v len - sectors_of_stream v size) ⊎ (greatest_regular + 1 < sectors_for v len)) version
      (⊎_elim (λ lack. inl (few_more _ _ (sectors_for (links_version links) len - length (ids_of links)) _ lack (omega (arith, few, some)))) (λ long. inr long) lacks)

  -- they were missing before reads too
  pub lacks_sectors_resting : (old new : MiniAllocator F g) (size len : ℕ) → OnlyReadsAllocator (allocator_of old) (allocator_of new) → LacksSectorsFor new size len → LacksSectorsFor old size len
  unfolding LacksSectorsFor
  lacks_sectors_resting old new size len rests lacks =
      subst (λ v. lacks_by v (fat_of (allocator_of old)) size len) rests.sectors.version (subst (λ f. lacks_by (version_of (allocator_of new)) f size len) rests.fat lacks)

  -- a short stream lacks what one without bytes does
  pub lacks_as_short : (it : MiniAllocator F g) (size len : ℕ) → size < mini_cutoff → LacksSectorsFor it 0 len → LacksSectorsFor it size len
  unfolding LacksSectorsFor
  lacks_as_short it size len below lacks =
      let v = version_of (allocator_of it) in
      subst (λ n. LacksSectorNumbers (allocator_of it) (sectors_for v len - n) ⊎ (greatest_regular + 1 < sectors_for v len)) (short_has v 0 (omega arith) ∙ sym (short_has v size below)) lacks

  -- so a stream lacks room that comes to 4096 bytes
  pub lacks_long : (it : MiniAllocator F g) (size len : ℕ) → mini_cutoff ≤ len → LacksSectorsFor it size len → LacksRoom it size len
  unfolding LacksRoom
  lacks_long it size len up lacks = inl (up, lacks)

  -- or that stays below, or comes there
  pub lacks_short : (it : MiniAllocator F g) (size len count : ℕ) → len < mini_cutoff → (size < mini_cutoff → size < len) → count ≤ minis_for len - minis_of_stream size → LacksMiniSectors count it → LacksRoom it size len
  unfolding LacksRoom
  lacks_short it size len count below more few lacks = inr (below, more, lacks_fewer it count (minis_for len - minis_of_stream size) few lacks)

  -- it lacked it before reads too
  pub lacks_resting : (old new : MiniAllocator F g) (size len : ℕ) → MiniMatchesBytes old → OnlyReadsMini old new → LacksRoom new size len → LacksRoom old size len
  unfolding LacksRoom
  lacks_resting old new size len is rests lacks =
      ⊎_elim (λ long. inl (long.0, lacks_sectors_resting old new size len rests.directory.allocator long.1)) (λ short. inr (short.0, short.1, lacks_before old new (minis_for len - minis_of_stream size) is rests short.2)) lacks

  -- a size for which no file has numbers
  pub past_lacks : (it : MiniAllocator F g) (size len : ℕ) → IsPastNumbers (version_of (allocator_of it)) len → LacksRoom it size len
  unfolding LacksSectorsFor
  past_lacks it size len past = lacks_long it size len (past_cutoff (version_of (allocator_of it)) len past) (inr past)
