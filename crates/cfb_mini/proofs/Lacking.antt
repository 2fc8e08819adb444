-- What is missing for mini sectors more.
use Rattle.std.proofs.Common.{◌≡◌, ℕ, suc, ◌+◌, ◌-◌, ◌*◌, ◌/◌, ◌<◌, ◌≤◌, List, length, take, ap, sym, subst, ◌∙◌, inl, inr, ⊎_elim, arith}
use Rattle.std.specs.List.{count_by}
use Rattle.std.specs.Prelude.{◌⊎◌, false, nat_eq, true, Err, IfErr, Ok, Result}
use Rattle.std.proofs.lemmas.Bool.Decides.{leb_tells}
use Rattle.cfb_medium.specs.Calls.{IsFaultOrInvalidInputIf}
use Rattle.cfb_medium.specs.Versions.{sector_len, stream_len_mask}
use Rattle.cfb_medium.specs.declared.error.Error.{Error}
use Rattle.cfb_medium.specs.declared.error.Error.TheVariants.{Failed, Full, InvalidData, Memory}
use Rattle.cfb_medium.specs.declared.medium.ReadMedium.{Ghosts}
use Rattle.cfb_medium.specs.declared.version.Version.{Version}
use Rattle.cfb_medium.specs.declared.version.Version.TheVariants.{V3, V4}
use Rattle.cfb_sectors.specs.Sectors.{free, greatest_regular}
use Rattle.cfb_chains.specs.Positions.{sectors_for}
use Rattle.cfb_chains.specs.ChainCalls.{IsInvalidOrFull}
use Rattle.cfb_fat.specs.Calls.{FatErrorContract}
use Rattle.cfb_fat.specs.Growing.{LacksSectorNumbers}
use Rattle.cfb_fat.specs.Tables.{fat_of, has_failed_here, version_of, OnlyReadsAllocator}
use Rattle.cfb_fat.specs.declared.allocator.Allocator.{Allocator}
use Rattle.cfb_mini.specs.Changing.{free_minis, stream_sectors, table_sectors, LacksMiniSectors, LacksTables}
use Rattle.cfb_mini.specs.Views.{allocator_of, mini_fat_ids, mini_fat_of, mini_stream_ids, mini_stream_len, MiniMatchesBytes, OnlyReadsMini}
use Rattle.cfb_mini.specs.declared.mini_allocator.MiniAllocator.{MiniAllocator}
use Rattle.cfb_mini.proofs.Longer.{lacks_rest, len_same}

pub more_for : (v : Version) (few many : ℕ) → few ≤ many → sectors_for v few ≤ sectors_for v many
more_for V3 few many most = omega (arith, most)
more_for V4 few many most = omega (arith, most)

longer : (v : Version) (mask few many : ℕ) → few ≤ many → mask < few * sector_len v → mask < many * sector_len v
longer V3 mask few many most less = omega (arith, most, less)
longer V4 mask few many most less = omega (arith, most, less)

lt_of : {m n : ℕ} → m ≤ n → (m ≡ n → ⊥) → m < n
lt_of {m} {n} most short = ⊎_elim (λ less. less.1) (λ no. absurd (short (let more = no.1 in omega (arith, more, most)))) (leb_tells (suc m) n)

-- the same of the numbers alone: the FAT, the mini stream's length, the sectors that it and the mini FAT have, and how many mini sectors are free
lacks_by : (v : Version) (fat : List ℕ) (len held told free_now count : ℕ) → Type 0
lacks_by v fat len held told free_now count = (free_now < count)
    × ((greatest_regular + 1 + count_by (λ entry. nat_eq entry free) fat < length fat + ((sectors_for v (len + 64 * (count - free_now)) - held) + (sectors_for v (4 * (len / 64 + (count - free_now))) - told)))
    ⊎ (stream_len_mask v < sectors_for v (len + 64 * (count - free_now)) * sector_len v))

module _ {F : Type 0} {g : Ghosts F} where
  tables_more : (it : MiniAllocator F g) (few many : ℕ) → few ≤ many → LacksTables few it → LacksTables many it
  unfolding LacksTables
  tables_more it few many most lacks =
      let v = version_of (allocator_of it) in
      let len = mini_stream_len it in
      let held = more_for v (len + 64 * few) (len + 64 * many) (omega (arith, most)) in
      let told = more_for v (4 * (len / 64 + few)) (4 * (len / 64 + many)) (omega (arith, most)) in
      ⊎_elim (λ numbers. inl (omega (arith, numbers, held, told))) (λ size. inr (longer v (stream_len_mask v) (stream_sectors few it) (stream_sectors many it) held size)) lacks

  -- what is missing for some is missing for more
  pub lacks_fewer : (it : MiniAllocator F g) (few many : ℕ) → few ≤ many → LacksMiniSectors few it → LacksMiniSectors many it
  lacks_fewer it few many most = ⊎_elim (λ one. inl one) (λ more. let some = more.0 in inr (omega (arith, some, most), tables_more it (few - free_minis it) (many - free_minis it) (omega (arith, most)) more.1))

  -- what was missing after reads was missing before
  pub lacks_before : (b c : MiniAllocator F g) (count : ℕ) → MiniMatchesBytes b → OnlyReadsMini b c → LacksMiniSectors count c → LacksMiniSectors count b
  unfolding LacksTables lacks_by
  lacks_before b c count is rests =
      let layer = rests.directory.allocator in
      let fat = fat_of (allocator_of c) in
      let v = version_of (allocator_of c) in
      let w = version_of (allocator_of b) in
      let held = ap length rests.mini_stream_ids in
      let told = ap length rests.mini_fat_ids in
      let len = len_same b c layer.sectors.version is (rests.kept is) rests.mini_stream_ids in
      let same : free_minis c ≡ free_minis b = ap (λ n. count_by (λ entry. nat_eq entry free) (take (n / 64) (mini_fat_of c))) len ∙ ap (λ l. count_by (λ entry. nat_eq entry free) (take (mini_stream_len b / 64) l)) rests.mini_fat in
      ⊎_elim (λ one. inl (lacks_rest b c is rests one))
      (λ more. inr (
      subst (λ n. lacks_by w (fat_of (allocator_of b)) (mini_stream_len b) (length (mini_stream_ids b)) (length (mini_fat_ids b)) n count) same
      (subst (λ n. lacks_by w (fat_of (allocator_of b)) (mini_stream_len b) (length (mini_stream_ids b)) n (free_minis c) count) told
      (subst (λ n. lacks_by w (fat_of (allocator_of b)) (mini_stream_len b) n (length (mini_fat_ids c)) (free_minis c) count) held
      (subst (λ n. lacks_by w (fat_of (allocator_of b)) n (length (mini_stream_ids c)) (length (mini_fat_ids c)) (free_minis c) count) len
      (subst (λ l. lacks_by w l (mini_stream_len c) (length (mini_stream_ids c)) (length (mini_fat_ids c)) (free_minis c) count) layer.fat
      (subst (λ u. lacks_by u fat (mini_stream_len c) (length (mini_stream_ids c)) (length (mini_fat_ids c)) (free_minis c) count) layer.sectors.version more)))))))

  -- what was counted up to a bound that it didn't reach is all, and what is wanted for the rest is what is missing
  pub lacks_sectors : (it : MiniAllocator F g) (count found wanted : ℕ) → found ≤ count → (found ≡ count → ⊥) → (found < count → found ≡ free_minis it)
      → wanted ≡ (stream_sectors (count - found) it - length (mini_stream_ids it)) + (table_sectors (count - found) it - length (mini_fat_ids it)) → LacksSectorNumbers (allocator_of it) wanted
      → (free_minis it < count) × LacksTables (count - free_minis it) it
  unfolding LacksTables
  lacks_sectors it count found wanted most short all is lacks =
      let few : found < count = lt_of most short in
      subst (λ n. (n < count) × LacksTables (count - n) it) (all few) (few, inl (subst (LacksSectorNumbers (allocator_of it)) is lacks))

  pub lacks_size : (it : MiniAllocator F g) (count found : ℕ) → found ≤ count → (found ≡ count → ⊥) → (found < count → found ≡ free_minis it)
      → stream_len_mask (version_of (allocator_of it)) < stream_sectors (count - found) it * sector_len (version_of (allocator_of it)) → (free_minis it < count) × LacksTables (count - free_minis it) it
  unfolding LacksTables
  lacks_size it count found most short all size =
      let few : found < count = lt_of most short in
      subst (λ n. (n < count) × LacksTables (count - n) it) (all few) (few, inr size)

  -- a question that was refused, of a layer that lives
  pub asked_answers : {T : Type 0} (r : Result T Error) (a b : Allocator F g) → OnlyReadsAllocator a b → has_failed_here a ≡ false
      → IfErr r (λ e. ((e ≡ Failed) × (has_failed_here a ≡ true)) ⊎ (e ≡ InvalidData) ⊎ (e ≡ Memory) ⊎ (e ≡ Full)) → FatErrorContract IsInvalidOrFull r a b
  asked_answers (Ok x) a b rests live says = record { live = (live, rests.sectors.failed ∙ live); failed = λ was. absurd (let no = live in cc); after = tt; cause = tt; fault = tt }
  asked_answers (Err e) a b rests live says =
      let kinds : (e ≡ InvalidData) ⊎ (e ≡ Memory) ⊎ (e ≡ Full) = ⊎_elim (λ failed. absurd (let was = failed.1 in let no = live in cc)) (λ rest. rest) says in
      record {
        live = tt;
        failed = λ was. absurd (let no = live in cc);
        after = inr rests;
        cause = λ start since. record {
          device = λ is. ⊎_elim (λ p. absurd (let q = is in cc)) (⊎_elim (λ p. absurd (let q = is in cc)) (λ p. absurd (let q = is in cc))) kinds;
          earlier = λ is. ⊎_elim (λ p. absurd (let q = is in cc)) (⊎_elim (λ p. absurd (let q = is in cc)) (λ p. absurd (let q = is in cc))) kinds;
        };
        fault = ⊎_elim (λ p. inr (inl p)) (⊎_elim (λ p. inl (subst (IsFaultOrInvalidInputIf ⊥) (sym p) tt)) (λ p. inr (inr p))) kinds;
      }
