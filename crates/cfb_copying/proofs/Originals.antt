-- What a file has that is copied.
use Rattle.std.proofs.Common.{◌≡◌, ℕ, zero, suc, ◌+◌, ◌*◌, ◌/◌, ◌<◌, ◌≤◌, IsTrue, List, [], ◌∷◌, length, ap, sym, subst, ◌∙◌, arith, ⊎_elim}
use Rattle.std.specs.Prelude.{false, nat_eq, slice_get, Some}
use Rattle.std.specs.List.{AllByRecursion, IsDistinct}
use Rattle.std.proofs.lemmas.Option.{slice_get_within}
use Rattle.cfb_medium.specs.Versions.{sector_len}
use Rattle.cfb_medium.specs.declared.version.Version.{Version}
use Rattle.cfb_medium.specs.declared.version.Version.TheVariants.{V3, V4}
use Rattle.cfb_medium.specs.declared.medium.ReadMedium.{Ghosts}
use Rattle.cfb_sectors.specs.Header.{mini_cutoff}
use Rattle.cfb_sectors.specs.Sectors.{joined, Chain}
use Rattle.cfb_chains.proofs.ChainWriting.{length-joined}
use Rattle.cfb_directory.proofs.EntryBytes.{length-entries}
use Rattle.cfb_fat.specs.Tables.{fat_of, version_of, OnlyReadsAllocator}
use Rattle.cfb_fat.specs.declared.allocator.Allocator.{Allocator}
use Rattle.cfb_ownership.specs.Held.{OwnerHasStream}
use Rattle.cfb_ownership.specs.LiveFile.{LiveFile}
use Rattle.cfb_ownership.specs.Owners.{directory_owner, first_of, stream_owner, Owners}
use Rattle.cfb_ownership.proofs.HoldsById.{each_part, IsPart}
use Rattle.cfb_tree.specs.Directory.{kind_stream, Entry}
use Rattle.cfb_copying.specs.Making.{IsFileInProgress, IsOneOf}
use Rattle.cfb_copying.specs.Steps.{CanPut, FillSectors, IsOriginal}

-- what holds of all holds of one
pub holds_of_one : (P : ℕ → Type 0) (xs : List ℕ) (n : ℕ) → AllByRecursion P xs → IsOneOf xs n → P n
holds_of_one P [] n all (k, below, is) = absurd (omega (arith, below))
holds_of_one P (x ∷ xs) n all (zero, below, is) = subst P is all.0
holds_of_one P (x ∷ xs) n all (suc k, below, is) = holds_of_one P xs n all.1 (k, omega (arith, below), is)

-- whole sectors' bytes as whole entries
pub in_entries : (v : Version) (count : ℕ) → count * sector_len v ≡ count * (sector_len v / 128) * 128
in_entries V3 count = omega arith
in_entries V4 count = omega arith

pub some_sectors : (v : Version) (len count : ℕ) → len * 128 ≡ count * sector_len v → 0 < len → 0 < count
some_sectors V3 len count is some = omega (arith, is, some)
some_sectors V4 len count is some = omega (arith, is, some)

module _ {F : Type 0} {g : Ghosts F} where
  pub original_rests : (a b : Allocator F g) (s : LiveFile) (who : Owners) (ids : List ℕ) → OnlyReadsAllocator a b → IsOriginal a s who ids → IsOriginal b s who ids
  original_rests a b s who ids rests h = record {
    letters = h.letters;
    tree = h.tree;
    held = h.held;
    all = h.all;
    sizes = h.sizes;
    honest = subst IsTrue (sym rests.sectors.honest) h.honest;
    version = rests.sectors.version ∙ h.version;
    bytes = rests.sectors.bytes h.honest ∙ h.bytes;
    fat = rests.fat ∙ h.fat;
  }

  module _ (a : Allocator F g) (s : LiveFile) (who : Owners) (ids : List ℕ) (h : IsOriginal a s who ids) where
    -- entries of the tree are no root's, and each is one that the directory has
    pub past_root : (id : ℕ) → IsOneOf ids id → id ≡ 0 → ⊥
    unfolding IsDistinct
    past_root id one same =
        let wrong = holds_of_one (λ k. nat_eq 0 k ≡ false) h.held.ids id h.held.once.0 (subst (λ l. IsOneOf l id) h.all one) in
        let right = ap (nat_eq 0) same in
        grind (arith, wrong, right)

    pub part_of : (id : ℕ) → IsOneOf ids id → IsPart s.entries (OwnerHasStream s who) id
    part_of id one =
        holds_of_one (IsPart s.entries (OwnerHasStream s who)) h.held.ids id (each_part s.entries (OwnerHasStream s who) h.tree.content h.held.children h.held.ids h.held.holds) (subst (λ l. IsOneOf l id) h.all one)

    pub entry_there : (id : ℕ) → IsOneOf ids id → id < length s.entries
    entry_there id one = let part = part_of id one in slice_get_within s.entries id part.0 part.1

    -- a long stream begins where its chain does
    pub long_start : (id : ℕ) (e : Entry) → IsOneOf ids id → slice_get s.entries id ≡ Some e → e.kind ≡ kind_stream → mini_cutoff ≤ e.size → e.start ≡ first_of (who.sectors (stream_owner id))
    long_start id e one found kind long =
        let part = part_of id one in
        let both : Some part.0 ≡ Some e = sym part.1 ∙ found in
        let is : part.0 ≡ e = cc in
        ⊎_elim
        (λ storage. let other : part.0.kind ≡ kind_stream = ap (λ x. x.kind) is ∙ kind in absurd (omega (arith, storage, other)))
        (λ stream. ap (λ x. x.start) (sym is) ∙ ((stream.2).long (subst (λ x. mini_cutoff ≤ x.size) (sym is) long)).1.start)
        part.2

    pub once_of : IsDistinct nat_eq ids
    unfolding IsDistinct
    once_of = subst (IsDistinct nat_eq) (sym h.all) h.held.once.1

    -- its entries fill its directory's sectors
    unfoldable pub fills : FillSectors s.version s.entries
    fills =
        let own = who.sectors directory_owner in
        let v = s.version in
        let content = joined v s.bytes own in
        let long : length content ≡ length own * sector_len v = length-joined v s.bytes own in
        let whole : length content ≡ length own * (sector_len v / 128) * 128 = long ∙ in_entries v (length own) in
        let many : length s.entries ≡ length own * (sector_len v / 128) = ap length h.held.kept.entries ∙ length-entries v (length own * (sector_len v / 128)) content whole in
        let all : length s.entries * 128 ≡ length own * sector_len v = ap (λ n. n * 128) many ∙ sym (in_entries v (length own)) in
        record {
          count = length own;
          some = some_sectors v (length s.entries) (length own) all (let there = slice_get_within s.entries 0 h.held.root h.held.kept.root_found in omega (arith, there));
          whole = all;
          sizes = h.sizes;
        }

module _ {F : Type 0} {g : Ghosts F} {T : Type 0} {t : Ghosts T} where
  -- an owner's chain can be copied
  pub can_put : (a : Allocator F g) (b : Allocator T t) (s : LiveFile) (who : Owners) (ids : List ℕ) (start d m key : ℕ) (own bytes : ℕ → List ℕ) → IsOriginal a s who ids → start ≡ first_of (who.sectors key)
      → version_of b ≡ s.version → IsFileInProgress d m b own bytes → own key ≡ [] → CanPut a start b d m key own bytes (who.sectors key)
  can_put a b s who ids start d m key own bytes h starts version made none = record {
    honest = h.honest;
    chain = subst (λ n. Chain (fat_of a) n (who.sectors key)) (sym starts) (subst (λ table. Chain table (first_of (who.sectors key)) (who.sectors key)) (sym h.fat) (h.held.kept.owned.linked key));
    version = version ∙ sym h.version;
    made = made;
    none = none;
  }
