-- A directory over a layer below that was changed.
use Rattle.std.proofs.Common.{◌≡◌, ℕ, ◌+◌, ◌*◌, ◌/◌, ◌<◌, ◌≤◌, true, false, List, length, set, ap, sym, subst, ◌∙◌, arith, IsTrue}
use Rattle.cfb_medium.specs.Versions.{sector_len}
use Rattle.cfb_medium.specs.declared.medium.ReadMedium.{Ghosts}
use Rattle.cfb_medium.specs.declared.version.Version.{Version}
use Rattle.cfb_medium.specs.declared.version.Version.TheVariants.{V3, V4}
use Rattle.cfb_sectors.specs.Sectors.{joined}
use Rattle.cfb_chains.specs.LinkViews.{ids_of}
use Rattle.cfb_chains.proofs.ChainWriting.{length-joined}
use Rattle.cfb_chains.proofs.LongerTables.{never}
use Rattle.cfb_fat.specs.Seeing.{seen_of}
use Rattle.cfb_fat.specs.Tables.{bytes_of, has_failed_here, is_honest, version_of, OnlyReadsAllocator}
use Rattle.cfb_fat.specs.declared.allocator.Allocator.{Allocator}
use Rattle.cfb_chains.specs.Grown.{IsChainInTable}
use Rattle.cfb_chain_io.specs.ChainEffects.{content_of, len_of, KeepsFileInvariants, HasDataChain, Overwrites}
use Rattle.cfb_tree.specs.Directory.{Entry, FitsEntry, entries_of, entry_bytes}
use Rattle.cfb_directory.specs.Changes.{HasDirectory, LiesBeside, SetsEntry}
use Rattle.cfb_directory.specs.Lent.{IsKeptOver}
use Rattle.cfb_directory.specs.Views.{allocator_of, directory_ids, entries_held, links_of, with_allocator, DirectoryMatchesBytes}
use Rattle.cfb_directory.specs.declared.directory.Directory.{Directory}
use Rattle.cfb_directory.proofs.EntryBytes.{entry_written, length-entries}

-- sectors hold whole entries
pub whole_entries : (v : Version) (n : ℕ) → n * sector_len v ≡ n * (sector_len v / 128) * 128
whole_entries V3 n = omega arith
whole_entries V4 n = omega arith

pub length-content : (v : Version) (bytes ids : List ℕ) → length (joined v bytes ids) ≡ length ids * (sector_len v / 128) * 128
length-content v bytes ids = length-joined v bytes ids ∙ whole_entries v (length ids)

module _ {F : Type 0} {g : Ghosts F} where
  pub has_directory : (it : Directory F g) → has_failed_here (allocator_of it) ≡ false → IsTrue (is_honest (allocator_of it)) → DirectoryMatchesBytes it → LiesBeside it → HasDirectory it
  has_directory it live honest held beside = record {
    chain = record { has = record { honest = honest; version = held.version live honest; linked = held.linked live honest }; beside = beside };
    entries = held.entries live honest;
  }

  pub is_directory : (it : Directory F g) → (has_failed_here (allocator_of it) ≡ false → IsTrue (is_honest (allocator_of it)) → HasDirectory it) → DirectoryMatchesBytes it
  is_directory it has = record {
    version = λ live honest. (has live honest).chain.has.version;
    linked = λ live honest. (has live honest).chain.has.linked;
    entries = λ live honest. (has live honest).entries;
  }

  pub kept_over : (it : Directory F g) → IsKeptOver it
  unfolding seen_of
  kept_over it later leaves held =
      let goes = leaves.goes_on in
      let v = version_of (allocator_of it) in record {
        version = λ live honest. held.version (goes.live live) (subst IsTrue goes.honest honest) ∙ sym goes.version;
        linked = λ live honest. (leaves.stays live (subst IsTrue goes.honest honest)).linked;
        entries = λ live honest.
            let before = subst IsTrue goes.honest honest in
            held.entries (goes.live live) before ∙ ap (entries_of v) (sym (leaves.stays live before).bytes)
            ∙ ap (λ u. entries_of u (joined u (bytes_of later) (directory_ids it))) (sym goes.version);
      }

  -- the place of an entry lies in the directory's sectors
  pub entry_there : (it : Directory F g) (id : ℕ) → HasDirectory it → id < length (entries_held it) → 128 * id + 128 ≤ len_of (links_of it)
  entry_there it id has below =
      let v = version_of (allocator_of it) in
      let ids = directory_ids it in
      let size = ap length has.entries ∙ length-entries v (length ids * (sector_len v / 128)) (content_of (allocator_of it) (links_of it)) (length-content v (bytes_of (allocator_of it)) ids) in
      let whole = whole_entries v (length ids) in
      let same = ap (λ u. length ids * sector_len u) has.chain.has.version in
      omega (arith, size, whole, same, below)

  pub entry_set : (old new : Directory F g) (id place : ℕ) (e : Entry) (xs : List ℕ) → KeepsFileInvariants (allocator_of old) (allocator_of new) → links_of new ≡ links_of old → entries_held new ≡ set (entries_held old) id e → id < length (entries_held old)
      → FitsEntry (version_of (allocator_of old)) e → xs ≡ entry_bytes e → place ≡ 128 * id
      → (HasDataChain (allocator_of old) (links_of old) → Overwrites place xs (allocator_of old) (allocator_of new) (links_of old)) → SetsEntry id e old new
  entry_set old new id place e xs goes same set_so below fits is at wrote =
      let a = allocator_of old in
      let b = allocator_of new in
      let v = version_of a in
      let ids = directory_ids old in record {
        ids = ap ids_of same;
        entries = set_so;
        becomes = λ has. (wrote has.chain).becomes;
        has = λ has.
            let over = wrote has.chain in
            record {
              chain = subst (HasDataChain b) (sym same) over.chain;
              entries = set_so
                  ∙ sym (entry_written v (length ids * (sector_len v / 128)) id place (content_of a (links_of old)) xs (entries_held old) e (length-content v (bytes_of a) ids) has.entries below fits is at)
                  ∙ ap (entries_of v) (sym over.content)
                  ∙ ap (λ u. entries_of u (content_of b (links_of old))) (sym goes.version)
                  ∙ ap (λ l. entries_of (version_of b) (content_of b l)) (sym same);
            };
      }

  -- so memory is that of the bytes
  pub set_kept : (old new : Directory F g) (id : ℕ) (e : Entry) → KeepsFileInvariants (allocator_of old) (allocator_of new) → SetsEntry id e old new → DirectoryMatchesBytes old → LiesBeside old → DirectoryMatchesBytes new
  set_kept old new id e goes sets held beside =
      is_directory new (λ live honest. sets.has (has_directory old (goes.live live) (subst IsTrue goes.honest honest) held beside))

  -- of one that has failed nothing is said
  pub failed_is : (it : Directory F g) → has_failed_here (allocator_of it) ≡ true → DirectoryMatchesBytes it
  failed_is it failed = record {
    version = never (has_failed_here (allocator_of it)) failed;
    linked = never (has_failed_here (allocator_of it)) failed;
    entries = never (has_failed_here (allocator_of it)) failed;
  }

  -- memory is that of the bytes still where nothing but reads happened
  pub rests_kept : (it : Directory F g) (later : Allocator F g) → KeepsFileInvariants (allocator_of it) later → OnlyReadsAllocator (allocator_of it) later → DirectoryMatchesBytes it → DirectoryMatchesBytes (with_allocator it later)
  rests_kept it later goes rests held =
      let ids = directory_ids it in
      let v = version_of (allocator_of it) in
      record {
        version = λ live honest. held.version (goes.live live) (subst IsTrue goes.honest honest) ∙ sym goes.version;
        linked = λ live honest. subst (λ fat. IsChainInTable fat ids) (sym rests.fat) (held.linked (goes.live live) (subst IsTrue goes.honest honest));
        entries = λ live honest.
            let before = subst IsTrue goes.honest honest in
            held.entries (goes.live live) before ∙ ap (λ b. entries_of v (joined v b ids)) (sym (rests.sectors.bytes before))
            ∙ ap (λ u. entries_of u (joined u (bytes_of later) ids)) (sym goes.version);
      }
