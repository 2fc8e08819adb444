-- What the layers over the tables still show of them, and what that tells of the bytes.
use Rattle.std.proofs.Common.{◌≡◌, ℕ, List, length, false, IsTrue, refl, ap, sym, subst, ◌∙◌}
use Rattle.std.specs.Prelude.{slice_get, Some}
use Rattle.cfb_medium.specs.declared.medium.ReadMedium.{Ghosts}
use Rattle.cfb_sectors.specs.Header.{HasFields, HeaderFields}
use Rattle.cfb_sectors.specs.Sectors.{fat_in, joined, Chain}
use Rattle.cfb_sectors.specs.declared.validation.Validation.{Validation}
use Rattle.cfb_fat.specs.Tables.{bytes_of, difat_sectors_of, fat_of, fat_sectors_of, has_failed_here, is_honest, medium_of, sectors_of, version_of, OnlyReadsAllocator}
use Rattle.cfb_fat.specs.declared.allocator.Allocator.{Allocator}
use Rattle.cfb_tree.specs.Names.{CaseTable}
use Rattle.cfb_tree.specs.Tree.{Tree}
use Rattle.cfb_tree.specs.Directory.{entries_of, Entry}
use Rattle.cfb_tree.specs.Entries.{HasSize}
use Rattle.cfb_directory.specs.Taken.{HasAny, IsTakenAs}
use Rattle.cfb_directory.specs.Views.{directory_ids, entries_held, DirectoryMatchesBytes}
use Rattle.cfb_directory.specs.Views as layer
use Rattle.cfb_directory.specs.declared.directory.Directory.{Directory}
use Rattle.cfb_mini.specs.Views.{allocator_of, directory_of, mini_fat_ids, mini_stream_ids, MiniMatchesBytes}
use Rattle.cfb_mini.specs.declared.mini_allocator.MiniAllocator.{MiniAllocator}
use Rattle.cfb_spec.specs.Means.{Layout}
use Rattle.cfb_opening.specs.Opened.{CanOpen, IsOpened}
use Rattle.cfb_opening.specs.Tables.{AreSectorTables, IsExactFor, OnlyReadsMedium}
use Rattle.cfb_opening.proofs.PartsRead.{directory_refused, layout, means, mini_refused, strict, strict_refused}
use Rattle.cfb_opening.proofs.ReadsInTurn.{sectors_read}

module _ {F : Type 0} {g : Ghosts F} (m : F) (h : HeaderFields) (a : Allocator F g) where
  -- reads alone came between, and the tables are the same
  pub record IsTied (x : Allocator F g) : Type 0 where
    pub live : has_failed_here x ≡ false
    pub reads : OnlyReadsMedium g.honest g.bytes g.continues m (medium_of x)
    pub version : version_of x ≡ h.version
    pub fat : fat_of x ≡ fat_of a
    pub fat_sectors : fat_sectors_of x ≡ fat_sectors_of a
    pub difat_sectors : difat_sectors_of x ≡ difat_sectors_of a

  pub tied_first : has_failed_here a ≡ false → OnlyReadsMedium g.honest g.bytes g.continues m (medium_of a) → version_of a ≡ h.version → IsTied a
  tied_first live reads version = record { live = live; reads = reads; version = version; fat = refl; fat_sectors = refl; difat_sectors = refl }

  pub tied_after : (x y : Allocator F g) → IsTied x → OnlyReadsAllocator x y → IsTied y
  tied_after x y t r = record {
    live = r.sectors.failed ∙ t.live;
    reads = sectors_read m (sectors_of x) (sectors_of y) t.reads r.sectors;
    version = r.sectors.version ∙ t.version;
    fat = r.fat ∙ t.fat;
    fat_sectors = r.fat_sectors ∙ t.fat_sectors;
    difat_sectors = r.difat_sectors ∙ t.difat_sectors;
  }

  module _ (honest : IsTrue (g.honest m)) (header : HasFields h (g.bytes m)) (stop : ℕ)
      (tables : AreSectorTables h.version (g.bytes m) (difat_sectors_of a) stop (fat_sectors_of a) (fat_of a)) (validation : Validation) (letters : CaseTable) where
    abbrev b : List ℕ
    b = g.bytes m

    still : (x : Allocator F g) → IsTied x → IsTrue (is_honest x)
    still x t = subst IsTrue (sym t.reads.as_honest) honest

    entries_at : (x : Allocator F g) → IsTied x → (ids : List ℕ) → entries_of (version_of x) (joined (version_of x) (bytes_of x) ids) ≡ entries_of h.version (joined h.version b ids)
    entries_at x t ids = ap (λ v. entries_of v (joined v (bytes_of x) ids)) t.version ∙ ap (λ l. entries_of h.version (joined h.version l ids)) (t.reads.same honest)

    held_at : (d : Directory F g) → IsTied (layer.allocator_of d) → DirectoryMatchesBytes d → entries_held d ≡ entries_of h.version (joined h.version b (directory_ids d))
    held_at d t is = is.entries t.live (still (layer.allocator_of d) t) ∙ entries_at (layer.allocator_of d) t (directory_ids d)

    pub no_directory : IsTied a → (IsTrue (is_honest a) → (ids : List ℕ) → Chain (fat_of a) h.first_directory ids → (tree : Tree)
        → IsTakenAs validation letters HasAny (entries_of (version_of a) (joined (version_of a) (bytes_of a) ids)) tree → ⊥) → CanOpen validation letters b → ⊥
    no_directory t refused =
        directory_refused b h header (difat_sectors_of a) stop (fat_sectors_of a) (fat_of a) tables validation letters
        (λ ids chain tree taken. refused (still a t) ids chain tree (subst (λ es. IsTakenAs validation letters HasAny es tree) (sym (entries_at a t ids)) taken))

    pub no_mini : (d : Directory F g) → IsTied (layer.allocator_of d) → DirectoryMatchesBytes d → Chain (fat_of a) h.first_directory (directory_ids d)
        → (IsTrue (is_honest (layer.allocator_of d)) → (ids stream : List ℕ) (root : Entry) → Chain (fat_of (layer.allocator_of d)) h.first_mini_fat ids → slice_get (entries_held d) 0 ≡ Some root
        → Chain (fat_of (layer.allocator_of d)) root.start stream → ⊥) → CanOpen validation letters b → ⊥
    no_mini d t is chain refused =
        mini_refused b h header (difat_sectors_of a) stop (fat_sectors_of a) (fat_of a) tables validation letters (directory_ids d) (entries_held d) chain (held_at d t is)
        (λ ids stream root mini found streams. refused (still (layer.allocator_of d) t) ids stream root (subst (λ f. Chain f h.first_mini_fat ids) (sym t.fat) mini) found
        (subst (λ f. Chain f root.start stream) (sym t.fat) streams))

    module _ (it : MiniAllocator F g) (t : IsTied (allocator_of it)) (chain : Chain (fat_of a) h.first_directory (directory_ids (directory_of it)))
        (mini_chain : Chain (fat_of a) h.first_mini_fat (mini_fat_ids it)) where
      exact_at : (len : ℕ) → len ≡ length b
          → IsExactFor validation h stop len (length (directory_ids (directory_of it))) (length (fat_sectors_of (allocator_of it))) (length (mini_fat_ids it)) (length (difat_sectors_of (allocator_of it)))
          → IsExactFor validation h stop (length b) (length (directory_ids (directory_of it))) (length (fat_sectors_of a)) (length (mini_fat_ids it)) (length (difat_sectors_of a))
      exact_at len is exact =
          let d = length (directory_ids (directory_of it)) in
          let n = length (mini_fat_ids it) in
          subst (λ ds. IsExactFor validation h stop (length b) d (length (fat_sectors_of a)) n (length ds)) t.difat_sectors
          (subst (λ fs. IsExactFor validation h stop (length b) d (length fs) n (length (difat_sectors_of (allocator_of it)))) t.fat_sectors
          (subst (λ k. IsExactFor validation h stop k d (length (fat_sectors_of (allocator_of it))) n (length (difat_sectors_of (allocator_of it)))) is exact))

      exact_back : (len : ℕ) → len ≡ length b
          → IsExactFor validation h stop (length b) (length (directory_ids (directory_of it))) (length (fat_sectors_of a)) (length (mini_fat_ids it)) (length (difat_sectors_of a))
          → IsExactFor validation h stop len (length (directory_ids (directory_of it))) (length (fat_sectors_of (allocator_of it))) (length (mini_fat_ids it)) (length (difat_sectors_of (allocator_of it)))
      exact_back len is exact =
          let d = length (directory_ids (directory_of it)) in
          let n = length (mini_fat_ids it) in
          subst (λ k. IsExactFor validation h stop k d (length (fat_sectors_of (allocator_of it))) n (length (difat_sectors_of (allocator_of it)))) (sym is)
          (subst (λ fs. IsExactFor validation h stop (length b) d (length fs) n (length (difat_sectors_of (allocator_of it)))) (sym t.fat_sectors)
          (subst (λ ds. IsExactFor validation h stop (length b) d (length (fat_sectors_of a)) n (length ds)) (sym t.difat_sectors) exact))

      pub not_strict : (len : ℕ) → len ≡ length b
          → (IsExactFor validation h stop len (length (directory_ids (directory_of it))) (length (fat_sectors_of (allocator_of it))) (length (mini_fat_ids it)) (length (difat_sectors_of (allocator_of it))) → ⊥)
          → CanOpen validation letters b → ⊥
      not_strict len is refused =
          strict_refused b h header (difat_sectors_of a) stop (fat_sectors_of a) (fat_of a) tables validation letters (directory_ids (directory_of it)) (mini_fat_ids it) chain mini_chain
          (λ exact. refused (exact_back len is exact))

      pub opened : (len : ℕ) → len ≡ length b
          → IsExactFor validation h stop len (length (directory_ids (directory_of it))) (length (fat_sectors_of (allocator_of it))) (length (mini_fat_ids it)) (length (difat_sectors_of (allocator_of it)))
          → MiniMatchesBytes it → (tree : Tree) (taken : IsTakenAs validation letters HasSize (entries_held (directory_of it)) tree)
          → ((root : Entry) → slice_get (entries_held (directory_of it)) 0 ≡ Some root → Chain (fat_of a) root.start (mini_stream_ids it))
          → (l : Layout) × (tree : Tree) × IsOpened validation letters b it l tree
      opened len is exact mini tree taken streams =
          let d = directory_of it in
          let ds = difat_sectors_of a in
          let fs = fat_sectors_of a in
          let table = fat_of a in
          let entries = held_at d t mini.directory in
          let stream = streams taken.holds.root taken.holds.root_found in
          let numbers = mini.over.numbers t.live (still (allocator_of it) t) in (
            layout b h header ds stop fs table tables validation letters (directory_ids d) (mini_fat_ids it) (mini_stream_ids it) (entries_held d) tree taken entries chain mini_chain stream,
            tree,
            record {
              shows = record {
                version = t.version;
                difat_sectors = t.difat_sectors;
                fat_sectors = t.fat_sectors;
                directory_sectors = refl;
                mini_fat_sectors = refl;
                mini_stream_sectors = refl;
                root = taken.holds.root_found;
                fat = t.fat ∙ tables.fat_is;
                mini_fat = numbers ∙ ap (λ v. fat_in v (bytes_of (allocator_of it)) (mini_fat_ids it)) t.version ∙ ap (λ l. fat_in h.version l (mini_fat_ids it)) (t.reads.same honest);
                entries = entries;
              };
              means = means b h header ds stop fs table tables validation letters (directory_ids d) (mini_fat_ids it) (mini_stream_ids it) (entries_held d) tree taken entries chain mini_chain stream;
              strict = strict b h header ds stop fs table tables validation letters (directory_ids d) (mini_fat_ids it) (mini_stream_ids it) (entries_held d) tree taken entries chain mini_chain stream
                  (exact_at len is exact);
            },
          )
