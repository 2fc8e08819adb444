-- The tree that a live file means after an object was made.
use Rattle.std.proofs.Common.{◌≡◌, ℕ, ◌+◌, ◌≤◌, ◌⊎◌, inl, inr, false, List, [], refl, ap, sym, subst, ◌∙◌, arith, ⊎_elim, IsTrue}
use Rattle.std.specs.Char.{IsScalar}
use Rattle.std.specs.List.{AllByRecursion}
use Rattle.std.specs.Prelude.{slice_get, Bool}
use Rattle.cfb_medium.specs.declared.medium.ReadMedium.{Ghosts}
use Rattle.cfb_medium.specs.declared.version.Version.{Version}
use Rattle.cfb_medium.specs.declared.version.Version.TheVariants.{V3, V4}
use Rattle.cfb_medium.specs.Times.{units_of}
use Rattle.cfb_chains.specs.Owned.{AreBesideWords}
use Rattle.cfb_fat.specs.Tables.{has_failed_here, version_of}
use Rattle.cfb_chain_io.specs.ChainEffects.{KeepsFileInvariants}
use Rattle.cfb_sectors.specs.Sectors.{end_of_chain}
use Rattle.cfb_tree.specs.Directory.{kind_stream, Entry}
use Rattle.cfb_tree.specs.Entries.{new_entry}
use Rattle.cfb_tree.specs.Names.{is_name, CaseTable}
use Rattle.cfb_tree.specs.Objects.{name_of}
use Rattle.cfb_tree.specs.Paths.{Path}
use Rattle.cfb_tree.specs.Tree.{Tree}
use Rattle.cfb_siblings.specs.Changes.{HoldsOneMore, IsAlone}
use Rattle.cfb_siblings.specs.Reading.{ReadBy}
use Rattle.cfb_siblings.proofs.Made.{short_name, storage_alone, stream_alone}
use Rattle.cfb_directory.specs.Children.{AddsAt}
use Rattle.cfb_directory.specs.Entries.{SizesFit}
use Rattle.cfb_directory.specs.Growth.{count_words}
use Rattle.cfb_directory.specs.Views.{entries_held}
use Rattle.cfb_mini.specs.Changing.{ChangesDirectory}
use Rattle.cfb_mini.specs.Children.{HasRoot}
use Rattle.cfb_mini.specs.Views.{allocator_of, directory_of}
use Rattle.cfb_mini.specs.declared.mini_allocator.MiniAllocator.{MiniAllocator}
use Rattle.cfb_tree_edits.specs.Live.{live_of, LiveFileMeansTree}
use Rattle.cfb_tree_edits.specs.Orphans.{FileBecomesTree}
use Rattle.cfb_tree_edits.specs.Making.{kind_made, moment_made, object_of}
use Rattle.cfb_tree_edits.specs.declared.making.NewObject.{NewObject}
use Rattle.cfb_tree_edits.specs.declared.making.NewObject.TheVariants.{Storage, Stream}
use Rattle.cfb_tree_edits.proofs.ChildAdded.{means_more}
use Rattle.cfb_tree_edits.proofs.Directories.{carries, has_owners, kept_later, owners_now}
use Rattle.cfb_tree_edits.proofs.Standing.{stands_of}
use Rattle.cfb_tree_edits.proofs.SetFacts.{means_held, means_ids}
use Rattle.cfb_tree_edits.proofs.Strays.{directory_strays}
use Rattle.cfb_tree_edits.proofs.Streams.{reads}
use Rattle.cfb_tree_edits.proofs.StrictFacts.{facts_more}

-- the front of the header is spared
pub spare_words : (v : Version) (p n : ℕ) → (p + n ≤ 40) ⊎ (48 ≤ p) → AreBesideWords (count_words v) p n
spare_words V3 p n beside = tt
spare_words V4 p n beside = (⊎_elim (λ before. inl before) (λ behind. inr (omega (arith, behind))) beside, tt)

-- an entry that was made is its object
pub alone : (Reads : ℕ → ℕ → List ℕ → Bool) (object : NewObject) (name : List ℕ) → AllByRecursion IsScalar name → IsTrue (is_name name) → IsTrue (Reads end_of_chain 0 [])
    → IsAlone (ReadBy Reads) (new_entry name (kind_made object) (moment_made object)) (object_of object name)
alone Reads Stream name scalars valid empty = stream_alone (ReadBy Reads) name 0 [] scalars (short_name name valid) empty
alone Reads (Storage moment) name scalars valid empty = storage_alone (ReadBy Reads) name (units_of moment) scalars (short_name name valid)

pub named : (object : NewObject) (name : List ℕ) → name_of (object_of object name) ≡ name
named Stream name = refl
named (Storage moment) name = refl

pub starts_nowhere : (object : NewObject) (name : List ℕ) → kind_made object ≡ kind_stream → (new_entry name (kind_made object) (moment_made object)).start ≡ end_of_chain
starts_nowhere Stream name is = refl
starts_nowhere (Storage moment) name is = absurd (omega (arith, is))

module _ {F : Type 0} {g : Ghosts F} (letters : CaseTable) (old : MiniAllocator F g) (tree later : Tree) (m : LiveFileMeansTree letters old tree) where
  pub has_root : HasRoot (entries_held (directory_of old))
  unfolding live_of
  has_root = record { root = m.held.root; found = m.held.kept.root_found; of_kind = m.held.kept.root_kind }

  made_means : (new : MiniAllocator F g) (e : Entry) (path : Path) (id : ℕ) → AddsAt (entries_held (directory_of old)) (entries_held (directory_of new)) e id
      → HoldsOneMore letters (ReadBy (reads (live_of old) m.who)) (entries_held (directory_of old)) (entries_held (directory_of new)) later m.held.ids path id → e.size ≡ 0 → (e.kind ≡ kind_stream → e.start ≡ end_of_chain)
      → KeepsFileInvariants (allocator_of old) (allocator_of new) → has_failed_here (allocator_of new) ≡ false → ChangesDirectory (count_words (version_of (allocator_of old))) old new m.who.sectors → LiveFileMeansTree letters new later
  unfolding live_of
  made_means new e path id adds more small starts goes live c =
      let words = count_words (version_of (allocator_of old)) in
      let spare = spare_words (version_of (allocator_of old)) in
      let apart : 0 ≡ id → ⊥ = λ same. let unused = adds.unused m.held.root (ap (slice_get (entries_held (directory_of old))) (sym same) ∙ m.held.kept.root_found) in let kind = m.held.kept.root_kind in omega (arith, unused, kind) in
      let place = adds.others 0 m.held.root apart m.held.kept.root_found in
      record {
        live = live;
        orderly = subst IsTrue (sym (goes.orderly live)) m.orderly;
        who = owners_now words spare old new m.who (stands_of letters old tree m) goes live c;
        owners = has_owners words spare old new m.who (stands_of letters old tree m) goes live c;
        sizes = subst (λ v. SizesFit v (entries_held (directory_of new))) (sym goes.version) (adds.sizes (version_of (allocator_of old)) small m.sizes);
        held = means_more (live_of old) (live_of new) m.who (owners_now words spare old new m.who (stands_of letters old tree m) goes live c) letters tree later m.held (carries words spare old new m.who (stands_of letters old tree m) goes live c)
            place.0 (kept_later words spare old new m.who (stands_of letters old tree m) goes live c place.0 place.1 (place.2.kind ∙ m.held.kept.root_kind)) e path id more adds small starts;
      }

  -- and no more is in use without an owner
  pub made_comes : (new : MiniAllocator F g) (e : Entry) (path : Path) (id : ℕ) → AddsAt (entries_held (directory_of old)) (entries_held (directory_of new)) e id
      → HoldsOneMore letters (ReadBy (reads (live_of old) m.who)) (entries_held (directory_of old)) (entries_held (directory_of new)) later m.held.ids path id → e.size ≡ 0 → (e.kind ≡ kind_stream → e.start ≡ end_of_chain)
      → KeepsFileInvariants (allocator_of old) (allocator_of new) → has_failed_here (allocator_of new) ≡ false → ChangesDirectory (count_words (version_of (allocator_of old))) old new m.who.sectors → FileBecomesTree letters old new m.who later
  unfolding made_means
  made_comes new e path id adds more small starts goes live c = record {
    means = made_means new e path id adds more small starts goes live c;
    strays = directory_strays (count_words (version_of (allocator_of old))) (spare_words (version_of (allocator_of old))) old new m.who (stands_of letters old tree m) goes live c
        (facts_more letters (reads (live_of old) m.who) (entries_held (directory_of old)) (entries_held (directory_of new)) tree later (means_held letters old tree m) m.held.ids (means_ids letters old tree m) path id e adds more);
  }
