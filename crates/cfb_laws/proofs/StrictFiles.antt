-- A strict reader takes the bytes of a live file that means a tree exactly where memory and header say what it asks for.
use Rattle.std.proofs.Common.{◌≡◌, ℕ, length, refl, ap, sym, subst, ◌∙◌}
use Rattle.std.specs.Prelude.{◌↔◌}
use Rattle.cfb_medium.specs.declared.medium.ReadMedium.{Ghosts}
use Rattle.cfb_medium.specs.declared.version.Version.{Version}
use Rattle.cfb_medium.specs.declared.version.Version.TheVariants.{V3, V4}
use Rattle.cfb_fat.specs.Tables.{bytes_of, version_of, HasEnds, HeaderCountsTables}
use Rattle.cfb_directory.specs.Views.{entries_held}
use Rattle.cfb_mini.specs.Files.{count_told}
use Rattle.cfb_mini.specs.Views.{allocator_of, directory_of}
use Rattle.cfb_mini.specs.declared.mini_allocator.MiniAllocator.{MiniAllocator}
use Rattle.cfb_spec.specs.Means.{directory_count, IsStrictlyOpenable}
use Rattle.cfb_ownership.proofs.StrictIs.{strict_is, IsStrictIn}
use Rattle.cfb_siblings.specs.Changes.{AreColored}
use Rattle.cfb_siblings.specs.Reading.{ReadBy}
use Rattle.cfb_tree.specs.Names.{CaseTable}
use Rattle.cfb_tree.specs.Tree.{Tree}
use Rattle.cfb_tree_edits.specs.Live.{live_of, LiveFileMeansTree}
use Rattle.cfb_tree_edits.specs.Orphans.{IsStrictLive}
use Rattle.cfb_tree_edits.proofs.SetFacts.{means_held, means_ids}
use Rattle.cfb_tree_edits.proofs.Streams.{reads}
use Rattle.cfb_tree_edits.proofs.StrictFacts.{ids_are_one}

-- the header's number of the directory's sectors
same_count : (v : Version) (n : ℕ) → count_told v n ≡ directory_count v n
same_count V3 n = refl
same_count V4 n = refl

module _ {F : Type 0} {g : Ghosts F} (letters : CaseTable) (it : MiniAllocator F g) (tree : Tree) (m : LiveFileMeansTree letters it tree) where
  told_strict : HeaderCountsTables (allocator_of it) → HasEnds (allocator_of it) → IsStrictLive it → IsStrictIn (live_of it) m.who m.held.ids
  unfolding live_of
  told_strict told ends live =
      let version = version_of (allocator_of it) in
      let entries = entries_held (directory_of it) in
      let colors : AreColored entries m.held.ids = subst (AreColored entries) (means_ids letters it tree m) (live.entries.colors letters (reads (live_of it) m.who) tree (means_held letters it tree m)) in
      record {
        directory_count = live.counts.directory ∙ same_count version _ ∙ ap (λ ids. directory_count version (length ids)) (sym m.owners.directory);
        fat_count = told.fat_count;
        mini_fat_count = live.counts.mini_fat ∙ ap length (sym m.owners.mini_fat);
        difat_count = told.difat_count;
        stop = ends.stop;
        whole = ends.whole;
        named = live.entries.named;
        root_color = colors.0;
        colors = colors.1;
      }

  strict_told : IsStrictIn (live_of it) m.who m.held.ids → HeaderCountsTables (allocator_of it) × HasEnds (allocator_of it) × IsStrictLive it
  unfolding live_of
  strict_told strict =
      let version = version_of (allocator_of it) in
      let entries = entries_held (directory_of it) in
      let Held = ReadBy (reads (live_of it) m.who) in
      let held = means_held letters it tree m in (
        record { difat_count = strict.difat_count; fat_count = strict.fat_count },
        record { whole = strict.whole; stop = strict.stop },
        record {
          counts = record {
            directory = strict.directory_count ∙ ap (λ ids. directory_count version (length ids)) m.owners.directory ∙ sym (same_count version _);
            mini_fat = strict.mini_fat_count ∙ ap length m.owners.mini_fat;
          };
          entries = record {
            named = strict.named;
            colors = λ l read other h. subst (AreColored entries) (sym (means_ids letters it tree m) ∙ ids_are_one entries letters l Held (ReadBy read) tree other held h) (strict.root_color, strict.colors);
          };
        },
      )

  -- LAW: so it is
  pub strict_bytes : (HeaderCountsTables (allocator_of it) × HasEnds (allocator_of it) × IsStrictLive it) ↔ IsStrictlyOpenable letters (bytes_of (allocator_of it))
  unfolding live_of
  strict_bytes =
      let is = strict_is (live_of it) m.who letters tree m.held in
      (λ (told, ends, live). is.0 (told_strict told ends live), λ opens. strict_told (is.1 opens))
