-- A file that was only read lacks room where it did before.
use Rattle.std.proofs.Common.{◌≡◌, ℕ, ◌+◌, ◌<◌, List, length, Option, ap₂, inl, inr, subst}
use Rattle.std.specs.Prelude.{nat_eq}
use Rattle.std.specs.List.{count_by}
use Rattle.cfb.specs.Putting.{IsFullAt}
use Rattle.cfb.specs.Views.{mini_of, OnlyReadsFile}
use Rattle.cfb.specs.declared.compound_file.CompoundFile.{CompoundFile}
use Rattle.cfb.proofs.LiveMeaning.{means_read}
use Rattle.cfb_directory.specs.Entries.{HasNoneUnused}
use Rattle.cfb_directory.specs.Growth.{LacksEntries}
use Rattle.cfb_directory.specs.Views.{OnlyReadsDirectory}
use Rattle.cfb_directory.specs.declared.directory.Directory.{Directory}
use Rattle.cfb_spec.specs.TreeRules.{has_bytes, open_stream, tree_step}
use Rattle.cfb_medium.specs.Versions.{dir_entries_per_sector, stream_len_mask}
use Rattle.cfb_medium.specs.declared.medium.ReadMedium.{Ghosts}
use Rattle.cfb_sectors.specs.Sectors.{free, greatest_regular}
use Rattle.cfb_tree.specs.Directory.{greatest_entry}
use Rattle.cfb_tree.specs.Names.{CaseTable}
use Rattle.cfb_tree.specs.Paths.{Path}
use Rattle.cfb_stream_writes.proofs.Stretching.{lacks_resting}
use Rattle.msi_stored.specs.Room.{IsFullForName}

module _ {F : Type 0} {g : Ghosts F} where
  entries_before : (old new : Directory F g) → OnlyReadsDirectory old new → LacksEntries new → LacksEntries old
  unfolding LacksEntries
  entries_before old new r lacks = (
    subst HasNoneUnused r.entries lacks.0,
    elim lacks.1 [
      | inl places ↦ inl (subst (λ n. greatest_entry + 1 < n) (ap₂ (λ es v. length es + dir_entries_per_sector v) r.entries r.allocator.sectors.version) places)
      | inr rest ↦ elim rest [
        | inl numbers ↦ inr (inl (subst (λ fat. greatest_regular + 1 + count_by (λ entry. nat_eq entry free) fat < length fat + 1) r.allocator.fat numbers))
        | inr chain ↦ inr (inr (subst (λ (ids : List ℕ). greatest_regular < length ids) r.ids chain))
      ]
    ],
  )

  module _ (old new : CompoundFile F g) (r : OnlyReadsFile old new) where
    full_before : (path : Option Path) (len : ℕ) → IsFullAt new path len → IsFullAt old path len
    full_before path len full tree m =
        let h = full tree (means_read old new tree r m) in
        record {
          names = h.names;
          at_path = h.at_path;
          content = h.content;
          answer = subst (λ (l : CaseTable). (tree_step l tree (open_stream h.names)).1 ≡ has_bytes h.content) r.letters h.answer;
          lacks = lacks_resting (mini_of old) (mini_of new) (length h.content) len m.live.owners.memory r.mini h.lacks;
        }

    pub room_before : (name : List ℕ) (len : ℕ) → IsFullForName new name len → IsFullForName old name len
    room_before name len full = elim full [
      | inl long ↦ inl (subst (λ v. stream_len_mask v < len) r.mini.directory.allocator.sectors.version long)
      | inr lacks ↦ elim lacks [
        | inl entries ↦ inr (inl (entries_before _ _ r.mini.directory entries))
        | inr at ↦ inr (inr (full_before _ len at))
      ]
    ]
