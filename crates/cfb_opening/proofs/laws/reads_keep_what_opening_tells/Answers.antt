use Rattle.std.proofs.Common.{◌≡◌, sym, subst, ◌∙◌, IsTrue}
use Rattle.std.specs.Prelude.{slice_get, Some}
use Rattle.cfb_directory.specs.Views.{entries_held}
use Rattle.cfb_fat.specs.Tables.{version_of}
use Rattle.cfb_mini.specs.Views.{allocator_of, directory_of}
use Rattle.cfb_directory.proofs.EntrySizes.{sizes_same}
use Rattle.cfb_opening.proofs.laws.reads_keep_what_opening_tells.Goals as goal

pub returns-clause-opens : goal.returns-clause-opens
returns-clause-opens g c = λ medium old new rests at.
    let r = rests.directory.allocator.sectors in
    record {
      honest = r.honest ∙ at.honest;
      continues = λ start from. r.continues start (at.continues start from);
      bytes = λ honest. r.bytes (subst IsTrue (sym at.honest) honest) ∙ at.bytes honest;
      live = r.failed ∙ at.live;
      memory = rests.kept at.memory;
      sizes = sizes_same (version_of (allocator_of old)) (version_of (allocator_of new)) (entries_held (directory_of old)) (entries_held (directory_of new)) r.version rests.directory.entries at.sizes;
    }

pub returns-clause-opened : goal.returns-clause-opened
returns-clause-opened g c = λ validation letters bytes l tree old new rests is.
    let r = rests.directory in
    let s = is.shows in
    record {
      shows = record {
        version = r.allocator.sectors.version ∙ s.version;
        difat_sectors = r.allocator.difat_sectors ∙ s.difat_sectors;
        fat_sectors = r.allocator.fat_sectors ∙ s.fat_sectors;
        directory_sectors = r.ids ∙ s.directory_sectors;
        mini_fat_sectors = rests.mini_fat_ids ∙ s.mini_fat_sectors;
        mini_stream_sectors = rests.mini_stream_ids ∙ s.mini_stream_sectors;
        root = subst (λ es. slice_get es 0 ≡ Some l.root) (sym r.entries) s.root;
        fat = r.allocator.fat ∙ s.fat;
        mini_fat = rests.mini_fat ∙ s.mini_fat;
        entries = r.entries ∙ s.entries;
      };
      means = is.means;
      strict = is.strict;
    }
