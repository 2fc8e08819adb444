-- A tree in which pool and summary were written packs a sound package.
use Rattle.std.proofs.Common.{◌≡◌, ◌∙◌, ap, sym}
use Rattle.std.specs.Prelude.{Ok, Some}
use Rattle.cfb.proofs.LiveMeaning.{holds_meant}
use Rattle.cfb.specs.FollowedRules.{FileMeansTree}
use Rattle.cfb.specs.Views.{file_case_table, mini_of}
use Rattle.cfb_tree_edits.specs.Live.{live_of}
use Rattle.cfb_medium.specs.declared.medium.ReadMedium.{Ghosts}
use Rattle.cfb_ownership.proofs.SoundIs.{sound_is}
use Rattle.cfb_ownership.specs.LiveInvariant.{layout_of}
use Rattle.cfb_tree.specs.Names.{CaseTable}
use Rattle.cfb_tree.specs.Tree.{Tree}
use Rattle.msi_spec.specs.Package.{PackageContent, TreePacksPackage, data_name, objects, pool_name, stream_at, summary_name, table_stream}
use Rattle.msi_spec.specs.Sound.{IsSoundPackage}
use Rattle.msi_pool.specs.Pool.{data_stream, pool_stream}
use Rattle.msi_props.proofs.Comeback.{written_set_is_read}
use Rattle.msi_props.specs.Props.{props_bytes, props_read}
use Rattle.msi_stored.specs.Changing.{StoresSoundPackage}
use Rattle.msi_stored.specs.Shown.{bytes_in}
use Rattle.msi.proofs.WrittenPool.{HoldsBack, written_pool_gives_back}
use Rattle.msi.proofs.WrittenSummary.{written_summary_gives_back}
use Rattle.msi.specs.Changing.{PackageCanBeWritten, PackageIsWritten}
use Rattle.msi.specs.Committing.{BytesHoldPackage, BytesHoldRest}
use Rattle.msi.specs.Opened.{PackageHasContent, file_in}
use Rattle.msi.specs.declared.package.Package.{Package}

-- the tree packs the package, which is sound so
pub record PacksSound (letters : CaseTable) (tree : Tree) (P : PackageContent) : Type 0 where
  pub packs : TreePacksPackage letters tree P
  pub sound : IsSoundPackage letters tree P packs

module _ (letters : CaseTable) (tree : Tree) (P : PackageContent) (s : StoresSoundPackage letters tree P) (fit : PackageCanBeWritten P) where
  -- what was written of the summary is read as it was
  summary_back : props_read (props_bytes P.summary) ≡ Ok P.summary
  summary_back = written_set_is_read P.summary fit.summary.writable ∙ ap (λ n. Ok (record P.summary { sections = n })) (sym s.named.one_section)

  pub packs_sound : stream_at letters (objects tree.content) summary_name ≡ Some (props_bytes P.summary) → table_stream letters (objects tree.content) pool_name ≡ Some (pool_stream P.pool)
      → table_stream letters (objects tree.content) data_name ≡ Some (data_stream P.pool) → PacksSound letters tree P
  packs_sound summary_at pool_at data_at = by (written_pool_gives_back P.pool fit.pool)
    where
      by : HoldsBack P.pool → PacksSound letters tree P
      by b = record {
        packs = record {
          class = s.stores.class;
          pool_bytes = pool_stream P.pool;
          data_bytes = data_stream P.pool;
          pool_at = pool_at;
          data_at = data_at;
          pool = b.pooled;
          rising = s.stores.rising;
          names = s.stores.names;
          rows = s.stores.rows;
          validation = s.stores.validation;
          validation_is = s.stores.validation_is;
          schema = s.stores.schema;
          columns = s.stores.columns;
          summary_bytes = props_bytes P.summary;
          summary_at = summary_at;
          summary = summary_back;
          summary_kind = fit.summary.format;
          streams = s.stores.streams;
          storages = s.stores.storages;
        };
        sound = record {
          references = s.counted.references;
          counts = s.counted.counts;
          free = s.free;
          texts = b.texts;
          summary_texts = written_summary_gives_back P.summary fit.summary.writable;
          one_section = s.named.one_section;
          no_strays = s.named.no_strays;
          table_names = s.named.table_names;
          no_storage = s.named.no_storage;
          not_listed = s.named.not_listed;
          validation_kinds = s.named.validation_kinds;
          validation_keys = s.named.validation_keys;
        };
      }

module _ {F : Type 0} {g : Ghosts F} where
  -- the bytes of its file hold it
  pub saved_found : (it : Package F g) (P : PackageContent) → PackageIsWritten it P → BytesHoldPackage (file_case_table (file_in it)) (bytes_in (file_in it)) P
  unfolding live_of
  saved_found it P s =
      let file = file_in it in
      let m = s.means.live in
      let h = holds_meant file s.tree s.means in record {
        usable = s.holds.usable;
        container = (layout_of (live_of (mini_of file)) m.who m.held.root m.held.ids, s.tree, sound_is (live_of (mini_of file)) m.who (file_case_table file) s.tree m.held);
        tree = s.tree;
        means = (h.layout, h.means);
        packs = s.packs;
        sound = s.sound;
      }

  -- and they hold all of a package but its texts, of which the file means the tree
  pub rest_held : (it : Package F g) (P : PackageContent) (held : PackageHasContent it P) → FileMeansTree (file_in it) held.tree → BytesHoldRest (file_case_table (file_in it)) (bytes_in (file_in it)) P
  unfolding live_of
  rest_held it P held meant =
      let file = file_in it in
      let m = meant.live in
      let h = holds_meant file held.tree meant in record {
        usable = held.usable;
        container = (layout_of (live_of (mini_of file)) m.who m.held.root m.held.ids, held.tree, sound_is (live_of (mini_of file)) m.who (file_case_table file) held.tree m.held);
        tree = held.tree;
        means = (h.layout, h.means);
        stores = held.stores;
      }
