-- A package whose summary is another is stored as before: its stream is written by a flush.
use Rattle.std.proofs.Common.{◌≡◌, ◌∙◌, IsTrue, ap, false, refl, true}
use Rattle.cfb.specs.Views.{file_case_table}
use Rattle.cfb_medium.specs.declared.medium.ReadMedium.{Ghosts}
use Rattle.cfb_tree.specs.Names.{CaseTable}
use Rattle.cfb_tree.specs.Tree.{Tree}
use Rattle.msi_spec.specs.Package.{PackageContent}
use Rattle.msi_spec.specs.Split.{TreeStoresRest}
use Rattle.msi_props.specs.Held.{SetState}
use Rattle.msi_props.specs.Props.{Props}
use Rattle.msi_stored.specs.Changing.{StoresSoundPackage}
use Rattle.msi.specs.Lending.{summed_up, with_summary}
use Rattle.msi.specs.Opened.{PackageHasContent, file_in, sound_in, summary_in}
use Rattle.msi.specs.declared.package.Package.{Package}

module _ (letters : CaseTable) (tree : Tree) (summary : Props) (P : PackageContent) where
  stores_summed : TreeStoresRest letters tree P → TreeStoresRest letters tree (summed_up summary P)
  stores_summed s = record {
    class = s.class;
    rising = s.rising;
    names = s.names;
    rows = s.rows;
    validation = s.validation;
    validation_is = s.validation_is;
    schema = s.schema;
    columns = s.columns;
    streams = s.streams;
    storages = s.storages;
  }

  sound_summed : summary.sections ≡ 1 → StoresSoundPackage letters tree P → StoresSoundPackage letters tree (summed_up summary P)
  sound_summed one s = record {
    usable = s.usable;
    stores = stores_summed s.stores;
    counted = record { references = s.counted.references; counts = s.counted.counts };
    free = s.free;
    named = record {
      one_section = one;
      no_strays = s.named.no_strays;
      table_names = s.named.table_names;
      no_storage = s.named.no_storage;
      not_listed = s.named.not_listed;
      validation_kinds = s.named.validation_kinds;
      validation_keys = s.named.validation_keys;
    };
  }

module _ {F : Type 0} {g : Ghosts F} (it : Package F g) (P : PackageContent) (h : PackageHasContent it P) where
  pub holds_summed : (s : SetState) → s.props.sections ≡ 1 → PackageHasContent (with_summary it s) (summed_up s.props P)
  holds_summed s one = record {
    tree = h.tree;
    file = h.file;
    usable = h.usable;
    stores = stores_summed (file_case_table (file_in it)) h.tree s.props P h.stores;
    memory = record { kind = h.memory.kind; summary = refl; pool = h.memory.pool; tables = h.memory.tables };
    pool = h.pool;
    summary = λ written fit. let never : false ≡ true = written in absurd (cc);
    three = h.three;
    sound = λ is. let both = h.sound is in (both.0, sound_summed (file_case_table (file_in it)) h.tree s.props P one both.1);
    back = λ is unmodified written writable fit. let never : false ≡ true = written in absurd (cc);
  }

  pub one_section_held : IsTrue (sound_in it) → (summary_in it).props.sections ≡ 1
  one_section_held is = ap (λ (s : Props). s.sections) h.memory.summary ∙ (h.sound is).1.named.one_section
