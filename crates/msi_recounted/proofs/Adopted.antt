-- A package that can be adopted is sound once a tree got its pool with right counts.
use Rattle.std.proofs.Common.{◌≡◌, ◌∙◌, true, sym, ap, subst, Ok}
use Rattle.std.specs.Prelude.{◌≤◌, All, IsTrue, length}
use Rattle.std.specs.List.{list_all}
use Rattle.cfb_tree.specs.Names.{CaseTable}
use Rattle.cfb_tree.specs.Tree.{Tree}
use Rattle.msi_spec.proofs.PacksOnce.{ok_same, some_same}
use Rattle.msi_spec.proofs.SoundAnyway.{all_give}
use Rattle.msi_spec.specs.Package.{PackageContent, TreePacksPackage}
use Rattle.msi_spec.specs.Sound.{IsSoundPackage, refcounts_of}
use Rattle.msi_pool.proofs.PoolFound.{pool_is_begun, texts_are_stored, told}
use Rattle.msi_pool.specs.Pool.{last_place, pool_stream}
use Rattle.msi_props.specs.Props.{texts_give_back as summary_gives_back}
use Rattle.msi_pool.specs.PoolReading.{text_round_trips, texts_give_back}
use Rattle.msi_texts.specs.Results.{◌>>=◌}
use Rattle.msi_recounted.proofs.WrittenCounts.{Gives, HoldsAgain, written_again}
use Rattle.msi_recounted.specs.Recounted.{CanBeAdopted, CanBeRecounted, GotCounts, recounted}

module _ (letters : CaseTable) (old new : Tree) (P : PackageContent) (packs : TreePacksPackage letters old P) (can : CanBeRecounted letters old P) (got : GotCounts letters old P new) where
  -- what the builder of the old streams tells
  told_back : texts_give_back (told packs.pool_bytes packs.data_bytes P.pool packs.pool) packs.data_bytes ≡ Ok (list_all (λ s. text_round_trips P.pool.page s.0) packs.pool.stored)
  told_back = ap (λ r. r >>= λ stored. Ok (list_all (λ s. text_round_trips P.pool.page s.0) stored)) (texts_are_stored packs.pool_bytes packs.data_bytes P.pool packs.pool)

  give : All (Gives P.pool.page) packs.pool.stored
  give = all_give P.pool.page packs.pool.stored
      (ok_same (list_all (λ s. text_round_trips P.pool.page s.0) packs.pool.stored) true
      (sym told_back ∙ can.texts packs.pool_bytes packs.data_bytes (told packs.pool_bytes packs.data_bytes P.pool packs.pool) packs.pool_at packs.data_at (pool_is_begun packs.pool_bytes packs.data_bytes P.pool packs.pool)))

  pub again : HoldsAgain (refcounts_of P.tables) packs.data_bytes P.pool
  again = written_again (refcounts_of P.tables) packs.pool_bytes packs.data_bytes P.pool packs.pool give can.few can.used

  abbrev pub packed : TreePacksPackage letters new (recounted P)
  packed = record {
    class = got.stores.class;
    pool_bytes = pool_stream (recounted P).pool;
    data_bytes = packs.data_bytes;
    pool_at = got.pool_at;
    data_at = got.data_at ∙ packs.data_at;
    pool = again.pooled;
    rising = got.stores.rising;
    names = got.stores.names;
    rows = got.stores.rows;
    validation = got.stores.validation;
    validation_is = got.stores.validation_is;
    schema = got.stores.schema;
    columns = got.stores.columns;
    summary_bytes = packs.summary_bytes;
    summary_at = got.summary_at ∙ packs.summary_at;
    summary = packs.summary;
    summary_kind = packs.summary_kind;
    streams = got.stores.streams;
    storages = got.stores.storages;
  }

  texts_back : All (Gives P.pool.page) again.pooled.stored
  texts_back = again.texts

  pub sound_then : CanBeAdopted letters old P → IsSoundPackage letters new (recounted P) packed
  sound_then is = record {
    references = is.sound.counted.references;
    counts = is.sound.counted.counts;
    free = is.sound.free;
    texts = texts_back;
    summary_texts = is.sound.gives_back.summary packs.summary_bytes packs.summary_at;
    one_section = is.sound.named.one_section;
    no_strays = is.sound.named.no_strays;
    table_names = is.sound.named.table_names;
    no_storage = is.sound.named.no_storage;
    not_listed = is.sound.named.not_listed;
    validation_kinds = is.sound.named.validation_kinds;
    validation_keys = is.sound.named.validation_keys;
  }

  -- and back
  pub sound_before : (q : TreePacksPackage letters new (recounted P)) → IsSoundPackage letters new (recounted P) q → length P.pool.places ≤ last_place true → CanBeAdopted letters old P
  sound_before q s named = record {
    sound = record {
      counted = record { references = s.references; counts = s.counts };
      free = s.free;
      named = record {
        one_section = s.one_section;
        no_strays = s.no_strays;
        table_names = s.table_names;
        no_storage = s.no_storage;
        not_listed = s.not_listed;
        validation_kinds = s.validation_kinds;
        validation_keys = s.validation_keys;
      };
      gives_back = record {
        pool = can.texts;
        summary = λ bytes at. (
            let same : q.summary_bytes ≡ bytes = some_same q.summary_bytes bytes (sym q.summary_at ∙ got.summary_at ∙ at) in
            subst (λ b. IsTrue (summary_gives_back b)) same s.summary_texts);
      };
    };
    few = can.few;
    named = named;
  }

module _ (letters : CaseTable) (old new : Tree) (P : PackageContent) (packs : TreePacksPackage letters old P) where
  recounts : CanBeAdopted letters old P → CanBeRecounted letters old P
  recounts is = record { texts = is.sound.gives_back.pool; few = is.few; used = is.sound.free }

  pub adopted : CanBeAdopted letters old P → GotCounts letters old P new → (packed : TreePacksPackage letters new (recounted P)) × IsSoundPackage letters new (recounted P) packed
  adopted is got = (packed letters old new P packs (recounts is) got, sound_then letters old new P packs (recounts is) got is)
