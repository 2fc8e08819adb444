-- A package is sound by one way of packing where it is by each other.
use Rattle.std.proofs.Common.{◌≡◌, ◌∙◌, true, List, [], ◌∷◌, refl, sym, ap, subst, arith, Ok}
use Rattle.std.specs.Prelude.{◌&&◌, All, IsTrue, bytes_eq}
use Rattle.std.specs.List.{list_all}
use Rattle.std.proofs.lemmas.Bool.{and_parts}
use Rattle.std.proofs.lemmas.List.Elements.{All-cons, All-head, All-tail}
use Rattle.cfb_tree.specs.Names.{CaseTable}
use Rattle.cfb_tree.specs.Tree.{Tree}
use Rattle.msi_texts.specs.Page.{decoded, encoded}
use Rattle.msi_texts.specs.Results.{◌>>=◌}
use Rattle.msi_texts.specs.declared.codepage.CodePage.{CodePage}
use Rattle.msi_pool.specs.Pool.{StoredText}
use Rattle.msi_pool.specs.PoolReading.{begun, text_round_trips, texts_give_back}
use Rattle.msi_pool.proofs.PoolFound.{pool_is_begun, texts_are_stored, told}
use Rattle.msi_props.specs.Props.{texts_give_back as summary_gives_back}
use Rattle.msi_spec.specs.Package.{PackageContent, TreePacksPackage}
use Rattle.msi_spec.specs.Sound.{IsSoundPackage}
use Rattle.msi_spec.specs.SoundParts.{HasSoundParts}
use Rattle.msi_spec.proofs.PacksOnce.{ok_same, some_same}
use Rattle.msi_spec.proofs.SystemRows.{bytes_same, same_bytes}

-- ---- texts that give back their bytes, by a test and by an equation

abbrev Gives : CodePage → StoredText → Type 0
Gives page s = encoded page (decoded page s.0) ≡ s.0

pub all_give : (page : CodePage) (stored : List StoredText) → list_all (λ s. text_round_trips page s.0) stored ≡ true → All (Gives page) stored
all_give page [] e = λ k d l. absurd (omega (arith, l))
all_give page (s ∷ ss) e =
    let both = and_parts (text_round_trips page s.0) (list_all (λ s. text_round_trips page s.0) ss) e in
    All-cons (Gives page) s ss (same_bytes (encoded page (decoded page s.0)) s.0 both.0) (all_give page ss both.1)

give_all : (page : CodePage) (stored : List StoredText) → All (Gives page) stored → list_all (λ s. text_round_trips page s.0) stored ≡ true
give_all page [] h = refl
give_all page (s ∷ ss) h =
    let here : text_round_trips page s.0 ≡ true = ap (λ b. bytes_eq b s.0) (All-head (Gives page) s ss h) ∙ bytes_same s.0 in
    ap (λ b. b && list_all (λ s. text_round_trips page s.0) ss) here ∙ give_all page ss (All-tail (Gives page) s ss h)

module _ (letters : CaseTable) (tree : Tree) (P : PackageContent) (packs : TreePacksPackage letters tree P) where
  -- what the builder of these streams tells
  told_back : texts_give_back (told packs.pool_bytes packs.data_bytes P.pool packs.pool) packs.data_bytes ≡ Ok (list_all (λ s. text_round_trips P.pool.page s.0) packs.pool.stored)
  told_back = ap (λ r. r >>= λ stored. Ok (list_all (λ s. text_round_trips P.pool.page s.0) stored)) (texts_are_stored packs.pool_bytes packs.data_bytes P.pool packs.pool)

  pub sound_anyway : IsSoundPackage letters tree P packs → HasSoundParts letters tree P
  sound_anyway s = record {
    counted = record { references = s.references; counts = s.counts };
    free = s.free;
    named = record {
      one_section = s.one_section;
      no_strays = s.no_strays;
      table_names = s.table_names;
      no_storage = s.no_storage;
      not_listed = s.not_listed;
      validation_kinds = s.validation_kinds;
      validation_keys = s.validation_keys;
    };
    gives_back = record {
      pool = λ pool_bytes data_bytes builder at also begins. (
          let first : pool_bytes ≡ packs.pool_bytes = some_same pool_bytes packs.pool_bytes (sym at ∙ packs.pool_at) in
          let second : data_bytes ≡ packs.data_bytes = some_same data_bytes packs.data_bytes (sym also ∙ packs.data_at) in
          let one : builder ≡ told packs.pool_bytes packs.data_bytes P.pool packs.pool =
          ok_same builder (told packs.pool_bytes packs.data_bytes P.pool packs.pool) (sym begins ∙ ap begun first ∙ pool_is_begun packs.pool_bytes packs.data_bytes P.pool packs.pool) in
          ap (λ b. texts_give_back b data_bytes) one ∙ ap (texts_give_back (told packs.pool_bytes packs.data_bytes P.pool packs.pool)) second ∙ told_back
          ∙ ap (λ b. Ok b) (give_all P.pool.page packs.pool.stored s.texts));
      summary = λ bytes at. (
          let same : packs.summary_bytes ≡ bytes = some_same packs.summary_bytes bytes (sym packs.summary_at ∙ at) in
          subst (λ b. IsTrue (summary_gives_back b)) same s.summary_texts);
    };
  }

  pub sound_so : HasSoundParts letters tree P → IsSoundPackage letters tree P packs
  sound_so s = record {
    references = s.counted.references;
    counts = s.counted.counts;
    free = s.free;
    texts = all_give P.pool.page packs.pool.stored
        (ok_same (list_all (λ s. text_round_trips P.pool.page s.0) packs.pool.stored) true
        (sym told_back ∙ s.gives_back.pool packs.pool_bytes packs.data_bytes (told packs.pool_bytes packs.data_bytes P.pool packs.pool) packs.pool_at packs.data_at (pool_is_begun packs.pool_bytes packs.data_bytes P.pool packs.pool)));
    summary_texts = s.gives_back.summary packs.summary_bytes packs.summary_at;
    one_section = s.named.one_section;
    no_strays = s.named.no_strays;
    table_names = s.named.table_names;
    no_storage = s.named.no_storage;
    not_listed = s.named.not_listed;
    validation_kinds = s.named.validation_kinds;
    validation_keys = s.named.validation_keys;
  }
