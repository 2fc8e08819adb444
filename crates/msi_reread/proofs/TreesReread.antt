-- A file whose streams were read, and then put: what it means behind both.
use Rattle.std.proofs.Common.{◌≡◌, ◌∙◌, ◌⊎◌, ℕ, List, [], true, ap, inl, inr, refl, subst, sym, ⊎_elim}
use Rattle.std.specs.Prelude.{Err, IfErr, IfOk, None, Ok, OnErr, Option, Result, Some}
use Rattle.cfb.proofs.LiveMeaning.{means_read}
use Rattle.cfb.specs.FollowedRules.{FileMeansTree}
use Rattle.cfb.specs.Putting.{KeepsMeant}
use Rattle.cfb.specs.Views.{file_case_table, mini_of, OnlyReadsFile}
use Rattle.cfb.specs.declared.compound_file.CompoundFile.{CompoundFile}
use Rattle.cfb_fat.specs.Tables.{has_failed_here}
use Rattle.cfb_medium.specs.Calls.{IsFaultOrInvalidInputIf}
use Rattle.cfb_medium.specs.declared.error.Error.{Error}
use Rattle.cfb_medium.specs.declared.error.Error.TheVariants.{NotFound}
use Rattle.cfb_medium.specs.declared.medium.ReadMedium.{Ghosts}
use Rattle.cfb_mini.specs.Views.{allocator_of}
use Rattle.cfb_tree.specs.Names.{CaseTable}
use Rattle.cfb_tree.specs.Tree.{Tree}
use Rattle.cfb_tree_edits.specs.LiveTreeRules.{IsFaultOrFull}
use Rattle.msi_spec.specs.Opening.{keeps_encoded_names}
use Rattle.msi_spec.specs.Package.{data_name, objects, pool_name, stream_at, summary_name, table_stream}
use Rattle.msi_texts.specs.Results.{◌>>=◌, or_refused}
use Rattle.reread_texts.specs.Pools.{pool_reread}
use Rattle.reread_texts.specs.Pools as pools
use Rattle.reread_texts.specs.Sets.{set_reread}
use Rattle.reread_texts.specs.Sets as sets
use Rattle.reread_texts.specs.Told.{told_in_utf8}
use Rattle.reread_texts.specs.declared.page.TextPage.{TextPage}
use Rattle.msi_reread.specs.Reread.{summary_by, texts_after, texts_by, with_stream, with_texts, AreTextsReread, HasPoolStreams, HasSummaryStream, IsReread, IsSummaryReread, SummaryStep, TextsStep}

-- ---- what could be read is there

module _ (letters : CaseTable) (p : TextPage) (tree : Tree) where
  abbrev pool_there : Option (List ℕ)
  pool_there = table_stream letters (objects tree.content) pool_name

  abbrev texts_there : Option (List ℕ)
  texts_there = table_stream letters (objects tree.content) data_name

  pub has_pool : (s : pools.Rewritten) → texts_by letters p tree ≡ Ok s → HasPoolStreams letters tree
  has_pool s is = by pool_there refl
    where
      second : (pool : List ℕ) → pool_there ≡ Some pool → texts_after letters p tree pool ≡ Ok s → (o : Option (List ℕ)) → texts_there ≡ o → HasPoolStreams letters tree
      second pool at read None none = let never : Err NotFound ≡ Ok s = sym (ap (λ o. or_refused o NotFound >>= λ t. pool_reread p pool t) none) ∙ read in absurd (cc)
      second pool at read (Some texts) there = record { pool = pool; texts = texts; pool_at = at; data_at = there }

      by : (o : Option (List ℕ)) → pool_there ≡ o → HasPoolStreams letters tree
      by None none = let never : Err NotFound ≡ Ok s = sym (ap (λ o. or_refused o NotFound >>= texts_after letters p tree) none) ∙ is in absurd (cc)
      by (Some pool) there = second pool there (sym (ap (λ o. or_refused o NotFound >>= texts_after letters p tree) there) ∙ is) texts_there refl

  pub has_summary : (s : sets.Rewritten) → summary_by letters p tree ≡ Ok s → HasSummaryStream letters tree
  has_summary s is = by (stream_at letters (objects tree.content) summary_name) refl
    where
      by : (o : Option (List ℕ)) → stream_at letters (objects tree.content) summary_name ≡ o → HasSummaryStream letters tree
      by None none = let never : Err NotFound ≡ Ok s = sym (ap (λ o. or_refused o NotFound >>= λ b. set_reread p (told_in_utf8 b)) none) ∙ is in absurd (cc)
      by (Some bytes) there = record { bytes = bytes; at = there }

-- ---- a file that was read, and then changed

module _ {F : Type 0} {g : Ghosts F} (a mid : CompoundFile F g) (rests : OnlyReadsFile a mid) where
  pub keeps_read : KeepsMeant a mid
  keeps_read = record { means = λ tree. means_read a mid tree rests }

  pub rests_later : {X : Type 0} (new : CompoundFile F g) (r : Result X Error) → OnErr r ((has_failed_here (allocator_of (mini_of new)) ≡ true) ⊎ KeepsMeant mid new)
      → OnErr r ((has_failed_here (allocator_of (mini_of new)) ≡ true) ⊎ KeepsMeant a new)
  rests_later new (Ok x) told = tt
  rests_later new (Err e) told = elim told [ inl failed ↦ inl failed | inr kept ↦ inr (record { means = λ tree m. kept.means tree (means_read a mid tree rests m) }) ]

  module _ (tree : Tree) (m : FileMeansTree a tree) (p : TextPage) where
    pub texts_reread : {X : Type 0} (see : X → List ℕ) (new : CompoundFile F g) (s : pools.Rewritten) → texts_by (file_case_table a) p tree ≡ Ok s → (r : Result X Error)
        → ((tree : Tree) → FileMeansTree mid tree → IfOk r (λ l. FileMeansTree new (with_texts (file_case_table mid) s.0 s.1 tree) × (see l ≡ s.2)))
        → IfOk r (λ l. (after : Tree) × FileMeansTree new after × AreTextsReread (file_case_table a) p tree after (see l))
    texts_reread see new s read (Ok x) told =
        let did = told tree (means_read a mid tree rests m) in (
          with_texts (file_case_table a) s.0 s.1 tree,
          subst (λ l. FileMeansTree new (with_texts l s.0 s.1 tree)) rests.letters did.0,
          record { streams = s; read = read; put = refl; lacks = did.1 },
        )
    texts_reread see new s read (Err e) told = tt

    pub texts_refused : (s : pools.Rewritten) → texts_by (file_case_table a) p tree ≡ Ok s → keeps_encoded_names (file_case_table a) ≡ true → (e : Error)
        → ((tree : Tree) → FileMeansTree mid tree → keeps_encoded_names (file_case_table mid) ≡ true → HasPoolStreams (file_case_table mid) tree → IsFaultOrFull e) → IsFaultOrFull e
    texts_refused s read may e told =
        told tree (means_read a mid tree rests m) (ap keeps_encoded_names rests.letters ∙ may) (subst (λ l. HasPoolStreams l tree) (sym rests.letters) (has_pool (file_case_table a) p tree s read))

    pub summary_reread : {X : Type 0} (see : X → List ℕ) (new : CompoundFile F g) (s : sets.Rewritten) → summary_by (file_case_table a) p tree ≡ Ok s → (r : Result X Error)
        → ((tree : Tree) → FileMeansTree mid tree → IfOk r (λ l. FileMeansTree new (with_stream (file_case_table mid) summary_name s.0 tree) × (see l ≡ s.1)))
        → IfOk r (λ l. (after : Tree) × FileMeansTree new after × IsSummaryReread (file_case_table a) p tree after (see l))
    summary_reread see new s read (Ok x) told =
        let did = told tree (means_read a mid tree rests m) in (
          with_stream (file_case_table a) summary_name s.0 tree,
          subst (λ l. FileMeansTree new (with_stream l summary_name s.0 tree)) rests.letters did.0,
          record { set = s; read = read; put = refl; lacks = did.1 },
        )
    summary_reread see new s read (Err e) told = tt

    pub summary_refused : (s : sets.Rewritten) → summary_by (file_case_table a) p tree ≡ Ok s → (e : Error)
        → ((tree : Tree) → FileMeansTree mid tree → HasSummaryStream (file_case_table mid) tree → IsFaultOrFull e) → IsFaultOrFull e
    summary_refused s read e told = told tree (means_read a mid tree rests m) (subst (λ l. HasSummaryStream l tree) (sym rests.letters) (has_summary (file_case_table a) p tree s read))

-- an error of reading
pub unread : (e : Error) (told : Type 0) → IsFaultOrInvalidInputIf ⊥ e ⊎ told → IsFaultOrFull e ⊎ told
unread e told why = elim why [ inl fault ↦ inl (inl fault) | inr is ↦ inr is ]

-- both parts, one after the other
module _ {F : Type 0} {g : Ghosts F} (a mid new : CompoundFile F g) (same : file_case_table mid ≡ file_case_table a) (texts summary : Option TextPage) (tree : Tree) where
  pub both_reread : (lacking unread_ones : List ℕ) → (between : Tree) × FileMeansTree mid between × TextsStep (file_case_table a) texts tree between lacking
      → ((tree : Tree) → FileMeansTree mid tree → (after : Tree) × FileMeansTree new after × SummaryStep (file_case_table mid) summary tree after unread_ones)
      → (after : Tree) × FileMeansTree new after × IsReread (file_case_table a) texts summary tree after lacking unread_ones
  both_reread lacking unread_ones one two =
      let did = two one.0 one.1 in
      (did.0, did.1, record { between = one.0; first = one.2; second = subst (λ l. SummaryStep l summary one.0 did.0 unread_ones) same did.2 })

-- why it was refused
module _ {F : Type 0} {g : Ghosts F} (a mid : CompoundFile F g) (rests : OnlyReadsFile a mid) (p : TextPage) where
  pub texts_refused_so : {X : Type 0} (s : pools.Rewritten) → ((tree : Tree) → FileMeansTree a tree → texts_by (file_case_table a) p tree ≡ Ok s) → (r : Result X Error)
      → IfErr r (λ e. (tree : Tree) → FileMeansTree mid tree → keeps_encoded_names (file_case_table mid) ≡ true → HasPoolStreams (file_case_table mid) tree → IsFaultOrFull e)
      → IfErr r (λ e. (tree : Tree) → FileMeansTree a tree → keeps_encoded_names (file_case_table a) ≡ true → IsFaultOrFull e ⊎ (texts_by (file_case_table a) p tree ≡ Err e))
  texts_refused_so s read (Ok x) told = tt
  texts_refused_so s read (Err e) told = λ tree m may. inl (texts_refused a mid rests tree m p s (read tree m) may e told)

  pub summary_refused_so : {X : Type 0} (s : sets.Rewritten) → ((tree : Tree) → FileMeansTree a tree → summary_by (file_case_table a) p tree ≡ Ok s) → (r : Result X Error)
      → IfErr r (λ e. (tree : Tree) → FileMeansTree mid tree → HasSummaryStream (file_case_table mid) tree → IsFaultOrFull e)
      → IfErr r (λ e. (tree : Tree) → FileMeansTree a tree → IsFaultOrFull e ⊎ (summary_by (file_case_table a) p tree ≡ Err e))
  summary_refused_so s read (Ok x) told = tt
  summary_refused_so s read (Err e) told = λ tree m. inl (summary_refused a mid rests tree m p s (read tree m) e told)
