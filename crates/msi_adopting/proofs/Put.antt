-- The pool's first stream, put in the place of the one that is there: the tree got right counts.
use Rattle.std.proofs.Common.{◌≡◌, ◌∙◌, ℕ, true, false, List, [], ◌∷◌, refl, sym, ap, subst, ⊎_elim}
use Rattle.std.specs.Prelude.{Err, None, Ok, Option, Some, option_and_then}
use Rattle.std.specs.List.Sorted.{IsStrictlySortedBy}
use Rattle.cfb.proofs.PutStreams.{means_shown}
use Rattle.cfb.proofs.Rewriting.{rewritten_there}
use Rattle.cfb.specs.FollowedRules.{FileMeansTree}
use Rattle.cfb.specs.Putting.{FilePuts, answer_by, rewriting}
use Rattle.cfb.specs.Views.{file_case_table}
use Rattle.cfb.specs.declared.compound_file.CompoundFile.{CompoundFile}
use Rattle.cfb_tree_edits.specs.LiveTreeRules.{IsFaultOrFull}
use Rattle.cfb_spec.specs.TreeRules.{Outcome, done, refused}
use Rattle.cfb_medium.specs.declared.error.Error.{Error}
use Rattle.cfb_medium.specs.declared.medium.ReadMedium.{Ghosts}
use Rattle.cfb_tree.proofs.OneContent.{Some_same}
use Rattle.cfb_tree.specs.Changes.{changed, with_bytes}
use Rattle.cfb_tree.specs.Names.{CaseTable, name_cmp}
use Rattle.cfb_tree.specs.Objects.{Object, a_storage, a_stream, is_same_name}
use Rattle.cfb_tree.specs.Paths.{Path}
use Rattle.cfb_tree.specs.Tree.{Tree, child_names}
use Rattle.msi_spec.proofs.Splitting.{parted}
use Rattle.msi_spec.proofs.UnderRoot.{at_path}
use Rattle.msi_spec.specs.Opening.{keeps_encoded_names}
use Rattle.msi_spec.specs.Package.{PackageContent, at_name, data_name, is_stream, object_bytes, objects, pool_name, stream_at, stream_name, summary_name}
use Rattle.msi_recounted.proofs.Recounting.{stored}
use Rattle.msi_recounted.specs.Recounted.{GotCounts, recounted}
use Rattle.msi_streams.proofs.Changes.{put_where_one}
use Rattle.msi_streams.proofs.Marks.{key_of_same, same_of_key}
use Rattle.msi_streams.proofs.Own.{IsPut, data_not_pool, own_stores, pool_apart, pool_not_summary, put_at, stream_yet}
use Rattle.msi_streams.proofs.Stored.{not_true}
use Rattle.msi_adopting.specs.Adopted.{GetsPool}

object_same : (a b : Object) → Some a ≡ Some b → a ≡ b
object_same a b e = cc

-- a stream stands at the name
pub record HasStreamAt (letters : CaseTable) (tree : Tree) (name : List ℕ) : Type 0 where
  pub key : List ℕ
  pub bits : ℕ
  pub content : List ℕ
  pub there : at_name letters (objects tree.content) name ≡ Some (a_stream key bits content)

module _ (letters : CaseTable) (tree : Tree) (name : List ℕ) where
  pub found : (b : List ℕ) → stream_at letters (objects tree.content) name ≡ Some b → HasStreamAt letters tree name
  found b is = by (at_name letters (objects tree.content) name) refl
    where
      by : (o : Option Object) → at_name letters (objects tree.content) name ≡ o → HasStreamAt letters tree name
      by None e = let never : None ≡ Some b = sym (ap (option_and_then object_bytes) e) ∙ is in absurd (cc)
      by (Some (a_storage n f inside)) e = let never : None ≡ Some b = sym (ap (option_and_then object_bytes) e) ∙ is in absurd (cc)
      by (Some (a_stream n s content)) e = record { key = n; bits = s; content = content; there = e }

  module _ (bytes : List ℕ) (s : HasStreamAt letters tree name) where
    pub outcome : rewriting bytes letters tree (name ∷ []) ≡ (changed letters (with_bytes bytes) (name ∷ []) tree, done)
    outcome = rewritten_there letters tree bytes (name ∷ []) s.key s.bits s.content (at_path letters tree name ∙ s.there)

    pub is_put : IsStrictlySortedBy (name_cmp letters) (child_names tree.content) → IsPut letters name bytes tree (rewriting bytes letters tree (name ∷ [])).0
    is_put rising = subst (λ (x : Outcome). IsPut letters name bytes tree x.0) (sym outcome)
        (record {
          root = refl;
          put = put_where_one letters name tree rising bytes (a_stream s.key s.bits s.content) s.there;
          streams = λ o at. subst (λ (o : Object). is_stream o ≡ true) (object_same (a_stream s.key s.bits s.content) o (sym s.there ∙ at)) refl;
        })

module _ (letters : CaseTable) (may : keeps_encoded_names letters ≡ true) where
  summary_not_pool : is_same_name letters summary_name (stream_name pool_name) ≡ false
  summary_not_pool = not_true _ (λ same.
      let turned : is_same_name letters (stream_name pool_name) summary_name ≡ true =
      same_of_key letters (stream_name pool_name) summary_name (sym (key_of_same letters summary_name (stream_name pool_name) same)) in
      let never : true ≡ false = sym turned ∙ pool_not_summary letters may in cc)

-- the tree with that stream
got_counts : (letters : CaseTable) (tree : Tree) (P : PackageContent) (bytes : List ℕ) → GetsPool letters tree P bytes → (after : Tree) → IsPut letters (stream_name pool_name) bytes tree after → GotCounts letters tree P after
got_counts letters tree P bytes gets after is =
    let may = gets.usable in
    let name = stream_name pool_name in
    record {
      stores = own_stores letters may name bytes tree after is (recounted P) (pool_apart letters may (recounted P) gets.names) (stored letters tree P (parted letters tree P gets.packs).0);
      pool_at = put_at letters may name bytes tree after is ∙ ap (λ b. Some b) gets.stream;
      data_at = stream_yet letters may name bytes tree after is (stream_name data_name) (data_not_pool letters may);
      summary_at = stream_yet letters may name bytes tree after is summary_name (summary_not_pool letters may);
    }

module _ {F : Type 0} {g : Ghosts F} (path : Option Path) (at : path ≡ Some (stream_name pool_name ∷ [])) (old : CompoundFile F g) (tree : Tree) (P : PackageContent) (m : FileMeansTree old tree) (bytes : List ℕ) (gets : GetsPool (file_case_table old) tree P bytes) where
  there : HasStreamAt (file_case_table old) tree (stream_name pool_name)
  there = found (file_case_table old) tree (stream_name pool_name) gets.packs.pool_bytes gets.packs.pool_at

  pub rewritten : (new : CompoundFile F g) (x : Unit {0}) → FilePuts {T = Unit {0}} (rewriting bytes) path (Ok x) old new → (after : Tree) × FileMeansTree new after × GotCounts (file_case_table old) tree P after
  rewritten new x p =
      let d = p.done tree m in
      let name = stream_name pool_name in
      let same : d.names ≡ name ∷ [] = Some_same (sym d.at_path ∙ at) in
      let after = (rewriting bytes (file_case_table old) tree (name ∷ [])).0 in (
        after,
        subst (λ (n : Path). FileMeansTree new (rewriting bytes (file_case_table old) tree n).0) same d.means,
        got_counts (file_case_table old) tree P bytes gets after (is_put (file_case_table old) tree name bytes there (means_shown old tree m).ordered.0),
      )

  -- no rule refuses it
  pub rewrite_fault : (new : CompoundFile F g) (e : Error) → FilePuts {T = Unit {0}} (rewriting bytes) path (Err e) old new → IsFaultOrFull e
  rewrite_fault new e p = ⊎_elim (λ fault. fault)
      (λ told.
      let is = ap (λ (x : Outcome). x.1) (outcome (file_case_table old) tree (stream_name pool_name) bytes there) in
      let never : done ≡ refused e = sym is ∙ sym (ap (answer_by (rewriting bytes) (file_case_table old) tree) at) ∙ told.0 in absurd (cc))
      (p.refused tree m)
