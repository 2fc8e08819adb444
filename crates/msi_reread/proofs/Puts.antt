-- Streams that get other bytes: what the file means then, and why no rule refuses it.
use Rattle.std.proofs.Common.{◌≡◌, ◌∙◌, ℕ, true, false, List, [], ◌∷◌, sym, ap, subst, refl, ⊎_elim}
use Rattle.std.specs.Prelude.{Err, IfErr, Ok, OnOk, Option, Result, Some}
use Rattle.cfb.proofs.PutStreams.{means_shown}
use Rattle.cfb.specs.FollowedRules.{FileMeansTree}
use Rattle.cfb.specs.Putting.{FilePuts, answer_by, rewriting}
use Rattle.cfb.specs.Views.{file_case_table}
use Rattle.cfb.specs.declared.compound_file.CompoundFile.{CompoundFile}
use Rattle.cfb_entries.specs.Rules.{names_in}
use Rattle.std.specs.Str.{chars}
use Rattle.cfb_tree_edits.specs.LiveTreeRules.{IsFaultOrFull}
use Rattle.cfb_spec.specs.TreeRules.{Outcome, done, refused}
use Rattle.cfb_medium.specs.declared.error.Error.{Error}
use Rattle.cfb_medium.specs.declared.medium.ReadMedium.{Ghosts}
use Rattle.cfb_tree.proofs.OneContent.{Some_same}
use Rattle.cfb_tree.specs.Names.{CaseTable}
use Rattle.cfb_tree.specs.Paths.{Path}
use Rattle.cfb_tree.specs.Tree.{Tree}
use Rattle.msi_adopting.proofs.Put.{found, is_put, outcome}
use Rattle.msi_spec.specs.Opening.{keeps_encoded_names}
use Rattle.msi_spec.specs.Package.{data_name, objects, pool_name, stream_at, stream_name, summary_name}
use Rattle.msi_streams.proofs.Own.{data_not_pool, stream_yet}
use Rattle.msi_reread.specs.Reread.{with_stream, HasPoolStreams, HasSummaryStream}

module _ {F : Type 0} {g : Ghosts F} (name : List ℕ) (path : Option Path) (at : path ≡ Some (name ∷ [])) (old new : CompoundFile F g) (bytes : List ℕ) where
  pub put_means : (x : Unit {0}) → FilePuts {T = Unit {0}} (rewriting bytes) path (Ok x) old new → (tree : Tree) → FileMeansTree old tree → FileMeansTree new (with_stream (file_case_table old) name bytes tree)
  put_means x p tree m =
      let d = p.done tree m in
      let same : d.names ≡ name ∷ [] = Some_same (sym d.at_path ∙ at) in
      subst (λ (n : Path). FileMeansTree new (rewriting bytes (file_case_table old) tree n).0) same d.means

  -- no rule refuses it, where the stream is there
  pub put_fault : (e : Error) → FilePuts {T = Unit {0}} (rewriting bytes) path (Err e) old new → (tree : Tree) → FileMeansTree old tree → (own : List ℕ) → stream_at (file_case_table old) (objects tree.content) name ≡ Some own
      → IsFaultOrFull e
  put_fault e p tree m own there = ⊎_elim (λ fault. fault)
      (λ told.
      let is = ap (λ (x : Outcome). x.1) (outcome (file_case_table old) tree name bytes (found (file_case_table old) tree name own there)) in
      let never : done ≡ refused e = sym is ∙ sym (ap (answer_by (rewriting bytes) (file_case_table old) tree) at) ∙ told.0 in absurd (cc))
      (p.refused tree m)

-- the other stream of the pool is there still
module _ {F : Type 0} {g : Ghosts F} (old : CompoundFile F g) (tree : Tree) (m : FileMeansTree old tree) (may : keeps_encoded_names (file_case_table old) ≡ true) (bytes : List ℕ) (has : HasPoolStreams (file_case_table old) tree) where
  pub data_yet : stream_at (file_case_table old) (objects (with_stream (file_case_table old) (stream_name pool_name) bytes tree).content) (stream_name data_name) ≡ Some has.texts
  data_yet =
      let letters = file_case_table old in
      let s = found letters tree (stream_name pool_name) has.pool has.pool_at in
      let put = is_put letters tree (stream_name pool_name) bytes s (means_shown old tree m).ordered.0 in
      stream_yet letters may (stream_name pool_name) bytes tree (with_stream letters (stream_name pool_name) bytes tree) put (stream_name data_name) (data_not_pool letters may) ∙ has.data_at

-- the summary's name is a path of one name
pub summary_path : names_in summary_name ≡ Some (summary_name ∷ [])
unfolding chars
summary_path = refl

module _ {F : Type 0} {g : Ghosts F} where
  -- the second stream is put over the file that the first left
  pub both_mean : (pool_path data_path : Option Path) → pool_path ≡ Some (stream_name pool_name ∷ []) → data_path ≡ Some (stream_name data_name ∷ []) → (old mid new : CompoundFile F g) (pool texts : List ℕ) (x y : Unit {0})
      → FilePuts {T = Unit {0}} (rewriting pool) pool_path (Ok x) old mid → FilePuts {T = Unit {0}} (rewriting texts) data_path (Ok y) mid new → (tree : Tree) → FileMeansTree old tree
      → FileMeansTree new (with_stream (file_case_table old) (stream_name data_name) texts (with_stream (file_case_table old) (stream_name pool_name) pool tree))
  both_mean pool_path data_path pool_at data_at old mid new pool texts x y one two tree m =
      let first = put_means (stream_name pool_name) pool_path pool_at old mid pool x one tree m in
      let between = with_stream (file_case_table old) (stream_name pool_name) pool tree in
      subst (λ l. FileMeansTree new (with_stream l (stream_name data_name) texts between)) one.seen.0 (put_means (stream_name data_name) data_path data_at mid new texts y two between first)

  pub second_fault : (pool_path data_path : Option Path) → pool_path ≡ Some (stream_name pool_name ∷ []) → data_path ≡ Some (stream_name data_name ∷ []) → (old mid new : CompoundFile F g) (pool texts : List ℕ) (x : Unit {0}) (e : Error)
      → FilePuts {T = Unit {0}} (rewriting pool) pool_path (Ok x) old mid → FilePuts {T = Unit {0}} (rewriting texts) data_path (Err e) mid new → (tree : Tree) → FileMeansTree old tree
      → keeps_encoded_names (file_case_table old) ≡ true → HasPoolStreams (file_case_table old) tree → IsFaultOrFull e
  second_fault pool_path data_path pool_at data_at old mid new pool texts x e one two tree m may has =
      let first = put_means (stream_name pool_name) pool_path pool_at old mid pool x one tree m in
      let between = with_stream (file_case_table old) (stream_name pool_name) pool tree in
      put_fault (stream_name data_name) data_path data_at mid new texts e two between first has.texts
      (subst (λ l. stream_at l (objects between.content) (stream_name data_name) ≡ Some has.texts) (sym one.seen.0) (data_yet old tree m may pool has))

  pub summary_done : (old new : CompoundFile F g) (bytes : List ℕ) (r : Result (Unit {0}) Error) → FilePuts (rewriting bytes) (names_in summary_name) r old new
      → OnOk r ((tree : Tree) → FileMeansTree old tree → FileMeansTree new (with_stream (file_case_table old) summary_name bytes tree))
  summary_done old new bytes (Ok x) p = put_means summary_name (names_in summary_name) summary_path old new bytes x p
  summary_done old new bytes (Err e) p = tt

  pub summary_fault : (old new : CompoundFile F g) (bytes : List ℕ) (r : Result (Unit {0}) Error) → FilePuts (rewriting bytes) (names_in summary_name) r old new
      → IfErr r (λ e. (tree : Tree) → FileMeansTree old tree → HasSummaryStream (file_case_table old) tree → IsFaultOrFull e)
  summary_fault old new bytes (Ok x) p = tt
  summary_fault old new bytes (Err e) p = λ tree m has. put_fault summary_name (names_in summary_name) summary_path old new bytes e p tree m has.bytes has.at
