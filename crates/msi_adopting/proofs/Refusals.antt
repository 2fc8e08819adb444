-- A file that holds a package is opened, and a refusal is a fault.
use Rattle.std.proofs.Common.{◌≡◌, ◌∙◌, ◌⊎◌, ℕ, Bool, true, List, [], ◌∷◌, ap, inl, inr, sym, subst}
use Rattle.std.specs.Prelude.{◌↔◌, Err, IfErr, IfOk, IsTrue, MatchResult, Ok, Result, Some, slice_get}
use Rattle.cfb.proofs.Holding.{holds_yet, tree_held}
use Rattle.cfb.specs.Streams.{FileHoldsTree}
use Rattle.cfb.specs.Views.{file_case_table, sound_of, OnlyReadsFile}
use Rattle.cfb.specs.declared.compound_file.CompoundFile.{CompoundFile}
use Rattle.cfb_entries.proofs.StreamsHeld.{stream_held}
use Rattle.cfb_spec.proofs.OneTree.{directory_same, layout_same, root_same}
use Rattle.cfb_spec.specs.Means.{HasBytes, IsOpenable, Layout, BytesMeanTree, directory}
use Rattle.cfb_medium.specs.Calls.{IsFaultOrInvalidInputIf}
use Rattle.cfb_medium.specs.declared.error.Error.{Error}
use Rattle.cfb_medium.specs.declared.medium.ReadMedium.{Ghosts}
use Rattle.cfb_opening.proofs.Readings.{means_less}
use Rattle.cfb_siblings.specs.Places.{LeadsTo}
use Rattle.cfb_soundness.proofs.Refilling.{entries_same}
use Rattle.cfb_tree.proofs.OneContent.{siblings_unique}
use Rattle.cfb_tree.specs.Directory.{Holds as HoldsContent, Siblings}
use Rattle.cfb_tree.specs.Names.{CaseTable}
use Rattle.cfb_tree.specs.Tree.{Tree}
use Rattle.msi_spec.proofs.OpenedIs.{opened_is}
use Rattle.msi_spec.specs.Opening.{keeps_encoded_names, opened}
use Rattle.msi_spec.specs.Package.{PackageContent, TreePacksPackage}
use Rattle.msi_spec.specs.declared.kind.PackageType.{PackageType}
use Rattle.msi_parts.proofs.Collected.{opened_is as parts_opened}
use Rattle.msi_parts.specs.Held.{ArePartsOfTree, headings_in}
use Rattle.msi_parts.specs.Parts.{IsSoundIn}
use Rattle.msi_parts.specs.declared.parts.PackageParts.{PackageParts}
use Rattle.msi_pool.specs.Pool.{Pool}
use Rattle.msi_props.specs.Props.{Props}
use Rattle.msi_adopting.specs.Adopted.{IsRefusedAs}
use Rattle.msi_stored.specs.Shown.{Breaks, HasBytesOrBreaks, IsBroken, IsLostPart, bytes_in}

module _ (letters : CaseTable) (bytes : List ℕ) (tree : Tree) where
  -- no chain of a stream breaks
  none_breaks : BytesMeanTree letters bytes tree → (name : List ℕ) → Breaks letters bytes name → ⊥
  none_breaks (l, m) name b =
      let k = b.layout in
      let s = b.shows in
      let dirs = directory_same bytes l k m.laid_out s.laid_out in
      let roots = root_same bytes l k m.laid_out s.laid_out in
      let siblings : Siblings (directory bytes l) l.root.child s.children =
      subst (λ r. Siblings (directory bytes l) r.child s.children) roots (subst (λ d. Siblings d k.root.child s.children) dirs s.siblings) in
      let children : s.children ≡ m.children = siblings_unique siblings m.siblings in
      let holds : HoldsContent (directory bytes l) (HasBytesOrBreaks bytes k) m.children b.tree.content k.entries =
      subst (λ ids. HoldsContent (directory bytes l) (HasBytesOrBreaks bytes k) ids b.tree.content k.entries) children
      (subst (λ d. HoldsContent d (HasBytesOrBreaks bytes k) s.children b.tree.content k.entries) dirs s.holds) in
      let entries = entries_same letters (directory bytes l) (HasBytesOrBreaks bytes k) (HasBytes bytes l) b.tree.content tree.content m.children k.entries l.entries holds m.holds in
      let same : k ≡ l = layout_same bytes l k m.laid_out s.laid_out entries in
      let leads = subst (λ (x : Layout). LeadsTo letters (directory bytes x) 0 (name ∷ []) b.id) same b.leads in
      let found = subst (λ (x : Layout). slice_get (directory bytes x) b.id ≡ Some b.entry) same b.found in
      let broken = subst (λ (x : Layout). IsBroken bytes x b.entry) same b.broken in
      let held = stream_held letters (HasBytes bytes l) (directory bytes l) tree b.entry b.of_kind (tree_held l (HasBytes bytes l) letters bytes tree m) (name ∷ []) b.id leads found in
      broken held.bytes held.reads

  pub can_open : BytesMeanTree letters bytes tree → IsOpenable letters bytes
  can_open (l, m) = (l, tree, means_less (HasBytes bytes l) (λ e content. Unit {0}) (λ e content has. tt) l letters bytes tree m)

  not_both : (found : PackageType × (Props × Pool)) (e : Error) → ◌≡◌ {A = Result (PackageType × (Props × Pool)) Error} (Ok found) (Err e) → ⊥
  not_both found e is = cc

-- parts that were read are opened
pub held_opens : (letters : CaseTable) (tree : Tree) → keeps_encoded_names letters ≡ true → (it : PackageParts) → ArePartsOfTree letters tree it → (e : Error) → opened letters tree ≡ Err e → ⊥
held_opens letters tree may it are e is =
    not_both letters [] tree (it.kind, (it.summary.props, it.pool.pool)) e (sym (parts_opened letters tree may it.kind it.summary it.pool.pool it.gives_back (headings_in it) are.parts) ∙ is)

err_same : {A : Type 0} (a b : Error) → ◌≡◌ {A = Result A Error} (Err a) (Err b) → a ≡ b
err_same a b e = cc

module _ {F : Type 0} {g : Ghosts F} where
  -- what opening refuses is refused so
  pub refused_as : (it : CompoundFile F g) (tree : Tree) (e expected : Error) → IsLostPart (file_case_table it) (bytes_in it) e ⊎ (opened (file_case_table it) tree ≡ Err e) → opened (file_case_table it) tree ≡ Err expected
      → IsRefusedAs (file_case_table it) (bytes_in it) expected e
  refused_as it tree e expected (inl lost) is = inl lost
  refused_as it tree e expected (inr told) is = inr (err_same e expected (sym told ∙ is))

  -- opening refuses no package that the file holds
  pub part_fault : (it : CompoundFile F g) (tree : Tree) (P : PackageContent) (e : Error) → FileHoldsTree it tree → keeps_encoded_names (file_case_table it) ≡ true → TreePacksPackage (file_case_table it) tree P
      → IsLostPart (file_case_table it) (bytes_in it) e ⊎ (opened (file_case_table it) tree ≡ Err e) → IsFaultOrInvalidInputIf ⊥ e
  part_fault it tree P e holds may packs (inl (inl fault)) = fault
  part_fault it tree P e holds may packs (inl (inr broken)) = absurd (none_breaks (file_case_table it) (bytes_in it) tree (holds.layout, holds.means) broken.name broken.breaks)
  part_fault it tree P e holds may packs (inr is) =
      absurd (not_both (file_case_table it) (bytes_in it) tree (P.kind, (P.summary, P.pool)) e (sym (opened_is (file_case_table it) tree P packs may) ∙ is))

  -- what was judged of the file after its parts were read is so of the file before
  pub judged_then : (a b : CompoundFile F g) → OnlyReadsFile a b → (tree : Tree) → FileHoldsTree a tree → keeps_encoded_names (file_case_table a) ≡ true → (parts : PackageParts) → ArePartsOfTree (file_case_table a) tree parts
      → (r : Result Bool Error)
      → ((tree : Tree) → FileHoldsTree b tree → keeps_encoded_names (file_case_table b) ≡ true → ArePartsOfTree (file_case_table b) tree parts → IfOk r (λ is. IsTrue is ↔ IsSoundIn (file_case_table b) tree (sound_of b)))
      → IfErr r (IsFaultOrInvalidInputIf ⊥) → MatchResult r (λ is. IsTrue is ↔ IsSoundIn (file_case_table a) tree (sound_of a)) (IsFaultOrInvalidInputIf ⊥)
  judged_then a b rests tree held may parts are r told fault =
      by r (told tree (holds_yet a b tree rests held) (ap keeps_encoded_names rests.letters ∙ may) (subst (λ l. ArePartsOfTree l tree parts) (sym rests.letters) are)) fault
    where
      by : (r : Result Bool Error) → IfOk r (λ is. IsTrue is ↔ IsSoundIn (file_case_table b) tree (sound_of b)) → IfErr r (IsFaultOrInvalidInputIf ⊥)
          → MatchResult r (λ is. IsTrue is ↔ IsSoundIn (file_case_table a) tree (sound_of a)) (IsFaultOrInvalidInputIf ⊥)
      by (Ok is) told fault = subst (λ s. IsTrue is ↔ IsSoundIn (file_case_table a) tree s) rests.sound (subst (λ l. IsTrue is ↔ IsSoundIn l tree (sound_of b)) rests.letters told)
      by (Err e) told fault = fault

  -- and so is what was found sound
  pub found_then : (a b : CompoundFile F g) → OnlyReadsFile a b → (tree : Tree) → FileHoldsTree a tree → keeps_encoded_names (file_case_table a) ≡ true → (parts : PackageParts) → ArePartsOfTree (file_case_table a) tree parts
      → (r : Result Bool Error)
      → ((tree : Tree) → FileHoldsTree b tree → keeps_encoded_names (file_case_table b) ≡ true → ArePartsOfTree (file_case_table b) tree parts → IfOk r (λ is. IsTrue is ↔ IsSoundIn (file_case_table b) tree (sound_of b)))
      → IfOk r (λ is. IsTrue is → IsSoundIn (file_case_table a) tree (sound_of a))
  found_then a b rests tree held may parts are r told =
      by r (told tree (holds_yet a b tree rests held) (ap keeps_encoded_names rests.letters ∙ may) (subst (λ l. ArePartsOfTree l tree parts) (sym rests.letters) are))
    where
      by : (r : Result Bool Error) → IfOk r (λ is. IsTrue is ↔ IsSoundIn (file_case_table b) tree (sound_of b)) → IfOk r (λ is. IsTrue is → IsSoundIn (file_case_table a) tree (sound_of a))
      by (Ok is) told = λ yes. subst (λ s. IsSoundIn (file_case_table a) tree s) rests.sound (subst (λ l. IsSoundIn l tree (sound_of b)) rests.letters (told.0 yes))
      by (Err e) told = tt
