-- Bytes that hold a sound package are opened as this package.
use Rattle.std.proofs.Common.{◌≡◌, ◌∙◌, ℕ, true, false, List, [], ◌∷◌, inl, inr, sym, subst}
use Rattle.std.specs.Prelude.{⊤, Err, IsTrue, Ok, Result, Some, slice_get}
use Rattle.cfb.proofs.Holding.{tree_held}
use Rattle.cfb_entries.proofs.StreamsHeld.{stream_held}
use Rattle.cfb_spec.proofs.OneTree.{directory_same, layout_same, root_same, tree_unique}
use Rattle.cfb_spec.specs.Means.{HasBytes, IsOpenable, Layout, BytesMeanTree, directory}
use Rattle.cfb_medium.specs.declared.error.Error.{Error}
use Rattle.cfb_medium.specs.declared.medium.ReadMedium.{Ghosts}
use Rattle.cfb_opening.proofs.Readings.{means_less}
use Rattle.cfb_siblings.specs.Places.{LeadsTo}
use Rattle.cfb_soundness.proofs.Refilling.{entries_same}
use Rattle.cfb_tree.proofs.OneContent.{siblings_unique}
use Rattle.cfb_tree.specs.Directory.{Holds as HoldsContent, Siblings}
use Rattle.cfb_tree.specs.Names.{CaseTable}
use Rattle.cfb_tree.specs.Tree.{Tree}
use Rattle.msi_spec.proofs.OpenedIs.{opened_is}
use Rattle.msi_spec.proofs.PacksOnce.{packs_once}
use Rattle.msi_spec.proofs.Splitting.{parted}
use Rattle.msi_spec.specs.Package.{MeansPackage, PackageContent, TreePacksPackage}
use Rattle.msi_spec.specs.declared.kind.PackageType.{PackageType}
use Rattle.msi_pool.specs.Pool.{Pool}
use Rattle.msi_props.specs.Props.{Props}
use Rattle.msi_store.proofs.ShownTrees.{means_shown}
use Rattle.msi_stored.specs.Shown.{Breaks, HasBytesOrBreaks, IsBroken}
use Rattle.msi.specs.Committing.{BytesHoldPackage, BytesHoldRest}
use Rattle.msi.specs.Opened.{IsOpenedPackage, AreBytesRejected, IsSoundFile, PackageHasContent, sound_in}
use Rattle.msi.specs.declared.package.Package.{Package}

module _ (letters : CaseTable) (bytes : List ℕ) (tree : Tree) where
  -- no chain of a stream breaks
  none_breaks : BytesMeanTree letters bytes tree → (name : List ℕ) → Breaks letters bytes name → ⊥
  none_breaks (l, m) name b =
      let k = b.layout in
      let s = b.shows in
      let dirs = directory_same bytes l k m.laid_out s.laid_out in
      let roots = root_same bytes l k m.laid_out s.laid_out in
      let siblings : Siblings (directory bytes l) l.root.child s.children =
      subst (λ r. Siblings (directory bytes l) r.child s.children) roots (subst (λ d. Siblings d k.root.child s.children) dirs s.siblings) in
      let children : s.children ≡ m.children = siblings_unique siblings m.siblings in
      let holds : HoldsContent (directory bytes l) (HasBytesOrBreaks bytes k) m.children b.tree.content k.entries =
      subst (λ ids. HoldsContent (directory bytes l) (HasBytesOrBreaks bytes k) ids b.tree.content k.entries) children
      (subst (λ d. HoldsContent d (HasBytesOrBreaks bytes k) s.children b.tree.content k.entries) dirs s.holds) in
      let entries = entries_same letters (directory bytes l) (HasBytesOrBreaks bytes k) (HasBytes bytes l) b.tree.content tree.content m.children k.entries l.entries holds m.holds in
      let same : k ≡ l = layout_same bytes l k m.laid_out s.laid_out entries in
      let leads = subst (λ (x : Layout). LeadsTo letters (directory bytes x) 0 (name ∷ []) b.id) same b.leads in
      let found = subst (λ (x : Layout). slice_get (directory bytes x) b.id ≡ Some b.entry) same b.found in
      let broken = subst (λ (x : Layout). IsBroken bytes x b.entry) same b.broken in
      let held = stream_held letters (HasBytes bytes l) (directory bytes l) tree b.entry b.of_kind (tree_held l (HasBytes bytes l) letters bytes tree m) (name ∷ []) b.id leads found in
      broken held.bytes held.reads

  can_open : BytesMeanTree letters bytes tree → IsOpenable letters bytes
  can_open (l, m) = (l, tree, means_less (HasBytes bytes l) (λ e content. ⊤) (λ e content has. tt) l letters bytes tree m)

  not_both : (found : PackageType × (Props × Pool)) (e : Error) → ◌≡◌ {A = Result (PackageType × (Props × Pool)) Error} (Ok found) (Err e) → ⊥
  not_both found e is = cc

module _ (letters : CaseTable) (bytes : List ℕ) (P : PackageContent) (h : BytesHoldPackage letters bytes P) where
  pub never_refused : (e : Error) → AreBytesRejected letters bytes e → ⊥
  never_refused e (inl letters_touch) = let never : true ≡ false = sym h.usable ∙ letters_touch.1 in cc
  never_refused e (inr (may, inl closed)) = closed.1 (can_open letters bytes h.tree h.means)
  never_refused e (inr (may, inr told)) = elim (told.1 h.tree (means_shown letters bytes h.tree h.means)) [
    | inl broken ↦ none_breaks letters bytes h.tree h.means broken.name broken.breaks
    | inr is ↦ not_both letters bytes h.tree (P.kind, (P.summary, P.pool)) e (sym (opened_is letters h.tree P h.packs h.usable) ∙ is)
  ]

  pub sound_file : IsSoundFile letters bytes
  sound_file = (h.container, h.tree, h.means, P, h.packs, h.sound)

  pub package_meant : MeansPackage letters bytes P
  package_meant = (h.tree, h.means, h.packs)

  pub same_package : (Q : PackageContent) → BytesHoldPackage letters bytes Q → P ≡ Q
  same_package Q k =
      let same : h.tree ≡ k.tree = tree_unique letters bytes h.tree k.tree h.means k.means in
      packs_once letters k.tree P Q (subst (λ t. TreePacksPackage letters t P) same h.packs) k.packs

  pub held_again : {F : Type 0} {g : Ghosts F} (it : Package F g) → IsOpenedPackage letters bytes it → PackageHasContent it P × IsTrue (sound_in it)
  held_again it opened = (opened.holds h.tree P h.means h.packs, opened.sound.1 sound_file)

  -- they hold all of it but its texts, too
  pub held_rest : BytesHoldRest letters bytes P
  held_rest = record { usable = h.usable; container = h.container; tree = h.tree; means = h.means; stores = (parted letters h.tree P h.packs).0 }
