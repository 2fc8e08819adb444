-- What a roll back finds.
use Rattle.std.proofs.Common.{◌≡◌, ◌∙◌, ℕ, List, IsTrue, Option, None, ap, not, refl, subst, sym}
use Rattle.std.specs.Prelude.{filter, is_some, Some, true}
use Rattle.cfb.proofs.LiveMeaning.{holds_meant}
use Rattle.cfb_spec.proofs.OneTree.{tree_unique}
use Rattle.cfb_spec.specs.Means.{BytesMeanTree}
use Rattle.cfb_medium.specs.declared.medium.ReadMedium.{Ghosts}
use Rattle.cfb_tree.specs.Names.{CaseTable}
use Rattle.cfb_tree.specs.Tree.{Tree}
use Rattle.msi.proofs.OpenAgain.{held_rest}
use Rattle.msi.specs.Committing.{BytesHoldPackage, BytesHoldRest, BytesKeepPackage}
use Rattle.msi.specs.Opened.{IsOpenedPackage, PackageHasContent, file_in, sound_in}
use Rattle.msi.specs.declared.package.Package.{Package}
use Rattle.msi_spec.proofs.PacksOnce.{packs_once}
use Rattle.msi_spec.proofs.Splitting.{joined, parted}
use Rattle.msi_spec.specs.Opening.{keeps_encoded_names}
use Rattle.msi_spec.specs.Package.{PackageContent, is_stream, objects}
use Rattle.msi_spec.specs.Split.{HasPool, HasSummary, TreeStoresRest}
use Rattle.msi_stored.specs.Shown.{bytes_in}
use Rattle.staged.specs.Files.{Files}
use Rattle.staged.specs.Log.{recovered}
use Rattle.staged.specs.Committed.{HasPublished, IsLogClosed}
use Rattle.staged.specs.declared.device.Device as device
use Rattle.staged.proofs.Torn.{closed_gives}

-- the package to which a roll back leads, where there is one
pub base_of : (base : Option PackageContent) → is_some base ≡ true → (B : PackageContent) × (base ≡ Some B)
base_of (Some B) is = (B, refl)
base_of None is = absurd (cc)

-- bytes that hold two packages but their texts have the storages of both
pub same_storages : (letters : CaseTable) (bytes : List ℕ) (P Q : PackageContent) → BytesHoldRest letters bytes P → BytesHoldRest letters bytes Q → P.storages ≡ Q.storages
same_storages letters bytes P Q one other =
    let tree : one.tree ≡ other.tree = tree_unique letters bytes one.tree other.tree one.means other.means in
    subst (λ (t : Tree). P.storages ≡ filter (λ o. not (is_stream o)) (objects t.content)) tree one.stores.storages ∙ sym other.stores.storages

-- a package that was opened and judged sound is one that its bytes hold
module _ {F : Type 0} {g : Ghosts F} (letters : CaseTable) (bytes : List ℕ) (it : Package F g) (opened : IsOpenedPackage letters bytes it) (usable : keeps_encoded_names letters ≡ true) (sound : IsTrue (sound_in it)) where
  pub some_sound : (Q : PackageContent) × BytesHoldPackage letters bytes Q × PackageHasContent it Q
  some_sound =
      let s = opened.sound.0 sound in (
        s.3,
        record { usable = usable; container = s.0; tree = s.1; means = s.2; packs = s.4; sound = s.5 },
        opened.holds s.1 s.3 s.2 s.4,
      )

  -- and each that it holds
  module _ (same : bytes_in (file_in it) ≡ bytes) (P : PackageContent) (held : PackageHasContent it P) where
    meant : BytesMeanTree letters bytes held.tree
    meant =
        let h = holds_meant (file_in it) held.tree (held.sound sound).0 in
        subst (λ b. BytesMeanTree letters b held.tree) same (subst (λ l. BytesMeanTree l (bytes_in (file_in it)) held.tree) opened.compared (h.layout, h.means))

    pub held_sound : BytesHoldPackage letters bytes P
    held_sound =
        let own = some_sound in
        let found = own.1 in
        let tree : held.tree ≡ found.tree = tree_unique letters bytes held.tree found.tree meant found.means in
        let parts = parted letters found.tree own.0 found.packs in
        let stores : TreeStoresRest letters found.tree P = subst (λ t. TreeStoresRest letters t P) tree (subst (λ l. TreeStoresRest l held.tree P) opened.compared held.stores) in
        let pool : HasPool letters found.tree P.pool = subst (HasPool letters found.tree) (sym own.2.memory.pool ∙ held.memory.pool) parts.1 in
        let summary : HasSummary letters found.tree P.summary = subst (HasSummary letters found.tree) (sym own.2.memory.summary ∙ held.memory.summary) parts.2 in
        subst (λ (Q : PackageContent). BytesHoldPackage letters bytes Q) (packs_once letters found.tree own.0 P found.packs (joined letters found.tree P stores pool summary)) found

    -- so they keep it
    pub held_kept : BytesKeepPackage letters bytes P
    held_kept = (held_rest letters bytes P held_sound, λ fit. held_sound)

-- a device that was settled has published its home file
pub settled_published : {D : Type 0} (g : device.Ghosts D) (d : D) (bytes : List ℕ) → IsLogClosed g d → (g.content d).home ≡ bytes → HasPublished g d bytes
settled_published g d bytes settled home = record {
  home = home;
  closed = settled.closed;
  left = λ left now. subst (λ (files : Files). recovered files ≡ Some bytes) (sym (settled.kept left now)) (closed_gives (g.content d) settled.closed ∙ ap Some home);
}
