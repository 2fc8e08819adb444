-- A package that gets right counts where it lies.
use Rattle.std.specs.Prelude.{◌≡◌, ℕ, true, List}
use Rattle.cfb_spec.specs.Means.{BytesMeanTree}
use Rattle.cfb_spec.specs.Sound.{IsSoundContainer}
use Rattle.cfb_tree.specs.Names.{CaseTable}
use Rattle.cfb_tree.specs.Tree.{Tree}
use Rattle.msi_spec.specs.Opening.{keeps_encoded_names}
use Rattle.msi_spec.specs.Package.{PackageContent, TreePacksPackage}
use Rattle.msi_adopting.specs.Adopted.{BytesHoldSoundPackage}

-- THE BYTES HOLD THIS PACKAGE, SOUND OR NOT: their container is sound, and the tree that it means packs the package
pub record BytesHoldUncounted (letters : CaseTable) (bytes : List ℕ) (tree : Tree) (P : PackageContent) : Type 0 where
  pub usable : keeps_encoded_names letters ≡ true
  pub container : IsSoundContainer letters bytes
  pub means : BytesMeanTree letters bytes tree
  pub packs : TreePacksPackage letters tree P

-- the bytes hold a sound package
abbrev pub HoldSomePackage : CaseTable → List ℕ → Type 0
HoldSomePackage letters bytes = (P : PackageContent) × BytesHoldSoundPackage letters bytes P
