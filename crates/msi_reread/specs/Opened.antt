-- A package that is opened, or adopted, with its texts as code pages of one's choice read them.
use Rattle.std.specs.Prelude.{◌≡◌, ℕ, List, Option}
use Rattle.cfb_medium.specs.declared.medium.ReadMedium.{Ghosts}
use Rattle.cfb_spec.specs.Means.{BytesMeanTree}
use Rattle.cfb_tree.specs.Names.{CaseTable}
use Rattle.cfb_tree.specs.Tree.{Tree}
use Rattle.msi.specs.Opened.{IsOpenedPackage}
use Rattle.msi.specs.declared.package.Package.{Package}
use Rattle.msi_adopting.specs.Adopted.{IsAdopted}
use Rattle.msi_reread.specs.Reread.{IsReread}
use Rattle.msi_spec.specs.Package.{PackageContent, TreePacksPackage}
use Rattle.reread_texts.specs.declared.page.TextPage.{TextPage}

-- the package is what opening finds in bytes that mean the tree
pub record OpensTree {F : Type 0} {g : Ghosts F} (letters : CaseTable) (tree : Tree) (it : Package F g) : Type 0 where
  pub bytes : List ℕ
  pub means : BytesMeanTree letters bytes tree
  pub opened : IsOpenedPackage letters bytes it

module _ (letters : CaseTable) (texts summary : Option TextPage) (tree : Tree) where
  -- THE PACKAGE IS OPENED BY ITS PAGES: it is what opening finds in bytes that mean the tree which is reread; and the texts of which bytes have no
  -- character
  pub record OpensReread {F : Type 0} {g : Ghosts F} (it : Package F g) (lacking unread : List ℕ) : Type 0 where
    pub after : Tree
    pub reread : IsReread letters texts summary tree after lacking unread
    pub opens : OpensTree letters after it

  -- THE PACKAGE IS ADOPTED BY ITS PAGES: it can be, and the bytes hold with right counts, sound, what the tree packs which is reread
  pub record AdoptsReread (bytes lacking unread : List ℕ) : Type 0 where
    pub after : Tree
    pub reread : IsReread letters texts summary tree after lacking unread
    pub adopts : (P : PackageContent) → TreePacksPackage letters after P → IsAdopted letters after P bytes
