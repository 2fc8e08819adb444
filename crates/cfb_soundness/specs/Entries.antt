-- The entries of a directory's tree.
use Rattle.std.specs.Prelude.{◌≡◌, ℕ, List, [], ◌∷◌, nat_eq, slice_get, Some}
use Rattle.std.specs.List.{IsDistinct}
use Rattle.cfb_tree.specs.Tree.{Content}
use Rattle.cfb_tree.specs.Directory.{Entry, Holds, Siblings}
use Rattle.cfb_tree.specs.Entries.{HasSize, children_of}
use Rattle.cfb_soundness.specs.declared.entries.Step.{Step}
use Rattle.cfb_soundness.specs.declared.entries.Step.TheVariants.{Hanging, Met}

-- these are the entries that the directory's tree is made of but the root, siblings in order and each before what it holds,
-- where the directory has a tree ([MS-CFB] 2.6)
abbrev pub AreTreeEntries : List Entry → List ℕ → Type 0
AreTreeEntries directory ids =
    (root : Entry) (children all : List ℕ) (content : Content) → slice_get directory 0 ≡ Some root → Siblings directory root.child children
    → Holds directory HasSize children content all → IsDistinct nat_eq all → ids ≡ all

-- what hangs at an entry, the last first: those before it, itself, what it holds, and those behind it ([MS-CFB] 2.6.4)
abbrev pub steps_at : Entry → ℕ → List Step
steps_at e id = Hanging e.right ∷ Hanging (children_of e) ∷ Met id ∷ Hanging e.left ∷ []
