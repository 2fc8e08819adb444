-- How far a walk down the siblings has come, and what stands where it ends.
use Rattle.std.specs.Prelude.{◌≡◌, ℕ, ◌+◌, ◌≤◌, length, true, false, List, [], ◌∷◌, ◌++◌, slice_get, Some}
use Rattle.std.specs.List.{AllByRecursion}
use Rattle.std.specs.declared.cmp.Ordering.TheVariants.{Less, Greater}
use Rattle.cfb_tree.specs.Names.{CaseTable, name_cmp}
use Rattle.cfb_tree.specs.Tree.{Content, child_names}
use Rattle.cfb_tree.specs.Directory.{Entry, Siblings, Holds, no_entry}
use Rattle.cfb_tree.specs.Objects.{Object, before, name_of, is_same_name, joined_contents, IsObject}
use Rattle.cfb_siblings.specs.declared.links.Link.{Link}
use Rattle.cfb_siblings.specs.Places.{Hangs}

-- the search for `wanted` from `root` on came by so many steps over the link to `at`: of the siblings `ids`, which hold the content, those in
-- front come before the wanted name, those at the back after it, and the others hang at `at`
pub record Searched (directory : List Entry) (Reads : Entry → List ℕ → Type 0) (letters : CaseTable) (wanted : List ℕ) (owner root : ℕ)
    (ids : List ℕ) (c : Content) (all : List ℕ) (link : Link) (at steps : ℕ) : Type 0 where
  pub front : List ℕ
  pub here : List ℕ
  pub back : List ℕ
  pub earlier : Content
  pub there : Content
  pub later : Content
  pub earlier_all : List ℕ
  pub there_all : List ℕ
  pub later_all : List ℕ
  pub ids_are : ids ≡ front ++ (here ++ back)
  pub content_is : c ≡ joined_contents earlier (joined_contents there later)
  pub all_is : all ≡ earlier_all ++ (there_all ++ later_all)
  pub hangs : Hangs directory owner root link at front back
  pub siblings : Siblings directory at here
  pub holds_earlier : Holds directory Reads front earlier earlier_all
  pub holds_there : Holds directory Reads here there there_all
  pub holds_later : Holds directory Reads back later later_all
  pub below : AllByRecursion (λ name. name_cmp letters wanted name ≡ Greater) (child_names earlier)
  pub above : AllByRecursion (λ name. name_cmp letters wanted name ≡ Less) (child_names later)
  pub bound : steps + length here ≤ length ids

-- the siblings `ids`, which hold the content, before and after a link at which the wanted name is to hang
pub record Gap (directory : List Entry) (Reads : Entry → List ℕ → Type 0) (letters : CaseTable) (wanted : List ℕ) (owner root : ℕ)
    (ids : List ℕ) (c : Content) (all : List ℕ) (link : Link) : Type 0 where
  pub front : List ℕ
  pub back : List ℕ
  pub earlier : Content
  pub later : Content
  pub earlier_all : List ℕ
  pub later_all : List ℕ
  pub ids_are : ids ≡ front ++ back
  pub content_is : c ≡ joined_contents earlier later
  pub all_is : all ≡ earlier_all ++ later_all
  pub hangs : Hangs directory owner root link no_entry front back
  pub holds_earlier : Holds directory Reads front earlier earlier_all
  pub holds_later : Holds directory Reads back later later_all
  pub below : AllByRecursion (λ name. name_cmp letters wanted name ≡ Greater) (child_names earlier)
  pub above : AllByRecursion (λ name. name_cmp letters wanted name ≡ Less) (child_names later)

-- entry `at` of the siblings `ids`, which hold the content, is the object of the wanted name
pub record Chosen (directory : List Entry) (Reads : Entry → List ℕ → Type 0) (letters : CaseTable) (wanted : List ℕ)
    (ids : List ℕ) (c : Content) (all : List ℕ) (at : ℕ) : Type 0 where
  pub front : List ℕ
  pub back : List ℕ
  pub ids_are : ids ≡ front ++ at ∷ back
  pub earlier : Content
  pub object : Object
  pub later : Content
  pub earlier_all : List ℕ
  pub own : List ℕ
  pub later_all : List ℕ
  pub content_is : c ≡ joined_contents earlier (before object later)
  pub all_is : all ≡ earlier_all ++ at ∷ (own ++ later_all)
  pub holds_earlier : Holds directory Reads front earlier earlier_all
  pub is_object : IsObject directory Reads at object own
  pub holds_later : Holds directory Reads back later later_all
  pub others : AllByRecursion (λ name. is_same_name letters wanted name ≡ false) (child_names earlier)
  pub level : is_same_name letters wanted (name_of object) ≡ true

-- the same of an entry to which the link leads, with the siblings that hang at it on both sides
pub record Found (directory : List Entry) (Reads : Entry → List ℕ → Type 0) (letters : CaseTable) (wanted : List ℕ) (owner root : ℕ)
    (ids : List ℕ) (c : Content) (all : List ℕ) (link : Link) (at : ℕ) (e : Entry) : Type 0 where
  pub found : slice_get directory at ≡ Some e
  pub front : List ℕ
  pub lefts : List ℕ
  pub rights : List ℕ
  pub back : List ℕ
  pub ids_are : ids ≡ (front ++ lefts) ++ at ∷ (rights ++ back)
  pub hangs : Hangs directory owner root link at front back
  pub on_left : Siblings directory e.left lefts
  pub on_right : Siblings directory e.right rights
  pub chosen : Chosen directory Reads letters wanted ids c all at
  pub chosen_front : chosen.front ≡ front ++ lefts
  pub chosen_back : chosen.back ≡ rights ++ back

-- the walk by right links from `root` on came by so many steps over the link to `at`
pub record GoesRight (directory : List Entry) (owner root : ℕ) (ids : List ℕ) (link : Link) (at steps : ℕ) : Type 0 where
  pub front : List ℕ
  pub here : List ℕ
  pub ids_are : ids ≡ front ++ here
  pub hangs : Hangs directory owner root link at front []
  pub siblings : Siblings directory at here
  pub bound : steps + length here ≤ length ids
