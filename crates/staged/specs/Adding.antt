-- Pages that are added with a list of their numbers, by which they can be taken out again.
use Rattle.std.specs.Prelude.{◌≡◌, ℕ, true, false, List, nat_eq, None}
use Rattle.std.specs.List.{list_any}
use Rattle.staged.specs.Pages.{page_at}
use Rattle.staged.specs.declared.pages.Page.{Page}

-- since the first state pages of these numbers may have come, none of which was there, and all others are as they were
pub record AreAddedSince (first pages : List Page) (numbers : List ℕ) : Type 0 where
  pub fresh : (n : ℕ) → list_any (nat_eq n) numbers ≡ true → page_at first n ≡ None
  pub others : (n : ℕ) → list_any (nat_eq n) numbers ≡ false → page_at pages n ≡ page_at first n

-- a list that tells what has come since any state still does
abbrev pub NotesAdded : List Page → List ℕ → List Page → List ℕ → Type 0
NotesAdded old noted new also = (first : List Page) → AreAddedSince first old noted → AreAddedSince first new also
