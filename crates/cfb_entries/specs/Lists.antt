-- What listings give.
use Rattle.std.specs.Prelude.{◌≡◌, List, map, ◌⊎◌, Result, IfOk, IfErr}
use Rattle.std.specs.Vec.Iter.{into_iter_items}
use Rattle.cfb_spec.specs.TreeRules.{Answer, entries, refused, ShownObject}
use Rattle.cfb_medium.specs.declared.error.Error.{Error}
use Rattle.cfb_medium.specs.declared.error.Error.TheVariants.{Memory}
use Rattle.cfb_entries.specs.Listed.{listed, listed_in}
use Rattle.cfb_entries.specs.declared.entry.Entry.{Entry}
use Rattle.cfb_entries.specs.declared.listing.Entries.{Entries}

-- the objects that are still to come
unfoldable pub entries_left : Entries → List Entry
entries_left it = into_iter_items it.left

-- the answer is these objects in this order, or this refusal; or memory is missing
abbrev pub ReturnsEntries : Answer → Result Entries Error → Type 0
ReturnsEntries answer result =
    IfOk result (λ it. (all : List ShownObject) × (answer ≡ entries all) × (map listed_in (entries_left it) ≡ map listed all))
    × IfErr result (λ e. (e ≡ Memory) ⊎ (answer ≡ refused e))
