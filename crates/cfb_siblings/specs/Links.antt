-- Links between entries, and entries after a link was set ([MS-CFB] 2.6.4).
use Rattle.std.specs.Prelude.{ℕ, List, Option, Some, None, slice_get, slice_set}
use Rattle.cfb_tree.specs.Directory.{Entry, black}
use Rattle.cfb_siblings.specs.declared.links.Link.{Link}
use Rattle.cfb_siblings.specs.declared.links.Link.TheVariants.{Child, Left, Right}
use Rattle.cfb_siblings.specs.declared.links.NewLink.{NewLink}
use Rattle.cfb_siblings.specs.declared.removal.Removal.{Removal}

-- the number of the entry that has the link
abbrev pub holder : Link → ℕ
holder (Child id) = id
holder (Left id) = id
holder (Right id) = id

-- an entry whose link leads to `target`, and which is black ([MS-CFB] 2.6.4)
abbrev pub linked_to : Link → ℕ → Entry → Entry
linked_to (Child id) target e = record e { child = target; color = black }
linked_to (Left id) target e = record e { left = target; color = black }
linked_to (Right id) target e = record e { right = target; color = black }

-- the entries with a change of entry `id`, which is this one, where there is one
abbrev pub with_entry : List Entry → ℕ → (Entry → Entry) → Option Entry → List Entry
with_entry entries id change None = entries
with_entry entries id change (Some e) = slice_set entries id (change e)

-- the entries after the link was made to lead to `target`
abbrev pub relinked : Link → ℕ → List Entry → List Entry
relinked link target entries = with_entry entries (holder link) (linked_to link target) (slice_get entries (holder link))

-- the entries after a link was set, where one is to be set
abbrev pub joined_by : Option NewLink → List Entry → List Entry
joined_by None entries = entries
joined_by (Some it) entries = relinked it.link it.target entries

-- the entries after one was taken out of its siblings ([MS-CFB] 2.6.4)
abbrev pub taken_out : Removal → List Entry → List Entry
taken_out it entries = relinked it.replaced.link it.replaced.target (joined_by it.joined entries)
