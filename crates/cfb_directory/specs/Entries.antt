-- What entries in memory say.
use Rattle.std.specs.Prelude.{◌≡◌, ◌≤◌, ℕ, List, map, nat_eq, slice_get, IsTrue, Some}
use Rattle.std.specs.List.{list_any}
use Rattle.cfb_medium.specs.Versions.{stream_len_mask}
use Rattle.cfb_medium.specs.declared.version.Version.{Version}
use Rattle.cfb_siblings.specs.Changes.{IsUnused}
use Rattle.cfb_tree.specs.Directory.{greatest_entry, kind_unallocated, Entry}
use Rattle.cfb_tree.specs.EntryViews.{entry_in}
use Rattle.cfb_tree.specs.declared.entry.DirEntry.{DirEntry}

-- the entries, by number ([MS-CFB] 2.6)
abbrev pub entries_in : List DirEntry → List Entry
entries_in entries = map entry_in entries

-- each size fits into an entry's bytes: in version 3 it is a number of four ([MS-CFB] 2.6.1)
abbrev pub SizesFit : Version → List Entry → Type 0
SizesFit version entries = (k : ℕ) (e : Entry) → slice_get entries k ≡ Some e → e.size ≤ stream_len_mask version

-- no entry is in no use ([MS-CFB] 2.6.1, 2.6.3)
abbrev pub HasNoneUnused : List Entry → Type 0
HasNoneUnused entries = (id : ℕ) → IsUnused entries id → ⊥

-- the number is one of these
abbrev pub IsOneOf : List ℕ → ℕ → Type 0
IsOneOf numbers id = IsTrue (list_any (nat_eq id) numbers)

-- the numbers of all entries in no use are among these
abbrev pub ListsUnusedEntries : List ℕ → List Entry → Type 0
ListsUnusedEntries numbers entries = (id : ℕ) → IsUnused entries id → IsOneOf numbers id

-- where this entry is in no use, its number is one of these
abbrev pub IsNoted : List ℕ → ℕ → Entry → Type 0
IsNoted numbers id e = id ≤ greatest_entry → e.kind ≡ kind_unallocated → IsOneOf numbers id
