-- Entries in memory, one by one.
use Rattle.std.proofs.Common.{◌≡◌, ℕ, ◌<◌, ◌≤◌, List, map, length, get_or, refl, ◌∙◌, ap}
use Rattle.std.specs.Prelude.{slice_get, Some, None}
use Rattle.std.specs.Option.{option_map}
use Rattle.std.proofs.lemmas.Option.{slice_get-map, slice_get_read, slice_get_past}
use Rattle.cfb_tree.specs.EntryViews.{entry_in}
use Rattle.cfb_tree.specs.declared.entry.DirEntry.{DirEntry}

pub found_in : (entries : List DirEntry) (id : ℕ) (e : DirEntry) → id < length entries → e ≡ get_or entries id e
    → slice_get (map entry_in entries) id ≡ Some (entry_in e)
found_in entries id e below is =
    slice_get-map entry_in entries id ∙ ap (option_map entry_in) (slice_get_read entries (length entries) id e refl below is)

pub lost_in : (entries : List DirEntry) (id : ℕ) → length entries ≤ id → slice_get (map entry_in entries) id ≡ None
lost_in entries id past = slice_get-map entry_in entries id ∙ ap (option_map entry_in) (slice_get_past entries id past)
