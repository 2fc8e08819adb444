-- The links of an entry, between siblings that are known.
use Rattle.std.specs.Prelude.{ℕ, ◌==◌, List, [], ◌∷◌, Some, None, if◌then◌else◌}
use Rattle.cfb_tree.specs.Directory.{Entry, no_entry, kind_storage}
use Rattle.cfb_directory.specs.declared.walk.Link.{Link}

-- a storage's first child; any other entry has none ([MS-CFB] 2.6.1)
abbrev pub child_at : Entry → ℕ
child_at e = if e.kind == kind_storage then e.child else no_entry

-- where siblings and children of the entry at a link hang ([MS-CFB] 2.6.4)
abbrev pub links_at : Entry → Link → List Link
links_at e link =
    record { at = e.left; low = link.low; high = Some link.at }
    ∷ record { at = e.right; low = Some link.at; high = link.high }
    ∷ record { at = child_at e; low = None; high = None } ∷ []
