-- Names that are told one after the other.
use Rattle.std.specs.Prelude.{ℕ, ◌||◌, List, [], ◌∷◌, encode_utf8_all, if◌then◌else◌, String}
use Rattle.std.specs.Vec.Iter.{into_iter_items}
use Rattle.std.specs.declared.alloc.Global.{Global}
use Rattle.cfb_entries.specs.Listed.{Listed}
use Rattle.cfb_tree.specs.Names.{CaseTable}
use Rattle.msi_spec.specs.Streams.{is_special}
use Rattle.msi_texts.specs.StreamName.{is_marked, name_of}
use Rattle.msi.specs.declared.streams.Streams.{Streams}
use Rattle.msi.specs.declared.tables.Tables.{Tables}

-- the names of tables that are still to come
unfoldable pub tables_left : Tables → List (String Global)
tables_left it = it.left.items

-- the names of streams that are still to come
unfoldable pub streams_left : Streams → List (String Global)
streams_left it = into_iter_items it.left

-- an object that is listed gives its name where it is a stream that is neither special nor a table's
abbrev pub name_listed : CaseTable → Listed → List (List ℕ)
name_listed letters l = if l.is_storage || (is_special letters l.name || is_marked l.name) then [] else encode_utf8_all (name_of l.name) ∷ []
