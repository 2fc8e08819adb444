-- What kinds, colours and entries in memory say.
use Rattle.std.specs.Prelude.{ℕ}
use Rattle.cfb_medium.specs.Times.{units_of}
use Rattle.cfb_tree.specs.Directory.{Entry, kind_unallocated, kind_storage, kind_stream, kind_root, red, black}
use Rattle.cfb_tree.specs.declared.kinds.ObjType.{ObjType}
use Rattle.cfb_tree.specs.declared.kinds.ObjType.TheVariants.{Unallocated, Storage, Stream, Root}
use Rattle.cfb_tree.specs.declared.kinds.Color.{Color}
use Rattle.cfb_tree.specs.declared.kinds.Color.TheVariants.{Red, Black}
use Rattle.cfb_tree.specs.declared.entry.DirEntry.{DirEntry}

-- the byte of a kind ([MS-CFB] 2.6.1)
abbrev pub kind_of : ObjType → ℕ
kind_of Unallocated = kind_unallocated
kind_of Storage = kind_storage
kind_of Stream = kind_stream
kind_of Root = kind_root

-- the byte of a colour ([MS-CFB] 2.6.1)
abbrev pub color_of : Color → ℕ
color_of Red = red
color_of Black = black

-- what an entry says ([MS-CFB] 2.6.1)
abbrev pub entry_in : DirEntry → Entry
entry_in e = record {
  name_units = e.name_units;
  name_len = e.name_len;
  kind = e.kind;
  color = e.color;
  left = e.left_sibling;
  right = e.right_sibling;
  child = e.child;
  facts = record { clsid = e.clsid; state_bits = e.state_bits; created = units_of e.creation_time; modified = units_of e.modified_time };
  start = e.start_sector;
  size = e.stream_len;
}
