-- What listings in memory show.
use Rattle.std.specs.Prelude.{◌==◌, ℕ, Bool, true, false, List, [], ◌∷◌, if◌then◌else◌, chars, codes, string_bytes}
use Rattle.std.specs.List.{flat_map}
use Rattle.cfb_spec.specs.TreeRules.{ShownObject}
use Rattle.cfb_medium.specs.Times.{units_of}
use Rattle.cfb_tree.specs.Changes.{no_facts}
use Rattle.cfb_tree.specs.Directory.{Entry, kind_stream}
use Rattle.cfb_tree.specs.Paths.{Path, path_text}
use Rattle.cfb_tree.specs.Tree.{Facts}
use Rattle.cfb_tree.specs.declared.kinds.ObjType.{ObjType}
use Rattle.cfb_tree.specs.declared.kinds.ObjType.TheVariants.{Unallocated, Storage, Stream, Root}
use Rattle.cfb_entries.specs.declared.entry.Entry.{Entry as ShownEntry}

-- what a listing shows of an object, its path as text
pub record Listed : Type 0 where
  pub path : List ℕ
  pub name : List ℕ
  pub is_root : Bool
  pub is_storage : Bool
  pub len : ℕ
  pub facts : Facts

-- no names: the root's path
abbrev pub is_root_path : Path → Bool
is_root_path [] = true
is_root_path (name ∷ names) = false

-- an object that is shown, with its path as text
abbrev pub listed : ShownObject → Listed
listed s = record { path = path_text s.path; name = s.name; is_root = is_root_path s.path; is_storage = s.is_storage; len = s.len; facts = s.facts }

-- each name of a path behind a slash: what stands in front of the slash of a child's name
abbrev pub prefix_text : Path → List ℕ
prefix_text names = flat_map (λ name. 47 ∷ name) names

-- a kind that has children
abbrev pub is_storage_kind : ObjType → Bool
is_storage_kind Unallocated = false
is_storage_kind Storage = true
is_storage_kind Stream = false
is_storage_kind Root = true

abbrev pub is_root_kind : ObjType → Bool
is_root_kind Unallocated = false
is_root_kind Storage = false
is_root_kind Stream = false
is_root_kind Root = true

-- an object in memory, as it is listed
abbrev pub listed_in : ShownEntry → Listed
listed_in e = record {
  path = chars (string_bytes e.path);
  name = chars (string_bytes e.name);
  is_root = is_root_kind e.obj_type;
  is_storage = is_storage_kind e.obj_type;
  len = e.len;
  facts = record { clsid = e.clsid; state_bits = e.state_bits; created = units_of e.created; modified = units_of e.modified };
}

-- a storage is listed without bytes ([MS-CFB] 2.6.1)
abbrev pub storage_listed : Bool → Bool → List ℕ → List ℕ → Facts → Listed
storage_listed is_root is_storage path name facts = record { path = path; name = name; is_root = is_root; is_storage = is_storage; len = 0; facts = facts }

-- a stream is listed with its size and its state bits alone ([MS-CFB] 2.6.1)
abbrev pub stream_listed : List ℕ → List ℕ → Entry → Listed
stream_listed path name e = record {
  path = path;
  name = name;
  is_root = false;
  is_storage = false;
  len = e.size;
  facts = record no_facts { state_bits = e.facts.state_bits };
}

-- an entry below the root, as it is listed at a path under a name
abbrev pub listed_at : Entry → List ℕ → List ℕ → Listed
listed_at e path name = if e.kind == kind_stream then stream_listed path name e else storage_listed false true path name e.facts

-- the root, as it is listed ([MS-CFB] 2.6.2)
abbrev pub root_listed : Facts → Listed
root_listed facts = storage_listed true true (47 ∷ []) (codes "Root Entry") facts

-- what stands in front of the slash before the name of a child: the root has no names
abbrev pub prefix_of_listed : Listed → List ℕ
prefix_of_listed it = if it.is_root then [] else it.path
