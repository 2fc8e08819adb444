-- Entries that are made, and those that a reader takes in the tree.
use Rattle.std.specs.Prelude.{◌≡◌, ℕ, ◌+◌, ◌-◌, ◌*◌, ◌==◌, List, ◌++◌, length, replicate, codes, if◌then◌else◌, ◌⊎◌, slice_get, IfSome}
use Rattle.cfb_sectors.specs.declared.validation.Validation.{Validation}
use Rattle.cfb_sectors.specs.declared.validation.Validation.TheVariants.{Permissive, Strict}
use Rattle.cfb_sectors.specs.Sectors.{end_of_chain}
use Rattle.cfb_tree.specs.Names.{name_units}
use Rattle.cfb_tree.specs.Directory.{Entry, no_entry, kind_unallocated, kind_storage, kind_stream, kind_root, red, black}

-- the 32 units of a name's field: the name's, and zeros ([MS-CFB] 2.6.1)
abbrev pub name_field : List ℕ → List ℕ
name_field name = name_units name ++ replicate (32 - length (name_units name)) 0

-- an entry that was made: black, without siblings and child, with no bytes. A storage begins nowhere, and it alone has
-- times ([MS-CFB] 2.6.1)
abbrev pub new_entry : List ℕ → ℕ → ℕ → Entry
new_entry name kind moment = record {
  name_units = name_field name;
  name_len = 2 * length (name_units name) + 2;
  kind = kind;
  color = black;
  left = no_entry;
  right = no_entry;
  child = no_entry;
  facts = record {
    clsid = replicate 16 0;
    state_bits = 0;
    created = if kind == kind_storage then moment else 0;
    modified = if kind == kind_storage then moment else 0;
  };
  start = if kind == kind_storage then 0 else end_of_chain;
  size = 0;
}

-- an entry that is not in use: zeros, but no siblings and no child ([MS-CFB] 2.6.3)
abbrev pub empty_entry : Entry
empty_entry = record {
  name_units = replicate 32 0;
  name_len = 0;
  kind = kind_unallocated;
  color = red;
  left = no_entry;
  right = no_entry;
  child = no_entry;
  facts = record { clsid = replicate 16 0; state_bits = 0; created = 0; modified = 0 };
  start = 0;
  size = 0;
}

-- the root of an empty tree ([MS-CFB] 2.6.2)
abbrev pub empty_root : Entry
empty_root = new_entry (codes "Root Entry") kind_root 0

-- what a reader asks of the root entry besides its name: its kind, and a strict one that it is black ([MS-CFB] 2.6.2, 2.6.4)
abbrev pub IsTakenRoot : Validation → Entry → Type 0
IsTakenRoot Permissive e = e.kind ≡ kind_root
IsTakenRoot Strict e = (e.kind ≡ kind_root) × (e.color ≡ black)

-- what a reader asks of an entry below the root besides its name: its kind, and a strict one its colour ([MS-CFB] 2.6.1)
abbrev pub IsTakenBelow : Validation → Entry → Type 0
IsTakenBelow Permissive e = (e.kind ≡ kind_storage) ⊎ (e.kind ≡ kind_stream)
IsTakenBelow Strict e = ((e.kind ≡ kind_storage) ⊎ (e.kind ≡ kind_stream)) × ((e.color ≡ red) ⊎ (e.color ≡ black))

-- the entry, where the directory has it, is black ([MS-CFB] 2.6.4)
abbrev pub IsBlackAt : List Entry → ℕ → Type 0
IsBlackAt directory id = IfSome (slice_get directory id) (λ e. e.color ≡ black)

-- entry `id` is red or black, and where it is red no red sibling hangs under it ([MS-CFB] 2.6.4)
abbrev pub IsColored : List Entry → ℕ → Type 0
IsColored directory id = IfSome (slice_get directory id) (λ e.
    ((e.color ≡ red) ⊎ (e.color ≡ black)) × (e.color ≡ red → IsBlackAt directory e.left × IsBlackAt directory e.right))

-- where the children of an entry in the tree hang: a stream has none ([MS-CFB] 2.6.3)
abbrev pub children_of : Entry → ℕ
children_of e = if e.kind == kind_stream then no_entry else e.child

-- what is known of a stream while only its entry was read: how many bytes it has ([MS-CFB] 2.6.3)
abbrev pub HasSize : Entry → List ℕ → Type 0
HasSize e content = length content ≡ e.size
