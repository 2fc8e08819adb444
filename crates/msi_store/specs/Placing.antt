-- The names of tables' streams by their keys, and where an object that was listed stands.
use Rattle.std.specs.Prelude.{◌≡◌, ◌||◌, ℕ, Bool, not, if◌then◌else◌, List, map, chars, string_bytes, Vec}
use Rattle.std.specs.BTreeSet.{BTreeSet, contains_by}
use Rattle.std.specs.Cmp.Lexicographic.{slice_cmp}
use Rattle.std.specs.List.{list_any}
use Rattle.std.specs.Ordering.{is_eq, nat_cmp}
use Rattle.std.specs.declared.alloc.Global.{Global}
use Rattle.cfb_entries.specs.Listed.{Listed}
use Rattle.cfb_tree.specs.Names.{CaseTable, name_key}
use Rattle.cfb_tree.specs.Objects.{is_same_name}
use Rattle.msi_spec.specs.Package.{data_name, pool_name, stream_name}
use Rattle.msi_parts.specs.Judged.{table_streams}
use Rattle.msi_tables.specs.Table.{Heading}
use Rattle.msi_texts.specs.StreamName.{is_marked}
use Rattle.msi_store.specs.declared.placing.TableStreams.{TableStreams}

-- one of these names is the name
abbrev pub is_one_of : CaseTable → List (List ℕ) → List ℕ → Bool
is_one_of letters names name = list_any (λ n. is_same_name letters n name) names

-- an object of this name may stand: a storage under no name of a table's, a stream that is marked under one, or one of the pool's
abbrev pub is_placed : CaseTable → List Heading → List ℕ → Bool → Bool
is_placed letters headings name storage =
    if storage then not (is_one_of letters (map (λ h. stream_name h.name) headings) name)
    else not (is_marked name) || is_one_of letters (table_streams headings) name

-- so it stands as it is listed
abbrev pub is_listed_well : CaseTable → List Heading → Listed → Bool
is_listed_well letters headings l = is_placed letters headings l.name l.is_storage

-- a key is among these where it is that of a name
abbrev pub HoldKeys : CaseTable → List (List ℕ) → BTreeSet (Vec ℕ Global) → Type 0
HoldKeys letters names keys = (key : List ℕ) → contains_by (λ x. slice_cmp nat_cmp key x.items) keys ≡ list_any (λ name. is_eq (slice_cmp nat_cmp key (name_key letters name))) names

-- the keys of tables' names, and the names of the pool's two
pub record KeysMatchTables (letters : CaseTable) (headings : List Heading) (it : TableStreams) : Type 0 where
  pub keys : HoldKeys letters (map (λ h. stream_name h.name) headings) it.keys
  pub pool : chars (string_bytes it.pool) ≡ stream_name pool_name
  pub data_stream : chars (string_bytes it.data) ≡ stream_name data_name
