-- The names of tables' streams by their keys, and objects as they are listed; no public call cites it.
use Rattle.std.specs.Prelude.{◌≡◌, ℕ, not, List, filter, map, chars, string_bytes}
use Rattle.cfb_entries.specs.Listed.{Listed}
use Rattle.cfb_tree.specs.Names.{CaseTable}
use Rattle.msi_findings.specs.declared.placing.TableNames.{TableNames}
use Rattle.msi_spec.specs.Package.{data_name, pool_name, stream_name}
use Rattle.msi_store.specs.Placing.{is_listed_well, HoldKeys}
use Rattle.msi_tables.specs.Table.{Heading}

-- the keys of tables' names, and the names of the pool's two
pub record KeysMatchHeadings (letters : CaseTable) (headings : List Heading) (it : TableNames) : Type 0 where
  pub keys : HoldKeys letters (map (λ h. stream_name h.name) headings) it.keys
  pub pool : chars (string_bytes it.pool) ≡ stream_name pool_name
  pub data_stream : chars (string_bytes it.data) ≡ stream_name data_name

-- the names of those that are listed out of place
abbrev pub misplaced_in : CaseTable → List Heading → List Listed → List (List ℕ)
misplaced_in letters headings ls = map (λ l. l.name) (filter (λ l. not (is_listed_well letters headings l)) ls)
