-- The first item of a list that isn't read.
use Rattle.std.specs.Prelude.{ℕ, List, Option, None, Some, Bool, true, false, option_and_then, option_map, position}
use Rattle.serde_json.specs.Data.{Data, Items}
use Rattle.serde_json.specs.Find.{as_str}
use Rattle.serde_json.specs.View.{view}
use Rattle.serde_json.specs.declared.value.Value.{Value}
use Rattle.json_parts.specs.Values.{two_items, value_in}
use Rattle.msi_values.specs.Datum.{Datum}

-- it isn't read
abbrev pub is_unread : {X : Type 0} → Option X → Bool
is_unread None = true
is_unread (Some x) = false

-- the place of the first item that isn't read so, counted from 0
abbrev pub first_unread : {X : Type 0} → (Data → Option X) → List Value → Option ℕ
first_unread read items = position (λ item. is_unread (read (view item))) items

-- a column's name and a value, where these two items stand there
abbrev pub two_read : Items → Option (List ℕ × Datum)
two_read items = option_and_then (λ p. option_and_then (λ x. option_map (λ y. (x, y)) (value_in p.1)) (as_str p.0)) (two_items items)
