-- Operations, sources and sides by what stands at their keys, as they are read.
use Rattle.std.specs.Prelude.{[], Option, None, option_and_then, codes}
use Rattle.serde_json.specs.Data.{Data}
use Rattle.msi_expr.specs.Formula.{Formula}
use Rattle.msi_query.specs.Query.{Query, Source, query}
use Rattle.command_file.specs.Expressions.{applied, formula_in, joined, query_from, side_of, source_in}
use Rattle.json_parts.specs.Values.{at_key, list_in, text_at}

-- an operator on its operands
abbrev pub operation_in : Data → Option Formula
operation_in d = option_and_then (λ op. option_and_then (applied op) (at_key (codes "args") (list_in formula_in) d)) (text_at (codes "op") d)

-- a select, whatever other keys stand there
abbrev pub select_at : Data → Option Query
select_at d = option_and_then (query_from d) (at_key (codes "from") source_in d)

-- two selects joined
abbrev pub join_in : Data → Option Source
join_in d =
    option_and_then (λ l. option_and_then (λ r. option_and_then (joined (text_at (codes "join") d) l r) (at_key (codes "on") formula_in d))
    (at_key (codes "right") side_of d)) (at_key (codes "left") side_of d)

-- all of a source
abbrev pub all_of : Source → Query
all_of source = query source [] None
