use Rattle.std.proofs.Common.{◌∙◌}
use Rattle.json_parts.specs.Values.{value_in}
use Rattle.command_places.proofs.Unread.{unread_list}
use Rattle.command_places.proofs.values.are_no_values.Goals as goal

pub returns : goal.returns
returns c = c.has_no_value.ensures ∙ unread_list value_in c.args.list.now
