use Rattle.std.proofs.Common.{◌≡◌, map, drop}
use Rattle.serde_json.specs.View.{items_view}
use Rattle.command_file.specs.RequestsOf.{request_of}
use Rattle.command_file.specs.Commands.{command_in}
use Rattle.json_parts.specs.Values.{all_in}
use Rattle.json_parts.proofs.ReadLists.{onto}
use Rattle.command_file.proofs.reading.each_command.Given as goal

abbrev pub invariant-loop-item : goal.invariant-loop-item
invariant-loop-item l = onto (map request_of l.commands.items) (all_in command_in (items_view (drop l.item-index l.list))) ≡ all_in command_in (items_view l.list)
