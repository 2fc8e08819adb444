use Rattle.std.proofs.Common.{◌+◌, map, take}
use Rattle.command_file.specs.RequestsOf.{request_of}
use Rattle.installer.proofs.Grouped.{grouped_more, taken_more}
use Rattle.msi_changes.specs.Said.{insert_name, insert_rows}
use Rattle.installer.proofs.groups.joined_insert.Goals as goal

pub loop-command-preserved : goal.loop-command-preserved
loop-command-preserved c =
    let i = c.loop-command.command-index in
    let commands = c.args.commands.now in
    let more = c.in-Some.ensures in
    grouped_more (insert_name c.loop-command.all) (insert_name c.in-Some.more) (map request_of (take i commands)) (map request_of (take (i + 1) commands)) (insert_rows c.loop-command.all) (insert_rows c.in-Some.more) more.0 (request_of c.command-item.result)
    more.2 (taken_more request_of commands i c.command-item.result c.loop-command-test.true c.command-item.is) more.1 more.3 c.loop-command.invariant
