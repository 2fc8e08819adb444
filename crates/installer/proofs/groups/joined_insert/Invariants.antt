use Rattle.std.proofs.Common.{◌≡◌, List, map, take}
use Rattle.command_file.specs.RequestsOf.{request_of}
use Rattle.installer.specs.Groups.{inserts_of}
use Rattle.msi_changes.specs.Said.{insert_name, insert_rows}
use Rattle.msi_joined.specs.Joined.{joined_rows}
use Rattle.msi_values.specs.Datum.{Datum}
use Rattle.installer.proofs.groups.joined_insert.Given as goal

-- the commands so far, and their rows
abbrev pub invariant-loop-command : goal.invariant-loop-command
invariant-loop-command l = (groups : List (List (List Datum))) × (map request_of (take l.command-index l.commands) ≡ inserts_of (insert_name l.all) groups) × (insert_rows l.all ≡ joined_rows groups)
