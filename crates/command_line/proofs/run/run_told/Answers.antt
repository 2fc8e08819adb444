use Rattle.std.proofs.Common.{◌∙◌, map, sym}
use Rattle.command_file.specs.RequestsOf.{request_of}
use Rattle.command_line.proofs.Heard.{done_of}
use Rattle.command_line.proofs.run.run_told.Goals as goal

pub returns-clause-done : goal.returns-clause-done
returns-clause-done g c is = done_of c.run-ended.result (map request_of c.args.commands.now) c.run-ended.ensures (sym c.status_of.ensures ∙ is)
