use Rattle.std.proofs.Common.{◌≡◌}
use Rattle.command_line.proofs.Heard.{nothing_more}
use Rattle.command_line.proofs.commands.AnswersListener.keep_back.Goals as goal

pub returns : goal.returns
returns g c before h = nothing_more c.args.self.now.tally before h
