use Rattle.serde_json.specs.View.{view}
use Rattle.command_file.proofs.Nested.{select_is}
use Rattle.command_file.proofs.selects.select_of.Goals as goal

pub returns : goal.returns
returns c = rw (select_is (view c.args.json.now)) c.select_at.ensures
