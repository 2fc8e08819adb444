use Rattle.command_places.proofs.Unread.{below_two, over_two}
use Rattle.command_places.proofs.values.is_no_two.Goals as goal

pub returns-in_default : goal.returns-in_default
returns-in_default c = below_two c.args.list.now c.in_default.len_below

pub returns-in_default-2 : goal.returns-in_default-2
returns-in_default-2 c = over_two c.args.list.now c.in_default.len_at_least
