use Rattle.std.proofs.Common.{◌≡◌, ◌≤◌, ◌+◌, ◌-◌, ◌++◌, length, map, take}
use Rattle.std.specs.Prelude.{vec_capacity, vec_len}
use Rattle.command_file.specs.RequestsOf.{request_of}
use Rattle.installer.specs.Groups.{all_done}
use Rattle.installer.specs.RepliesOf.{reply_of}
use Rattle.installer.proofs.groups.push_done.Given as goal

abbrev pub invariant-loop : goal.invariant-loop
invariant-loop l = record {
  room : vec_len l.answers + (length l.commands - l.index) ≤ vec_capacity l.answers;
  capacity : vec_capacity l.answers ≡ vec_capacity l.fn.answers;
  len : vec_len l.answers ≡ vec_len l.fn.answers + l.index;
  told : map reply_of l.answers.items ≡ map reply_of l.fn.answers.items ++ all_done (map request_of (take l.index l.commands));
}
