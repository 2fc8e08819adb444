use Rattle.std.proofs.Common.{[], subst}
use Rattle.installer_runs.specs.Tallies.{HasHeard}
use Rattle.command_line.proofs.Heard.{all_ran, heard_all}
use Rattle.command_line.proofs.commands.run.Goals as goal

pub returns-in-Ok-ending : goal.returns-in-Ok-ending
returns-in-Ok-ending g c =
    let ran = c.in-Ok.ensures.1 in
    let heard = heard_all (λ a. a.tally) ran.heard.slices c.new-answers.result c.run_commands.new.listener [] ran.heard.one_by_one c.new-answers.ensures in
    let known = subst (HasHeard c.run_commands.new.listener.tally) ran.heard.all heard in
    let ends = c.in-Ok-ending.ensures.heard ran.replies known in
    record {
      ran = ran.ran;
      rest = ran.rest;
      parts = ran.parts;
      replies = ran.replies;
      start = ran.start;
      end = ran.end;
      live = ran.live;
      behaves = ran.behaves;
      ends = ends;
      done = all_ran c.args.manner.until c.in-Ok.ended ran.replies ran.rest c.in-Ok-ending.ending c.in-Ok-ending.ensures.whole ran.whole ran.stops ends;
    }
