use Rattle.std.proofs.Common.{◌≤◌, sym, subst}
use Rattle.cfb_fat_runs.specs.declared.runs.Run.{Run}
use Rattle.cfb_fat_runs.proofs.Walked.{follows_one, follows_run}
use Rattle.cfb_fat_runs.proofs.table.Table.follow.Goals as goal

pub returns-in_ok-push-in-Special : goal.returns-in_ok-push-in-Special
returns-in_ok-push-in-Special c =
    let found = c.find-position.ensures in
    let m = c.get.result in
    follows_one c.args.self.now c.find-position.result c.args.start c.in-Special.number m c.args.sectors.now.items c.push.new.self.items found.inside c.get.ensures c.in-Special.is
    (subst (λ (x : Run). x.first ≤ c.args.start) (sym c.get.ensures) (found.from m)) found.to c.in_ok-push-in-Special.ensures.items

pub returns-in_ok-push_range-in-Linked : goal.returns-in_ok-push_range-in-Linked
returns-in_ok-push_range-in-Linked c =
    let found = c.find-position.ensures in
    let m = c.get.result in
    follows_run c.args.self.now c.find-position.result c.args.start c.in-Linked.next c.end-stop.result m c.args.sectors.now.items c.push_range.new.sectors.items found.inside c.get.ensures c.in-Linked.is
    (subst (λ (x : Run). x.first ≤ c.args.start) (sym c.get.ensures) (found.from m)) found.to c.end-stop.ensures c.in_ok-push_range-in-Linked.ensures
