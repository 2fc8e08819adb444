use Rattle.std.proofs.Common.{◌+◌, ◌<◌, drop, length, ap, ◌∙◌, arith}
use Rattle.std.specs.Prelude.{not, slice_index_or}
use Rattle.cfb_fat_runs.specs.RunLists.{all_runs}
use Rattle.cfb_fat_runs.specs.Runs.{start_of}
use Rattle.cfb_fat_runs.specs.declared.runs.Kind.TheVariants.{Linked}
use Rattle.cfb_fat_runs.specs.declared.runs.Run.{Run}
use Rattle.cfb_fat_runs.proofs.Edited.{runs_few, same_item, start_none}
use Rattle.cfb_fat_runs.proofs.RunStarts.{ends_here, ends_last, goes_in_run, on_after}
use Rattle.cfb_fat_runs.proofs.Walked.{begins_with, run_some}
use Rattle.cfb_fat_runs.proofs.table.Table.last_joined.Goals as goal

pub loop-last-init : goal.loop-last-init
loop-last-init c =
    let it = c.args.self.now in
    let p = c.args.position in
    let d : Run = record { first = 0; kind = Linked 0 } in
    let m = slice_index_or (all_runs it.runs) p d in
    let is = same_item (all_runs it.runs) p d m c.requires in
    let at = begins_with it p m c.requires is in
    record {
      inside = c.requires;
      to = omega arith;
      on = λ k from to. goes_in_run it p k m c.requires is (omega (arith, from, at)) to;
    }

pub returns-then-not-is_joined-clause-ends : goal.returns-then-not-is_joined-clause-ends
returns-then-not-is_joined-clause-ends c =
    let it = c.args.self.now in
    let inv = c.loop-last.invariant in
    let q = c.loop-last.last in
    let d : Run = record { first = 0; kind = Linked 0 } in
    let m = slice_index_or (all_runs it.runs) q d in
    let some = run_some it.len q (all_runs it.runs) m it.tiled inv.inside (same_item (all_runs it.runs) q d m inv.inside) in
    ends_here it (start_of it.len (drop (q + 1) (all_runs it.runs))) (omega (arith, some)) (c.is_joined.ensures.begins ∙ ap not c.if-not-is_joined.true)

pub loop-last-preserved : goal.loop-last-preserved
loop-last-preserved c =
    let it = c.args.self.now in
    let inv = c.loop-last.invariant in
    let q = c.loop-last.last + 1 in
    let inside : q < length (all_runs it.runs) = omega (arith, c.loop-last-test.true, c.len.ensures) in
    let d : Run = record { first = 0; kind = Linked 0 } in
    let m = slice_index_or (all_runs it.runs) q d in
    let is = same_item (all_runs it.runs) q d m inside in
    let at = begins_with it q m inside is in
    let some = run_some it.len q (all_runs it.runs) m it.tiled inside is in
    let b = slice_index_or (all_runs it.runs) c.loop-last.last d in
    let before = run_some it.len c.loop-last.last (all_runs it.runs) b it.tiled inv.inside (same_item (all_runs it.runs) c.loop-last.last d b inv.inside) in
    record {
      inside = inside;
      to = omega (arith, at, some, inv.to);
      on = on_after it (start_of it.len (drop c.args.position (all_runs it.runs))) q m inside is (c.is_joined.ensures.begins ∙ ap not c.if-not-is_joined.false) (omega (arith, before)) inv.on;
    }

pub returns-clause-ends : goal.returns-clause-ends
returns-clause-ends c =
    let it = c.args.self.now in
    let inv = c.loop-last.invariant in
    let q = c.loop-last.last in
    let d : Run = record { first = 0; kind = Linked 0 } in
    let m = slice_index_or (all_runs it.runs) q d in
    let some = run_some it.len q (all_runs it.runs) m it.tiled inv.inside (same_item (all_runs it.runs) q d m inv.inside) in
    ends_last it (start_of it.len (drop (q + 1) (all_runs it.runs))) (start_none it.len (q + 1) (all_runs it.runs) (omega (arith, c.loop-last-test.false, c.len.ensures))) (omega (arith, some))

pub overflow_add-last : goal.overflow_add-last
overflow_add-last c = let it = c.args.self.now in let few = runs_few 0 it.len (all_runs it.runs) it.tiled in omega (arith, c.loop-last.invariant.inside, few, it.few)
