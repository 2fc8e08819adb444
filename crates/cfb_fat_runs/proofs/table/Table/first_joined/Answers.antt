use Rattle.std.proofs.Common.{◌≡◌, ◌+◌, ◌-◌, ◌<◌, drop, length, ap, ◌∙◌, arith}
use Rattle.std.specs.Prelude.{not, slice_index_or}
use Rattle.cfb_fat_runs.specs.RunLists.{all_runs}
use Rattle.cfb_fat_runs.specs.Longest.{begins_run}
use Rattle.cfb_fat_runs.specs.Runs.{start_of}
use Rattle.cfb_fat_runs.specs.Tables.{entries_of}
use Rattle.cfb_fat_runs.specs.declared.runs.Kind.TheVariants.{Linked}
use Rattle.cfb_fat_runs.specs.declared.runs.Run.{Run}
use Rattle.cfb_fat_runs.proofs.Edited.{same_item}
use Rattle.cfb_fat_runs.proofs.RunStarts.{goes_in_run, on_before}
use Rattle.cfb_fat_runs.proofs.Walked.{begins_with, run_some}
use Rattle.cfb_fat_runs.proofs.table.Table.first_joined.Goals as goal

pub loop-first-init : goal.loop-first-init
loop-first-init c =
    let it = c.args.self.now in
    let p = c.args.position in
    let d : Run = record { first = 0; kind = Linked 0 } in
    let m = slice_index_or (all_runs it.runs) p d in
    let is = same_item (all_runs it.runs) p d m c.requires in
    let at = begins_with it p m c.requires is in
    record {
      inside = omega arith;
      from = omega arith;
      on = λ k from to. goes_in_run it p k m c.requires is (omega (arith, from, at)) to;
    }

pub loop-first-preserved : goal.loop-first-preserved
loop-first-preserved c =
    let it = c.args.self.now in
    let inv = c.loop-first.invariant in
    let more = c.is_joined.ensures.front c.loop-first-test.true in
    let q = c.loop-first.first - 1 in
    let e : q + 1 ≡ c.loop-first.first = omega (arith, more) in
    let inside : q < length (all_runs it.runs) = omega (arith, e, inv.inside, c.requires) in
    let d : Run = record { first = 0; kind = Linked 0 } in
    let m = slice_index_or (all_runs it.runs) q d in
    let is = same_item (all_runs it.runs) q d m inside in
    let at = begins_with it q m inside is in
    let some = run_some it.len q (all_runs it.runs) m it.tiled inside is in
    let same : start_of it.len (drop (q + 1) (all_runs it.runs)) ≡ start_of it.len (drop c.loop-first.first (all_runs it.runs)) = ap (λ n. start_of it.len (drop n (all_runs it.runs))) e in
    record {
      inside = omega (arith, inv.inside);
      from = omega (arith, at, some, same, inv.from);
      on = on_before it q m (start_of it.len (drop (c.args.position + 1) (all_runs it.runs))) inside is (ap (begins_run (entries_of it)) same ∙ c.is_joined.ensures.begins ∙ ap not c.loop-first-test.true)
          (λ k from to. inv.on k (omega (arith, from, same)) to);
    }
