use Rattle.std.proofs.Common.{◌<◌, ◌≤◌, length, sym, subst, arith, ⊎_elim}
use Rattle.std.proofs.lemmas.Bool.{cases_lt}
use Rattle.cfb_fat_runs.specs.RunLists.{all_runs}
use Rattle.cfb_fat_runs.specs.declared.runs.Run.{Run}
use Rattle.cfb_fat_runs.proofs.Edited.{runs_few, start_none, stop_least}
use Rattle.cfb_fat_runs.proofs.Views.{size_of}
use Rattle.cfb_fat_runs.proofs.Walked.{all_free, begins_with, none_free, run_some, unlike}
use Rattle.cfb_fat_runs.proofs.table.Table.next_free.Goals as goal

pub find-found-requires : goal.find-found-requires
find-found-requires c = let size = size_of c.args.self.now in omega (arith, size, c.if-from-len.false, c.len.ensures.value)

pub returns-then-is_free : goal.returns-then-is_free
returns-then-is_free c =
    let it = c.args.self.now in
    let found = c.find-found.ensures in
    let m = c.get-holder.result in
    let from = subst (λ (x : Run). x.first ≤ c.args.from) (sym c.get-holder.ensures) (found.from m) in (
      omega arith,
      omega (arith, c.if-from-len.false, c.len.ensures.value),
      all_free it c.find-found.result c.args.from m found.inside c.get-holder.ensures (c.is_free.ensures.0 c.if-is_free.true) from found.to,
      λ k low high. absurd (omega (arith, low, high)),
    )

pub loop-position-init : goal.loop-position-init
loop-position-init c =
    let it = c.args.self.now in
    let found = c.find-found.ensures in
    let m = c.get-holder.result in
    let from = subst (λ (x : Run). x.first ≤ c.args.from) (sym c.get-holder.ensures) (found.from m) in
    record {
      inside = omega (arith, found.inside);
      past = omega (arith, found.to);
      none = λ k low high. none_free it c.find-found.result k m found.inside c.get-holder.ensures (λ same. unlike _ (c.is_free.ensures.1 same) c.if-is_free.false) (omega (arith, from, low)) high;
    }

pub returns-then-is_free-2 : goal.returns-then-is_free-2
returns-then-is_free-2 c =
    let it = c.args.self.now in
    let xs = (all_runs it.runs) in
    let inv = c.loop-position.invariant in
    let p = c.loop-position.position in
    let m = c.get-run.result in
    let inside : p < length xs = omega (arith, c.loop-position-test.true, c.len-in-loop-position.ensures) in
    let at = begins_with it p m inside c.get-run.ensures in
    let some = run_some it.len p xs m it.tiled inside c.get-run.ensures in
    let most = stop_least it.len p xs m it.tiled inside c.get-run.ensures in
    let size = size_of it in (
      omega (arith, inv.past, at),
      omega (arith, some, most, size),
      all_free it p m.first m inside c.get-run.ensures (c.is_free-in-loop-position.ensures.0 c.if-is_free-2.true) (omega arith) some,
      λ k low high. inv.none k low (omega (arith, high, at)),
    )

pub loop-position-preserved : goal.loop-position-preserved
loop-position-preserved c =
    let it = c.args.self.now in
    let xs = (all_runs it.runs) in
    let inv = c.loop-position.invariant in
    let p = c.loop-position.position in
    let m = c.get-run.result in
    let inside : p < length xs = omega (arith, c.loop-position-test.true, c.len-in-loop-position.ensures) in
    let at = begins_with it p m inside c.get-run.ensures in
    let some = run_some it.len p xs m it.tiled inside c.get-run.ensures in
    record {
      inside = omega (arith, inside);
      past = omega (arith, inv.past, at, some);
      none = λ k low high. ⊎_elim
          (λ less. inv.none k low (omega (arith, less, at)))
          (λ from. none_free it p k m inside c.get-run.ensures (λ same. unlike _ (c.is_free-in-loop-position.ensures.1 same) c.if-is_free-2.false) from high)
          (cases_lt k m.first);
    }

pub returns : goal.returns
returns c = λ k low high.
    let it = c.args.self.now in
    let inv = c.loop-position.invariant in
    let size = size_of it in
    let end = start_none it.len c.loop-position.position (all_runs it.runs) (omega (arith, c.loop-position-test.false, c.len-in-loop-position.ensures)) in
    inv.none k low (omega (arith, high, size, end))

pub overflow_add-position : goal.overflow_add-position
overflow_add-position c = let it = c.args.self.now in let few = runs_few 0 it.len (all_runs it.runs) it.tiled in omega (arith, c.find-found.ensures.inside, few, it.few)
