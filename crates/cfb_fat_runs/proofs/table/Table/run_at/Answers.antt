use Rattle.std.proofs.Common.{◌≡◌, ◌+◌, ◌-◌, drop, sym, ap, ◌∙◌, arith, ⊎_elim}
use Rattle.std.specs.Prelude.{slice_index, slice_index_or}
use Rattle.std.proofs.lemmas.Bool.{cases_lt}
use Rattle.cfb_fat_runs.specs.RunLists.{all_runs}
use Rattle.cfb_fat_runs.specs.Longest.{begins_run, goes_on}
use Rattle.cfb_fat_runs.specs.Runs.{start_of}
use Rattle.cfb_fat_runs.specs.Tables.{entries_of}
use Rattle.cfb_fat_runs.proofs.Edited.{same_item, stop_least}
use Rattle.cfb_fat_runs.proofs.Views.{size_of}
use Rattle.cfb_fat_runs.proofs.Walked.{begins_with, run_some}
use Rattle.cfb_fat_runs.proofs.table.Table.run_at.Goals as goal

pub returns-then-sector-self : goal.returns-then-sector-self
returns-then-sector-self c = let size = size_of c.args.self.now in omega (arith, size, c.if-sector-self.true)

pub overflow_sub-result : goal.overflow_sub-result
overflow_sub-result c =
    let it = c.args.self.now in
    let xs = (all_runs it.runs) in
    let p = c.find-position.result in
    let found = c.find-position.ensures in
    let front = c.first_joined.ensures in
    let m = c.get-first.result in
    let r = slice_index_or xs p m in
    let is_r = same_item xs p m r found.inside in
    let at_f = begins_with it c.first_joined.result m (omega (arith, front.inside, found.inside)) c.get-first.ensures in
    let at_p = begins_with it p r found.inside is_r in
    let some = run_some it.len p xs r it.tiled found.inside is_r in
    omega (arith, at_f, at_p, front.from, some, c.last_joined.ensures.to, c.end-stop.ensures)

pub entry-requires : goal.entry-requires
entry-requires c =
    let it = c.args.self.now in
    let xs = (all_runs it.runs) in
    let l = c.last_joined.result in
    let inside = c.last_joined.ensures.inside in
    let m = c.get-first.result in
    let n = slice_index_or xs l m in
    let is_n = same_item xs l m n inside in
    let some = run_some it.len l xs n it.tiled inside is_n in
    let most = stop_least it.len l xs n it.tiled inside is_n in
    let size = size_of it in
    omega (arith, some, most, size, c.end-stop.ensures)

pub returns : goal.returns
returns c =
    let it = c.args.self.now in
    let xs = (all_runs it.runs) in
    let entries = entries_of it in
    let p = c.find-position.result in
    let l = c.last_joined.result in
    let found = c.find-position.ensures in
    let front = c.first_joined.ensures in
    let back = c.last_joined.ensures in
    let stop = c.end-stop.result in
    let m = c.get-first.result in
    let r = slice_index_or xs p m in
    let is_r = same_item xs p m r found.inside in
    let n = slice_index_or xs l m in
    let is_n = same_item xs l m n back.inside in
    let at_f = begins_with it c.first_joined.result m (omega (arith, front.inside, found.inside)) c.get-first.ensures in
    let at_p = begins_with it p r found.inside is_r in
    let some = run_some it.len p xs r it.tiled found.inside is_r in
    let more = run_some it.len l xs n it.tiled back.inside is_n in
    let most = stop_least it.len l xs n it.tiled back.inside is_n in
    let size = size_of it in
    let low = found.from m in
    let end : m.first + (stop - m.first) - 1 ≡ start_of it.len (drop (l + 1) xs) - 1 = omega (arith, at_f, at_p, front.from, some, back.to, c.end-stop.ensures) in
    let same : m.first + (stop - m.first) - 1 ≡ stop - 1 = omega (arith, end, c.end-stop.ensures) in
    record {
      from = omega (arith, at_f, front.from, at_p, low);
      to = omega (arith, at_f, front.from, at_p, low, found.to, back.to, c.end-stop.ensures);
      inside = omega (arith, at_f, front.from, at_p, some, back.to, c.end-stop.ensures, most, size);
      begins = ap (begins_run entries) (sym at_f) ∙ front.begins;
      on = λ k from to. ⊎_elim
          (λ near. front.on k (omega (arith, from, at_f)) near)
          (λ far. back.on k (omega (arith, far, at_p, some)) (omega (arith, to, at_f, front.from, at_p, some, back.to, c.end-stop.ensures)))
          (cases_lt (k + 1) (start_of it.len (drop (p + 1) xs)));
      ends = ap (goes_on entries) end ∙ back.ends;
      is_last = ap (slice_index entries) same ∙ sym c.entry.ensures;
    }
