use Rattle.std.proofs.Common.{◌<◌, length, sym, ◌∙◌, arith, ⊎_elim}
use Rattle.std.proofs.lemmas.Bool.{cases_lt}
use Rattle.cfb_fat_runs.specs.RunLists.{all_runs}
use Rattle.cfb_fat_runs.specs.Tables.{entries_of}
use Rattle.cfb_fat_runs.specs.declared.runs.Kind.TheVariants.{Linked}
use Rattle.cfb_fat_runs.specs.declared.runs.Run.{Run}
use Rattle.cfb_fat_runs.proofs.Edited.{runs_few, start_none, start_some}
use Rattle.cfb_fat_runs.proofs.Marking.{frees_none}
use Rattle.cfb_fat_runs.proofs.Views.{size_of}
use Rattle.cfb_fat_runs.proofs.table.Table.free_stretch.Goals as goal

pub find-found-requires : goal.find-found-requires
find-found-requires c = let size = size_of c.args.self.now in omega (arith, c.requires.some, c.requires.inside, size)

pub loop-at-init : goal.loop-at-init
loop-at-init c =
    let did = c.begin-position.ensures in
    let new = c.begin-position.new.self in
    let d : Run = record { first = 0; kind = Linked 0 } in
    record {
      frees = frees_none c.args.first (entries_of c.args.self.now) (entries_of new) did.entries;
      from = omega arith;
      most = omega (arith, c.requires.some);
      begins = start_some new.len c.begin-position.result (all_runs new.runs) d did.inside ∙ did.first d;
      inside = omega (arith, did.inside);
      room = λ less. did.runs;
      runs = omega (arith, did.runs);
      capacity = did.capacity;
    }

pub free_run-at-requires-clause-inside : goal.free_run-at-requires-clause-inside
free_run-at-requires-clause-inside c =
    let it = c.loop-at.self in
    let inv = c.loop-at.invariant in
    let size = size_of it in
    let more = c.loop-at-test.true in
    ⊎_elim
    (λ less. less)
    (λ past. let at = start_none it.len c.loop-at.position (all_runs it.runs) past in absurd (omega (arith, at, inv.begins, size, inv.frees.size, c.requires.inside, more)))
    (cases_lt c.loop-at.position (length (all_runs it.runs)))

pub free_run-at-requires-clause-first : goal.free_run-at-requires-clause-first
free_run-at-requires-clause-first c = λ d.
    let it = c.loop-at.self in
    let inv = c.loop-at.invariant in
    let size = size_of it in
    let more = c.loop-at-test.true in
    let inside : c.loop-at.position < length (all_runs it.runs) = ⊎_elim
    (λ less. less)
    (λ past. let at = start_none it.len c.loop-at.position (all_runs it.runs) past in absurd (omega (arith, at, inv.begins, size, inv.frees.size, c.requires.inside, more)))
    (cases_lt c.loop-at.position (length (all_runs it.runs))) in
    sym (start_some it.len c.loop-at.position (all_runs it.runs) d inside) ∙ inv.begins

pub overflow_add-position : goal.overflow_add-position
overflow_add-position c = let it = c.loop-at.self in let few = runs_few 0 it.len (all_runs it.runs) it.tiled in omega (arith, c.loop-at.invariant.inside, few, it.few)
