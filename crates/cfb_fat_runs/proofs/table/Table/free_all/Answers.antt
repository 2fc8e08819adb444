use Rattle.std.proofs.Common.{◌-◌, refl, sym, subst, ◌∙◌, arith}
use Rattle.cfb_fat_runs.specs.Freeing.{FreesFirst}
use Rattle.cfb_fat_runs.specs.Tables.{entries_of}
use Rattle.cfb_fat_runs.proofs.Marking.{frees_more}
use Rattle.cfb_fat_runs.proofs.Views.{size_of}
use Rattle.cfb_fat_runs.proofs.table.Table.free_all.Goals as goal

pub overflow_add-stop : goal.overflow_add-stop
overflow_add-stop c =
    let it = c.args.self.now in
    let size = size_of it in
    let end = c.stretch_end-next.ensures in
    let less = c.requires.inside (c.stretch_end-next.result - 1) (omega (arith, end.after, end.inside)) in
    omega (arith, less, size, it.few)

pub loop-place-preserved : goal.loop-place-preserved
loop-place-preserved c =
    let inv = c.loop-place.invariant in
    let end = c.stretch_end-next.ensures in
    let did = c.free_stretch.ensures in
    let joined = c.join_between.ensures in
    record {
      frees = subst (FreesFirst c.stretch_end-next.result c.args.sectors.now (entries_of c.args.self.now)) (sym joined.entries)
          (frees_more c.loop-place.place c.stretch_end-next.result _ c.args.sectors.now (entries_of c.args.self.now) (entries_of c.loop-place.self) (entries_of c.free_stretch.new.self) end.after end.consecutive refl inv.frees did.frees);
      inside = end.inside;
      runs = let had = inv.runs in let rest = end.rest in omega (arith, had, rest, did.runs, joined.runs);
      capacity = joined.capacity ∙ did.capacity ∙ inv.capacity;
    }
