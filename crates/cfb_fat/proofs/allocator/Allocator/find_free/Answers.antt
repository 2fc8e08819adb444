use Rattle.std.proofs.Common.{◌≡◌, sym, subst, arith, ⊎_elim, true≢false, ◌∙◌}
use Rattle.std.specs.Prelude.{slice_index}
use Rattle.std.proofs.lemmas.Bool.{cases_lt}
use Rattle.cfb_sectors.specs.Sectors.{free}
use Rattle.cfb_chains.specs.Changes.{IsNotIn}
use Rattle.cfb_fat.specs.Tables.{difat_sectors_of, fat_of, fat_sectors_of}
use Rattle.cfb_fat.proofs.allocator.Allocator.find_free.Goals as goal

pub loop-index-preserved : goal.loop-index-preserved
loop-index-preserved g c = λ k less is no_ds no_fs.
    let it = c.args.self.now in
    let index = c.in-Some.index in
    ⊎_elim
    (λ low. c.loop-index.invariant k low is no_ds no_fs)
    (λ from. ⊎_elim
    (λ before. c.in-Some.ensures.3 k from before is)
    (λ past. let at : k ≡ index = omega (arith, past, less) in
    let spare = subst (λ n. (slice_index (fat_of {g = g.F.ReadMedium} it) n ≡ free) × IsNotIn (difat_sectors_of {g = g.F.ReadMedium} it) n × IsNotIn (fat_sectors_of {g = g.F.ReadMedium} it) n) at (is, no_ds, no_fs) in
    true≢false (sym (c.is_spare.ensures.1 spare) ∙ c.if-is_spare.false))
    (cases_lt k index))
    (cases_lt k c.loop-index.from)
