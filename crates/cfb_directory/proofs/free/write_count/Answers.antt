use Rattle.std.proofs.Common.{ap, sym, subst, ◌∙◌}
use Rattle.cfb_sectors.specs.Sectors.{filled_part}
use Rattle.cfb_sectors.proofs.Appending.{on_ok}
use Rattle.cfb_fat.specs.Tables.{bytes_of}
use Rattle.cfb_directory.specs.Growth.{HeaderCountsDirectory}
use Rattle.cfb_directory.proofs.Growing.{word_there}
use Rattle.cfb_directory.proofs.Stages.{number_there}
use Rattle.cfb_directory.proofs.free.write_count.Goals as goal

pub returns-in-V4-clause-counted : goal.returns-in-V4-clause-counted
returns-in-V4-clause-counted g c =
    on_ok c.write_word.result _ _ (λ wrote honest.
    subst (λ v. HeaderCountsDirectory v (bytes_of c.write_word.new.allocator) c.args.count) (sym c.in-V4.is ∙ c.version.ensures)
    (number_there (bytes_of c.write_word.new.allocator) 40 c.args.count (ap (λ b. filled_part b 40 4) (wrote honest) ∙ word_there (bytes_of c.args.allocator.now) 40 c.args.count) c.ranges.count.fits))
    c.write_word.ensures.written
