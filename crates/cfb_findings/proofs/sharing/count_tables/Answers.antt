use Rattle.std.proofs.Common.{rules}
use Rattle.cfb_fat.specs.Tables.{difat_sectors_of, fat_sectors_of}
use Rattle.cfb_directory.specs.Views.{directory_ids}
use Rattle.cfb_mini.specs.Views.{allocator_of, directory_of, mini_fat_ids, mini_stream_ids}
use Rattle.cfb_findings.specs.Views.{counts_of}
use Rattle.cfb_findings.proofs.Listed.{five_before}
use Rattle.cfb_findings.proofs.sharing.count_tables.Goals as goal

pub returns-clause-counted : goal.returns-clause-counted
returns-clause-counted g c = λ before so.
    let first = c.count_all.ensures.counted before so in
    let second = c.count_all-2.ensures.counted _ first in
    let third = c.count_all-3.ensures.counted _ second in
    let fourth = c.count_all-4.ensures.counted _ third in
    five_before c.fat_sectors.result.now c.difat_sectors.result.now c.sectors.result.now c.mini_fat_sectors.result.now c.mini_stream_sectors.result.now
    (fat_sectors_of (allocator_of c.args.file.now)) (difat_sectors_of (allocator_of c.args.file.now)) (directory_ids (directory_of c.args.file.now)) (mini_fat_ids c.args.file.now)
    (mini_stream_ids c.args.file.now) before (counts_of c.count_all-5.new.self) (search rules) (search rules) (search rules) (search rules) (search rules)
    (c.count_all-5.ensures.counted _ fourth)
