use Rattle.std.proofs.Common.{rules, ◌≡◌, ◌∙◌, arith}
use Rattle.std.proofs.lemmas.List.{take_all}
use Rattle.std.proofs.lemmas.Option.{slice_get_within}
use Rattle.std.specs.Prelude.{slice_get, Some}
use Rattle.cfb_fat.specs.Tables.{fat_of}
use Rattle.cfb_findings.proofs.Listed.{take_found}
use Rattle.cfb_findings.proofs.sharing.fat_entries.Goals as goal

pub loop-sector_id-preserved : goal.loop-sector_id-preserved
loop-sector_id-preserved g c =
    let fat = fat_of c.args.allocator.now in
    let next : slice_get fat c.loop-sector_id.sector_id ≡ Some c.in-Some.next = search rules in record {
      copied = take_found fat c.loop-sector_id.entries.items c.push.new.self.items c.loop-sector_id.sector_id c.in-Some.next next c.loop-sector_id.invariant.copied c.in_ok-push.ensures.items;
      there = omega (arith, slice_get_within fat c.loop-sector_id.sector_id c.in-Some.next next);
    }

pub returns-clause-entries : goal.returns-clause-entries
returns-clause-entries g c =
    c.loop-sector_id.invariant.copied
    ∙ take_all c.loop-sector_id.sector_id (fat_of c.args.allocator.now) (omega (arith, c.args.allocator.now.inside c.requires, c.num_sectors-sector_id-end.ensures, c.loop-sector_id-test.false))
