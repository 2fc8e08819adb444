use Rattle.std.proofs.Common.{◌≡◌, ◌+◌, ap, subst, ◌∙◌}
use Rattle.cfb_sectors.specs.Sectors.{sector_start}
use Rattle.cfb_fat.specs.Changing.{WritesBeside}
use Rattle.cfb_fat.proofs.GrowthSteps.{on_ok_map}
use Rattle.cfb_fat.proofs.Leaving.{writes_leave}
use Rattle.cfb_fat.proofs.allocator.Allocator.write_contiguous.Goals as goal

pub returns-clause-leaves : goal.returns-clause-leaves
returns-clause-leaves g c =
    let it = c.args.self.now in
    let new = c.write_beside.new.self in
    let bytes = c.args.bytes.now in
    let at : c.in-Some.place ≡ sector_start it.sectors.version c.args.sector_id + c.args.offset = c.in-Some.ensures.1 ∙ ap (λ n. n + c.args.offset) c.start.ensures in
    on_ok_map c.write_beside.result _ _ c.write_beside.ensures.not_failed
    (λ live fits honest. writes_leave c.args.sector_id c.args.offset bytes it new fits (subst (λ p. WritesBeside p bytes it new) at c.write_beside.ensures.writes) live.1 honest)
