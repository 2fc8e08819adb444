use Rattle.std.proofs.Common.{subst, sym}
use Rattle.cfb_sectors.proofs.Appending.{on_ok}
use Rattle.cfb_sectors.specs.declared.initial.SectorInit.{SectorInit}
use Rattle.cfb_chain_io.specs.ChainEffects.{WritesIntoNewSectors}
use Rattle.cfb_chain_io.proofs.WrittenParts.{writes_within}
use Rattle.cfb_chain_io.proofs.writing.write_chain.Goals as goal

pub returns-then-lies_in-clause-written : goal.returns-then-lies_in-clause-written
returns-then-lies_in-clause-written g c =
    on_ok c.overwrite_chain.result _ _ (λ wrote chain. writes_within c.args.init c.args.at c.args.bytes.now c.args.allocator.now c.overwrite_chain.new.allocator c.args.links.now (wrote chain)) c.overwrite_chain.ensures.written

pub returns-in-Zero-clause-written : goal.returns-in-Zero-clause-written
returns-in-Zero-clause-written g c =
    on_ok c.write_behind.result _ _ (λ wrote chain. subst (λ (i : SectorInit). WritesIntoNewSectors i c.args.at c.args.bytes.now c.args.allocator.now c.write_behind.new.allocator c.args.links.now c.write_behind.new.links) (sym c.in-Zero.is) (wrote chain)) c.write_behind.ensures.written
