use Rattle.cfb_opening.proofs.ReadsInTurn.{reads_then}
use Rattle.cfb_opening.proofs.tables.read_front.Goals as goal

pub returns-clause-only_reads : goal.returns-clause-only_reads
returns-clause-only_reads g c =
    let did = c.len.ensures in
    reads_then _ _ _ _ c.len.new.self _ (record { as_honest = did.honest; same = did.bytes; extends = did.continues }) c.read_header.ensures.only_reads
