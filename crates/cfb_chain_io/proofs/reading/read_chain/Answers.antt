use Rattle.std.proofs.Common.{◌≡◌, ◌≤◌, ◌+◌, ◌-◌, ◌*◌, ◌/◌, ◌<◌, inl, inr, length, take, drop, ap, sym, subst, ◌∙◌, arith, ⊎_elim, IsTrue, length-take, length-drop}
use borrow.Rule.Slice.PartMut.{same_len_mid}
use Rattle.cfb_medium.specs.Versions.{sector_len}
use Rattle.cfb_sectors.specs.Sectors.{filled_part, joined, sector_start}
use Rattle.cfb_chains.specs.Grown.{IsChainInTable}
use Rattle.cfb_chains.specs.LinkViews.{ids_of, links_version}
use Rattle.cfb_chains.proofs.ChainWriting.{split_below}
use Rattle.cfb_fat.specs.Keeping.{rests_cause}
use Rattle.cfb_fat.specs.OnlyReads.{all_rest_then}
use Rattle.cfb_fat.specs.Tables.{bytes_of, version_of}
use Rattle.cfb_chain_io.specs.ChainEffects.{content_of}
use Rattle.cfb_chain_io.proofs.Owning.{fits_in, part_there}
use Rattle.cfb_chain_io.proofs.ReadParts.{more_read, part_of}
use Rattle.cfb_chain_io.proofs.reading.read_chain.Goals as goal

pub read-preserved : goal.read-preserved
read-preserved g c =
    let inv = c.read.invariant in
    let n = c.min-count.result in
    let done = c.read.done in
    let a = c.args.allocator.now in
    let m = c.read.allocator in
    let ids = ids_of c.args.links.now in
    let w = links_version c.args.links.now in
    let count = c.min-count.ensures in
    let enough : done + n ≤ length c.read.buffer = omega (arith, count, inv.size, inv.most) in
    let part : length (take (done + n - done) (drop done c.read.buffer)) ≡ n = simp (length-take, length-drop) (omega (arith, enough)) in
    let inside : c.args.at + done < length ids * sector_len w = let whole = c.lies_in.ensures.0 c.if-not-lies_in.false in let more = c.read-test.true in omega (arith, whole, more, inv.size) in
    record {
      most = omega (arith, enough, inv.size);
      size = same_len_mid done (done + n - done) c.read.buffer c.read_contiguous.new.buffer c.read_contiguous.auto.buffer ∙ inv.size;
      rests = all_rest_then a m c.read_contiguous.new.self inv.rests c.in_default.ensures.only_reads;
      read = λ has.
          let same : version_of m ≡ w = inv.rests.sectors.version ∙ sym has.version in
          let honest = subst IsTrue (sym inv.rests.sectors.honest) has.honest in
          let piece = c.in_default.ensures.read honest
          ∙ ap (filled_part (bytes_of m) (sector_start (version_of m) c.spot-sector_id.result.0 + c.spot-sector_id.result.1)) part
          ∙ ap (λ b. filled_part b (sector_start (version_of m) c.spot-sector_id.result.0 + c.spot-sector_id.result.1) n) (inv.rests.sectors.bytes has.honest)
          ∙ ap (λ u. filled_part (bytes_of a) (sector_start u c.spot-sector_id.result.0 + c.spot-sector_id.result.1) n) same
          ∙ part_of w (bytes_of a) ids (c.args.at + done) n c.spot-sector_id.result.0 c.spot-sector_id.result.1 inside (omega (arith, count, c.spot-sector_id.ensures.left)) c.spot-sector_id.ensures.sector c.spot-sector_id.ensures.offset
          ∙ ap (λ u. take n (drop (c.args.at + done) (joined u (bytes_of a) ids))) has.version in
          more_read (content_of a c.args.links.now) c.read.buffer c.read_contiguous.new.buffer c.args.at done n (done + n - done) (omega (arith, enough)) (c.read_contiguous.auto.buffer ∙ part) piece (inv.read has);
    }

pub returns-in-Err-clause-refused_only_if : goal.returns-in-Err-clause-refused_only_if
returns-in-Err-clause-refused_only_if g c = λ wrong has.
    let inv = c.read.invariant in
    let n = c.min-count.result in
    let done = c.read.done in
    let m = c.read.allocator in
    let ids = ids_of c.args.links.now in
    let w = links_version c.args.links.now in
    let count = c.min-count.ensures in
    let enough : done + n ≤ length c.read.buffer = omega (arith, count, inv.size, inv.most) in
    let part : length (take (done + n - done) (drop done c.read.buffer)) ≡ n = simp (length-take, length-drop) (omega (arith, enough)) in
    let inside : c.args.at + done < length ids * sector_len w = let whole = c.lies_in.ensures.0 c.if-not-lies_in.false in let more = c.read-test.true in omega (arith, whole, more, inv.size) in
    let same : w ≡ version_of m = has.version ∙ sym inv.rests.sectors.version in
    let told = c.in-Err.ensures.refused_only_if.0 wrong in
    let fits = fits_in w (version_of m) (c.args.at + done) c.spot-sector_id.result.1 n same c.spot-sector_id.ensures.offset (omega (arith, count, c.spot-sector_id.ensures.left)) in
    told.1 (part_there m ids ((c.args.at + done) / sector_len w) c.spot-sector_id.result.0 c.spot-sector_id.result.1 _ told.0 (subst (λ l. IsChainInTable l ids) (sym inv.rests.fat) has.linked)
    (split_below w (c.args.at + done) (length ids) inside) c.spot-sector_id.ensures.sector (omega (arith, fits, part)))

pub returns-in-Err-clause-only_reads : goal.returns-in-Err-clause-only_reads
returns-in-Err-clause-only_reads g c = all_rest_then c.args.allocator.now c.read.allocator c.read_contiguous.new.self c.read.invariant.rests c.in-Err.ensures.only_reads

pub returns-in-Err-clause-cause : goal.returns-in-Err-clause-cause
returns-in-Err-clause-cause g c = rests_cause c.args.allocator.now c.read.allocator c.read_contiguous.new.self c.in-Err.error c.read.invariant.rests c.in-Err.ensures.cause

pub returns-in-Err-clause-errors : goal.returns-in-Err-clause-errors
returns-in-Err-clause-errors g c = ⊎_elim (λ fault. inl fault) (λ wrong. inr (inl wrong)) c.in-Err.ensures.errors
