use Rattle.std.proofs.Common.{◌≡◌, ◌≤◌, ◌+◌, ◌-◌, ◌*◌, ◌<◌, length, take, drop, ap, sym, ◌∙◌, arith, length-take, length-drop}
use borrow.Rule.Slice.PartMut.{same_len_mid}
use Rattle.cfb_medium.specs.Versions.{sector_len}
use Rattle.cfb_chains.specs.LinkViews.{ids_of, links_version}
use Rattle.cfb_chains.proofs.ChainWriting.{length-joined}
use Rattle.cfb_fat.specs.Keeping.{rests_cause}
use Rattle.cfb_fat.specs.OnlyReads.{all_rest_then}
use Rattle.cfb_fat.specs.Tables.{bytes_of, version_of}
use Rattle.cfb_chain_io.specs.ChainEffects.{content_of}
use Rattle.cfb_chain_io.proofs.ReadParts.{more_read}
use Rattle.cfb_mini.specs.LinkViews.{minis_of}
use Rattle.cfb_mini.specs.Minis.{mini_joined}
use Rattle.cfb_mini.proofs.MiniParts.{mini_part}
use Rattle.cfb_mini.proofs.Resting.{has_yet, same_content}
use Rattle.cfb_mini.proofs.reading.read_minis.Goals as goal

pub returns-in-Err-clause-cause : goal.returns-in-Err-clause-cause
returns-in-Err-clause-cause g c = rests_cause c.args.allocator.now c.read.allocator c.read_chain.new.allocator c.in-Err.error c.read.invariant.rests c.in-Err.ensures.cause

pub read-preserved : goal.read-preserved
read-preserved g c =
    let inv = c.read.invariant in
    let n = c.min-count.result in
    let done = c.read.done in
    let a = c.args.allocator.now in
    let m = c.read.allocator in
    let stream = c.args.stream.now in
    let minis = minis_of c.args.minis.now in
    let place = c.spot-place.result.0 in
    let count = c.min-count.ensures in
    let enough : done + n ≤ length c.read.buffer = omega (arith, count, inv.size, inv.most) in
    let part : length (take (done + n - done) (drop done c.read.buffer)) ≡ n = simp (length-take, length-drop) (omega (arith, enough)) in
    let inside : c.args.at + done < 64 * length minis = let whole = c.lies_in.ensures.0 c.if-not-lies_in.false in let more = c.read-test.true in omega (arith, whole, more, inv.size) in
    record {
      most = omega (arith, enough, inv.size);
      size = same_len_mid done (done + n - done) c.read.buffer c.read_chain.new.buffer c.read_chain.auto.buffer ∙ inv.size;
      rests = all_rest_then a m c.read_chain.new.allocator inv.rests c.in_default.ensures.only_reads;
      read = λ has all.
          let got = c.in_default.ensures.read (has_yet a m stream inv.rests has) in
          let there = c.in_default.ensures.there.1 in
          let long : length (content_of a stream) ≡ length (ids_of stream) * sector_len (links_version stream) = length-joined (version_of a) (bytes_of a) (ids_of stream) ∙ ap (λ u. length (ids_of stream) * sector_len u) (sym has.version) in
          let piece = got ∙ ap (λ k. take k (drop place (content_of m stream))) part ∙ ap (λ l. take n (drop place l)) (same_content a m stream inv.rests has)
          ∙ mini_part (content_of a stream) minis (c.args.at + done) n place inside (omega (arith, count, c.spot-place.ensures.left)) c.spot-place.ensures.place (omega (arith, long, there, part)) in
          more_read (mini_joined (content_of a stream) minis) c.read.buffer c.read_chain.new.buffer c.args.at done n (done + n - done) (omega (arith, enough)) (c.read_chain.auto.buffer ∙ part) piece (inv.read has all);
    }
