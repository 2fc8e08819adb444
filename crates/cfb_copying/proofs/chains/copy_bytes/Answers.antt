use Rattle.std.proofs.Common.{rules, ◌≡◌, ◌≤◌, ◌*◌, ◌++◌, inl, inr, length, take, drop, ap, sym, subst, ◌∙◌, arith, length-append, length-drop}
use Rattle.std.proofs.lemmas.List.{length-take-le, take-append-le, take_all}
use Rattle.cfb_medium.specs.Versions.{sector_len}
use Rattle.cfb_chains.specs.LinkViews.{ids_of, links_version}
use Rattle.cfb_chains.proofs.ChainWriting.{length-joined}
use Rattle.cfb_fat.specs.Keeping.{rests_cause}
use Rattle.cfb_fat.specs.OnlyReads.{all_rest_refl, all_rest_then}
use Rattle.cfb_fat.specs.Tables.{bytes_of, version_of}
use Rattle.cfb_chain_io.specs.ChainEffects.{content_of, Overwrites}
use Rattle.cfb_chain_io.proofs.GoingOn.{goes_cause, goes_then, rests_go_on}
use Rattle.cfb_chain_io.proofs.Leaning.{keeps_refl, keeps_then}
use Rattle.cfb_chain_io.proofs.WrittenParts.{nothing_over}
use Rattle.cfb_copying.proofs.Pieces.{content_rests, links_rest, piece_then}
use Rattle.cfb_copying.proofs.chains.copy_bytes.Goals as goal

pub copy-init : goal.copy-init
copy-init g c = record {
  most = omega arith;
  wide = search rules;
  live = search rules;
  rests = all_rest_refl c.args.source.now;
  goes = rests_go_on _ _ (all_rest_refl c.args.target.now);
  tables = keeps_refl c.args.target.now;
  copied = λ has chain. nothing_over 0 c.args.target.now c.args.to.now chain;
}

pub returns-in-Err-clause-only_reads : goal.returns-in-Err-clause-only_reads
returns-in-Err-clause-only_reads g c = all_rest_then c.args.source.now c.copy.source c.read_chain.new.allocator c.copy.invariant.rests c.in-Err.ensures.only_reads

pub returns-in-Err-clause-cause : goal.returns-in-Err-clause-cause
returns-in-Err-clause-cause g c = inl (rests_cause c.args.source.now c.copy.source c.read_chain.new.allocator c.in-Err.error c.copy.invariant.rests c.in-Err.ensures.cause)

pub returns-in-Err-overwrite_chain-clause-only_reads : goal.returns-in-Err-overwrite_chain-clause-only_reads
returns-in-Err-overwrite_chain-clause-only_reads g c = all_rest_then c.args.source.now c.copy.source c.read_chain.new.allocator c.copy.invariant.rests c.in_default.ensures.only_reads

pub returns-in-Err-overwrite_chain-clause-invariants : goal.returns-in-Err-overwrite_chain-clause-invariants
returns-in-Err-overwrite_chain-clause-invariants g c = goes_then c.args.target.now c.copy.target c.overwrite_chain.new.allocator c.copy.invariant.goes c.in-Err-overwrite_chain.ensures.invariants

pub returns-in-Err-overwrite_chain-clause-cause : goal.returns-in-Err-overwrite_chain-clause-cause
returns-in-Err-overwrite_chain-clause-cause g c = inr (goes_cause c.args.target.now c.copy.target c.overwrite_chain.new.allocator c.in-Err-overwrite_chain.error c.copy.invariant.goes c.copy.invariant.live c.in-Err-overwrite_chain.ensures.error_contract.cause)

pub copy-preserved : goal.copy-preserved
copy-preserved g c =
    let inv = c.copy.invariant in
    let at = c.copy.at in
    let n = c.min-count.result in
    let count = c.min-count.ensures in
    let more = c.copy-test.true in
    let s = c.args.source.now in
    let r = c.copy.source in
    let a = c.args.target.now in
    let m = c.copy.target in
    let b = c.overwrite_chain.new.allocator in
    let from = c.args.from.now in
    let did = c.in_default-overwrite_chain.ensures in
    let few : n ≤ length c.copy.piece = omega (arith, count, inv.wide) in
    let buffer : length c.read_chain.new.buffer ≡ n = c.read_chain.auto.buffer ∙ length-take-le n c.copy.piece few in
    record {
      most = omega (arith, count, more);
      wide = simp (length-append, length-drop) (omega (arith, buffer, few, inv.wide));
      live = did.error_contract.live.1;
      rests = all_rest_then s r c.read_chain.new.allocator inv.rests c.in_default.ensures.only_reads;
      goes = goes_then a m b inv.goes did.invariants;
      tables = keeps_then a m b inv.tables did.tables;
      copied = λ has chain.
          let src = content_of s from in
          let long : length src ≡ length (ids_of from) * sector_len (version_of s) = length-joined (version_of s) (bytes_of s) (ids_of from) in
          let first = inv.copied has chain in
          let size = c.chain_len-len.ensures.len in
          let alike = c.requires in
          let same : length (ids_of from) * sector_len (version_of s) ≡ length (ids_of from) * sector_len (links_version from) = ap (λ v. length (ids_of from) * sector_len v) (sym has.version) in
          let to = c.args.to.now in
          let target_long : length (content_of a to) ≡ length (ids_of to) * sector_len (version_of a) = length-joined (version_of a) (bytes_of a) (ids_of to) in
          let target_same : length (ids_of to) * sector_len (version_of a) ≡ length (ids_of to) * sector_len (links_version to) = ap (λ v. length (ids_of to) * sector_len v) (sym chain.has.version) in
          let piece : length (take n (c.read_chain.new.buffer ++ drop n c.copy.piece)) ≡ n = length-take-le n (c.read_chain.new.buffer ++ drop n c.copy.piece) (simp length-append (omega (arith, buffer))) in
          piece_then at n src _ a m b c.args.to.now chain first (did.written first.chain)
          (take-append-le n c.read_chain.new.buffer (drop n c.copy.piece) (omega (arith, buffer)) ∙ take_all n c.read_chain.new.buffer (omega (arith, buffer))
          ∙ c.in_default.ensures.read (links_rest s r from inv.rests has) ∙ ap (λ k. take k (drop at (content_of r from))) (length-take-le n c.copy.piece few)
          ∙ ap (λ l. take n (drop at l)) (content_rests s r from inv.rests has))
          (sym (length-take-le at src (omega (arith, long, same, inv.most, size))))
          (omega (arith, piece, target_long, target_same, more, count, size, alike));
    }

pub returns-clause-copied : goal.returns-clause-copied
returns-clause-copied g c = λ has chain.
    let inv = c.copy.invariant in
    let end = c.copy-test.false in
    let size = c.chain_len-len.ensures.len in
    let from = c.args.from.now in
    let s = c.args.source.now in
    let long : length (content_of s from) ≡ length (ids_of from) * sector_len (version_of s) = length-joined (version_of s) (bytes_of s) (ids_of from) in
    let same : length (ids_of from) * sector_len (version_of s) ≡ length (ids_of from) * sector_len (links_version from) = ap (λ v. length (ids_of from) * sector_len v) (sym has.version) in
    subst (λ l. Overwrites 0 l c.args.target.now c.copy.target c.args.to.now) (take_all c.copy.at (content_of s from) (omega (arith, end, size, long, same))) (inv.copied has chain)
