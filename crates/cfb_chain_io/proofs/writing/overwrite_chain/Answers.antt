use Rattle.std.proofs.Common.{rules, ◌≡◌, ◌≤◌, ◌+◌, ◌-◌, ◌*◌, ◌/◌, ◌<◌, inl, inr, length, take, drop, ap, subst, arith, ⊎_elim, length-take, length-drop}
use Rattle.std.proofs.lemmas.List.{take_all}
use Rattle.cfb_medium.specs.Versions.{sector_len}
use Rattle.cfb_chains.specs.LinkViews.{ids_of, links_version}
use Rattle.cfb_chains.proofs.ChainWriting.{split, split_below}
use Rattle.cfb_fat.specs.Keeping.{fails_cause}
use Rattle.cfb_fat.specs.OnlyReads.{all_rest_refl}
use Rattle.cfb_fat.specs.Tables.{version_of}
use Rattle.cfb_chain_io.specs.ChainEffects.{Overwrites}
use Rattle.cfb_chain_io.proofs.GoingOn.{fails_go_on, goes_cause, goes_then, rests_go_on, writes_go_on}
use Rattle.cfb_chain_io.proofs.Leaning.{keeps_refl, keeps_write}
use Rattle.cfb_chain_io.proofs.Owning.{fits_in, part_writable}
use Rattle.cfb_chain_io.proofs.WrittenParts.{more_over, nothing_over}
use Rattle.cfb_chain_io.proofs.writing.overwrite_chain.Goals as goal

pub write-init : goal.write-init
write-init g c = record {
  most = omega arith;
  live = search rules;
  goes = rests_go_on _ _ (all_rest_refl c.args.allocator.now);
  tables = keeps_refl c.args.allocator.now;
  written = nothing_over c.args.at c.args.allocator.now c.args.links.now;
}

pub write-preserved : goal.write-preserved
write-preserved g c =
    let inv = c.write.invariant in
    let n = c.min-count.result in
    let done = c.write.done in
    let a = c.args.allocator.now in
    let m = c.write.allocator in
    let b = c.write_contiguous.new.self in
    let w = links_version c.args.links.now in
    let bytes = c.args.bytes.now in
    let count = c.min-count.ensures in
    let did = c.in_default.ensures in
    let left = c.spot-sector_id.ensures.left in
    let more = c.write-test.true in
    let whole = c.lies_in.ensures.0 c.if-not-lies_in.false in
    let rest = split w (c.args.at + done) in
    let enough : done + n ≤ length bytes = omega (arith, count, more) in
    let same_n : done + n - done ≡ n = omega arith in
    let part : length (take (done + n - done) (drop done bytes)) ≡ n = simp (length-take, length-drop) (omega (arith, enough)) in
    record {
      most = enough;
      live = did.not_failed.1;
      goes = goes_then a m b inv.goes (writes_go_on c.spot-sector_id.result.0 c.spot-sector_id.result.1 _ m b did.there.0 did.there.1 did.writes);
      tables = keeps_write _ _ a m b inv.tables did.writes;
      written = λ chain. more_over c.args.at done n c.spot-sector_id.result.0 c.spot-sector_id.result.1 bytes (take (done + n - done) (drop done bytes)) a m b c.args.links.now chain (inv.written chain) did.not_failed.1 inv.goes.version did.writes did.leaves
          c.spot-sector_id.ensures.sector c.spot-sector_id.ensures.offset (omega (arith, count, left)) whole enough (omega (arith, count, left, rest.1, more)) part (ap (λ k. take k (drop done bytes)) same_n);
    }

pub returns-in-Err-clause-refused_only_if : goal.returns-in-Err-clause-refused_only_if
returns-in-Err-clause-refused_only_if g c = λ wrong chain.
    let inv = c.write.invariant in
    let n = c.min-count.result in
    let done = c.write.done in
    let m = c.write.allocator in
    let ids = ids_of c.args.links.now in
    let w = links_version c.args.links.now in
    let count = c.min-count.ensures in
    let more = c.write-test.true in
    let left = c.spot-sector_id.ensures.left in
    let whole = c.lies_in.ensures.0 c.if-not-lies_in.false in
    let inside : c.args.at + done < length ids * sector_len w = omega (arith, whole, more) in
    let enough : done + n ≤ length c.args.bytes.now = omega (arith, count, more) in
    let part : length (take (done + n - done) (drop done c.args.bytes.now)) ≡ n = simp (length-take, length-drop) (omega (arith, enough)) in
    let now = (inv.written chain).chain in
    let told = c.in-Err.ensures.refused_only_if.0 wrong in
    let fits = fits_in w (version_of m) (c.args.at + done) c.spot-sector_id.result.1 n now.has.version c.spot-sector_id.ensures.offset (omega (arith, count, left)) in
    told.1 (part_writable m c.args.links.now ((c.args.at + done) / sector_len w) c.spot-sector_id.result.0 c.spot-sector_id.result.1 _ told.0 now
    (split_below w (c.args.at + done) (length ids) inside) c.spot-sector_id.ensures.sector (omega (arith, fits, part)))

pub returns-in-Err-clause-invariants : goal.returns-in-Err-clause-invariants
returns-in-Err-clause-invariants g c = fails_go_on _ _ c.args.allocator.now c.write.allocator c.write_contiguous.new.self c.fail.new.self c.write.invariant.goes c.in-Err.ensures.either c.fail.ensures

pub returns-in-Err-clause-error_contract : goal.returns-in-Err-clause-error_contract
returns-in-Err-clause-error_contract g c = record {
  live = tt;
  failed = search rules;
  after = inl c.fail.ensures.sectors.failed;
  cause = fails_cause c.args.allocator.now c.write_contiguous.new.self c.fail.new.self c.in-Err.error
      (goes_cause c.args.allocator.now c.write.allocator c.write_contiguous.new.self c.in-Err.error c.write.invariant.goes c.write.invariant.live c.in-Err.ensures.cause) c.fail.ensures;
  fault = ⊎_elim (λ fault. inl fault.0) (λ wrong. inr (inl wrong)) c.in-Err.ensures.errors;
}

pub returns-clause-written : goal.returns-clause-written
returns-clause-written g c = λ chain.
    let all = c.write-test.false in
    subst (λ l. Overwrites c.args.at l c.args.allocator.now c.write.allocator c.args.links.now) (take_all c.write.done c.args.bytes.now (omega (arith, all))) (c.write.invariant.written chain)
