use Rattle.std.proofs.Common.{rules, ◌≡◌, ◌≤◌, ◌+◌, ◌-◌, inl, inr, length, take, drop, ap, arith, ⊎_elim, length-take, length-drop}
use Rattle.cfb_fat.specs.OnlyReads.{all_rest_refl}
use Rattle.cfb_chain_io.proofs.GoingOn.{goes_cause, goes_then, rests_go_on}
use Rattle.cfb_mini.specs.LinkViews.{minis_of}
use Rattle.cfb_mini.proofs.MiniWrites.{writes_more, writes_none}
use Rattle.cfb_mini.proofs.writing.overwrite_minis.Goals as goal

pub write-init : goal.write-init
write-init g c = record {
  most = omega arith;
  live = search rules;
  goes = rests_go_on _ _ (all_rest_refl c.args.allocator.now);
  written = λ chain once. writes_none c.args.at c.args.allocator.now c.args.stream.now (minis_of c.args.minis.now) chain;
}

pub returns-in-Err-clause-error_contract : goal.returns-in-Err-clause-error_contract
returns-in-Err-clause-error_contract g c = record {
  live = tt;
  failed = search rules;
  after = inl c.in-Err.ensures.when_failed;
  cause = goes_cause c.args.allocator.now c.write.allocator c.overwrite_part.new.allocator c.in-Err.error c.write.invariant.goes c.write.invariant.live c.in-Err.ensures.cause;
  fault = ⊎_elim (λ fault. inl fault) (λ wrong. inr (inl wrong)) c.in-Err.ensures.errors;
}

pub write-preserved : goal.write-preserved
write-preserved g c =
    let inv = c.write.invariant in
    let did = c.in_default.ensures in
    let n = c.min-count.result in
    let done = c.write.done in
    let bytes = c.args.bytes.now in
    let a = c.args.allocator.now in
    let m = c.write.allocator in
    let b = c.overwrite_part.new.allocator in
    let count = c.min-count.ensures in
    let more = c.write-test.true in
    let left = c.spot-place.ensures.left in
    let whole = c.lies_in.ensures.0 c.if-not-lies_in.false in
    let enough : done + n ≤ length bytes = omega (arith, count, more) in
    let same_n : done + n - done ≡ n = omega arith in
    let part : length (take (done + n - done) (drop done bytes)) ≡ n = simp (length-take, length-drop) (omega (arith, enough)) in
    record {
      most = enough;
      live = did.not_failed;
      goes = goes_then a m b inv.goes c.overwrite_part.ensures.invariants;
      written = λ chain once.
          let was = inv.written chain once in
          writes_more c.args.at done n c.spot-place.result.0 c.spot-place.result.1 bytes (take (done + n - done) (drop done bytes)) a m b c.args.stream.now (minis_of c.args.minis.now) once was (did.written was.chain) inv.goes.version
          did.there left c.spot-place.ensures.place (omega (arith, count)) (omega (arith, count, left, more)) enough whole part (ap (λ k. take k (drop done bytes)) same_n);
    }
