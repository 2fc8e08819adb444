use Rattle.std.proofs.Common.{◌≡◌, ◌+◌, ◌≤◌, ◌∙◌, [], rules, inl, inr, ap, sym, subst, ⊎_elim, arith, length, take, drop, length-append, length-drop}
use Rattle.std.proofs.lemmas.List.{length-take-le}
use Rattle.cfb_chain_io.proofs.GoingOn.{fails_go_on, goes_cause, goes_then}
use Rattle.cfb_chain_io.specs.ChainEffects.{IsInvalidPlaceOrFull}
use Rattle.cfb_fat.specs.Keeping.{fails_cause}
use Rattle.cfb_fat.specs.OnlyReads.{all_rest_refl}
use Rattle.cfb_mini.specs.Views.{allocator_of}
use Rattle.cfb.specs.Pieces.{FillsFrom}
use Rattle.cfb.specs.Views.{mini_of}
use Rattle.cfb.proofs.Filling.{filling_len, fills_first, fills_more, own_error, reads_refl, reads_then, source_cause}
use Rattle.cfb.proofs.compound_file.CompoundFile.fill_bytes.Goals as goal

pub returns-in-Err-clause-large : goal.returns-in-Err-clause-large
returns-in-Err-clause-large g c = λ wrong path tree content w. c.in-Err.ensures.large wrong

pub returns-in-Err-clause-only_reads : goal.returns-in-Err-clause-only_reads
returns-in-Err-clause-only_reads g c = reads_refl g.S.ReadMedium c.args.source.now

pub returns-in-Err-clause-error_contract : goal.returns-in-Err-clause-error_contract
returns-in-Err-clause-error_contract g c =
    own_error g.S.ReadMedium IsInvalidPlaceOrFull c.args.len c.in-Err.error (allocator_of (mini_of c.args.self.now)) (allocator_of (mini_of c.resize_bytes.new.self)) c.args.source.now c.in-Err.ensures.error_contract

pub fill-init : goal.fill-init
fill-init g c = record {
  most = omega arith;
  wide = search rules;
  live = c.in_default.ensures.error_contract.live.1;
  rests = reads_refl g.S.ReadMedium c.args.source.now;
  goes = c.resize_bytes.ensures.invariants;
  filled = fills_first g.S.ReadMedium c.args.source.now c.args.len c.args.id c.args.self.now c.resize_bytes.new.self c.in_default.ensures.resized;
  letters = c.resize_bytes.ensures.seen.0;
  sound = c.resize_bytes.ensures.seen.1;
  validation = c.resize_bytes.ensures.seen.2;
  ahead = c.resize_bytes.ensures.most;
}

pub returns-in-Err-write_piece-clause-large : goal.returns-in-Err-write_piece-clause-large
returns-in-Err-write_piece-clause-large g c = λ wrong path tree content w.
    let inv = c.fill.invariant in
    let n = c.min-count.result in
    let count = c.min-count.ensures in
    let few : n ≤ length c.fill.piece = omega (arith, count, inv.wide) in
    let long = length-take-le n c.fill.piece few in
    let past = c.in-Err-write_piece.ensures.past wrong path _ _ (inv.filled.rewrites path tree content w).0 in
    let size = filling_len g.S.ReadMedium c.args.source.now c.args.len c.fill.at c.args.id c.args.self.now c.fill.self inv.filled inv.most content in
    absurd (omega (arith, past, size, long, count))

pub returns-in-Err-write_piece-clause-refused_only_if : goal.returns-in-Err-write_piece-clause-refused_only_if
returns-in-Err-write_piece-clause-refused_only_if g c = λ wrong path tree content w.
    c.in-Err-write_piece.ensures.refused_only_if wrong path _ _ (c.fill.invariant.filled.rewrites path tree content w).0

pub returns-in-Err-write_piece-clause-only_reads : goal.returns-in-Err-write_piece-clause-only_reads
returns-in-Err-write_piece-clause-only_reads g c = reads_then g.S.ReadMedium _ _ _ c.fill.invariant.rests c.write_piece.ensures.only_reads

pub returns-in-Err-write_piece-clause-invariants : goal.returns-in-Err-write_piece-clause-invariants
returns-in-Err-write_piece-clause-invariants g c =
    let b = allocator_of (mini_of c.write_piece.new.self) in
    fails_go_on 0 [] (allocator_of (mini_of c.args.self.now)) b b (allocator_of c.fail.new.self) (goes_then _ _ _ c.fill.invariant.goes c.write_piece.ensures.invariants) (inr (all_rest_refl b)) c.fail.ensures

pub returns-in-Err-write_piece-clause-error_contract : goal.returns-in-Err-write_piece-clause-error_contract
returns-in-Err-write_piece-clause-error_contract g c =
    let inv = c.fill.invariant in
    let n = c.min-count.result in
    let count = c.min-count.ensures in
    let few : n ≤ length c.fill.piece = omega (arith, count, inv.wide) in
    let long = length-take-le n c.fill.piece few in
    let a = allocator_of (mini_of c.args.self.now) in
    let m = allocator_of (mini_of c.fill.self) in
    let b = allocator_of (mini_of c.write_piece.new.self) in
    let e = c.in-Err-write_piece.error in
    let told = c.in-Err-write_piece.ensures in
    let live = c.in_default.ensures.error_contract.live.0 in
    record {
      live = tt;
      failed = λ failed. absurd (cc);
      after = inl c.fail.ensures.sectors.failed;
      cause = ⊎_elim
          (λ own. inl (fails_cause a b (allocator_of c.fail.new.self) e (goes_cause a m b e inv.goes inv.live own) c.fail.ensures))
          (λ source. inr (source_cause g.S.ReadMedium c.args.len _ c.args.source.now c.fill.source c.write_piece.new.source e (omega (arith, long, count)) inv.rests source))
          told.cause;
      fault = ⊎_elim (λ fault. inl fault) (λ place. inr (inl place)) told.errors;
    }

pub fill-preserved : goal.fill-preserved
fill-preserved g c =
    let inv = c.fill.invariant in
    let at = c.fill.at in
    let n = c.min-count.result in
    let count = c.min-count.ensures in
    let more = c.fill-test.true in
    let did = c.in_default-write_piece.ensures in
    let few : n ≤ length c.fill.piece = omega (arith, count, inv.wide) in
    let long = length-take-le n c.fill.piece few in
    let piece = c.write_piece.new.piece in
    let size : length piece ≡ n = c.write_piece.auto.piece ∙ long in
    record {
      most = omega (arith, count, more);
      wide = simp (length-append, length-drop) (omega (arith, size, few, inv.wide));
      live = did.not_failed;
      rests = reads_then g.S.ReadMedium _ _ _ inv.rests c.write_piece.ensures.only_reads;
      goes = goes_then _ _ _ inv.goes c.write_piece.ensures.invariants;
      filled = subst (λ m. FillsFrom g.S.ReadMedium {g = g.F.ReadMedium} c.args.source.now c.args.len m c.args.id c.args.self.now c.write_piece.new.self) (ap (λ m. at + m) size)
          (fills_more g.S.ReadMedium c.args.source.now c.fill.source c.args.len at c.args.id piece c.args.self.now c.fill.self c.write_piece.new.self inv.filled (omega (arith, size, count, more)) inv.letters inv.rests
          (λ honest. did.read honest ∙ ap (λ m. take m (drop at (g.S.ReadMedium.bytes c.fill.source))) (sym c.write_piece.auto.piece)) did.written);
      letters = c.write_piece.ensures.seen.0 ∙ inv.letters;
      sound = c.write_piece.ensures.seen.1 ∙ inv.sound;
      validation = c.write_piece.ensures.seen.2 ∙ inv.validation;
      ahead = c.write_piece.ensures.most ∙ inv.ahead;
    }

pub returns-clause-filled : goal.returns-clause-filled
returns-clause-filled g c =
    let inv = c.fill.invariant in
    let end = c.fill-test.false in
    subst (λ n. FillsFrom g.S.ReadMedium {g = g.F.ReadMedium} c.args.source.now c.args.len n c.args.id c.args.self.now c.fill.self) (let most = inv.most in let is : c.fill.at ≡ c.args.len = omega (arith, most, end) in is) inv.filled

pub returns-clause-error_contract : goal.returns-clause-error_contract
returns-clause-error_contract g c =
    let live = c.in_default.ensures.error_contract.live.0 in
    record { live = (live, c.fill.invariant.live); failed = λ failed. absurd (cc); after = tt; cause = tt; fault = tt }
