use Rattle.std.proofs.Common.{◌∙◌, [], ap, inl, inr, refl}
use Rattle.std.specs.Prelude.{Err}
use Rattle.cfb.specs.Views.{mini_of}
use Rattle.cfb_fat.specs.Keeping.{fails_cause}
use Rattle.cfb_fat.specs.OnlyReads.{all_rest_refl}
use Rattle.cfb_mini.specs.Views.{allocator_of}
use Rattle.cfb_chain_io.proofs.GoingOn.{fails_go_on, goes_cause, goes_then, rests_go_on}
use Rattle.msi_pool.specs.PoolState.{PoolState}
use Rattle.msi.specs.Opened.{file_in}
use Rattle.msi.proofs.Flushed.{file_lives, never_full, parts_held, parts_unflushed, parts_unwritten, parts_written}
use Rattle.msi.proofs.package.Package.write_memory.Goals as goal

pub returns-in-Err-clause-saves : goal.returns-in-Err-clause-saves
returns-in-Err-clause-saves g c =
    let did = c.in-Err.ensures in
    parts_unwritten c.args.self.now _ (record { letters = did.changes.seen.0; tables = refl; kind = refl; summary = refl; sound = refl; written = refl }) refl c.in-Err.error did.changes did.refused_only_if

pub returns-in-Err-clause-full_only_if : goal.returns-in-Err-clause-full_only_if
returns-in-Err-clause-full_only_if g c = λ is live. c.in-Err.ensures.full_only_if is (file_lives c.write_parts.new.file live)

pub returns-in-Err-flush-clause-full_only_if : goal.returns-in-Err-flush-clause-full_only_if
returns-in-Err-flush-clause-full_only_if g c = λ is live. absurd (never_full (Err c.in-Err-flush.error) c.in-Err-flush.ensures.errors is)

pub returns-in-Err-clause-cause : goal.returns-in-Err-clause-cause
returns-in-Err-clause-cause g c = c.in-Err.ensures.error_contract.cause

pub returns-in-Err-clause-errors : goal.returns-in-Err-clause-errors
returns-in-Err-clause-errors g c = c.in-Err.ensures.error_contract.fault

pub returns-in-Err-flush-clause-saves : goal.returns-in-Err-flush-clause-saves
returns-in-Err-flush-clause-saves g c =
    let rests = c.flush.ensures.only_reads in
    parts_unflushed c.args.self.now _ c.in-Err-flush.error c.in-Err-flush.ensures.errors c.fail.ensures.fails.sectors.failed (c.fail.ensures.seen.0 ∙ rests.letters ∙ c.in_default.ensures.changes.seen.0) refl

pub returns-in-Err-flush-clause-invariants : goal.returns-in-Err-flush-clause-invariants
returns-in-Err-flush-clause-invariants g c =
    let a = allocator_of (mini_of (file_in c.args.self.now)) in
    let m = allocator_of (mini_of c.write_parts.new.file) in
    let b = allocator_of (mini_of c.flush.new.self) in
    fails_go_on 0 [] a b b (allocator_of (mini_of c.fail.new.self)) (goes_then a m b c.write_parts.ensures.invariants (rests_go_on m b c.flush.ensures.only_reads.mini.directory.allocator)) (inr (all_rest_refl b)) c.fail.ensures.fails

pub returns-in-Err-flush-clause-cause : goal.returns-in-Err-flush-clause-cause
returns-in-Err-flush-clause-cause g c =
    let a = allocator_of (mini_of (file_in c.args.self.now)) in
    let m = allocator_of (mini_of c.write_parts.new.file) in
    let b = allocator_of (mini_of c.flush.new.self) in
    fails_cause a b (allocator_of (mini_of c.fail.new.self)) c.in-Err-flush.error (goes_cause a m b c.in-Err-flush.error c.write_parts.ensures.invariants c.in_default.ensures.error_contract.live.1 c.in-Err-flush.ensures.cause) c.fail.ensures.fails

pub returns-in-Err-flush-clause-errors : goal.returns-in-Err-flush-clause-errors
returns-in-Err-flush-clause-errors g c = inl c.in-Err-flush.ensures.errors

pub returns-clause-saves : goal.returns-clause-saves
returns-clause-saves g c =
    let it = c.args.self.now in
    let did = c.in_default.ensures in
    let rests = c.flush.ensures.only_reads in record {
      holds = λ P h sound.
          let both = h.sound sound in
          parts_held it _ c.write_parts.new.file (rests.letters ∙ did.changes.seen.0) refl refl refl (ap (λ (p : PoolState). p.pool) c.mark_unmodified.ensures) rests P h (did.changes.done h.tree P both.0 both.1);
      done = λ P h sound fit.
          let both = h.sound sound in
          parts_written it _ c.write_parts.new.file (rests.letters ∙ did.changes.seen.0) refl refl refl (ap (λ (p : PoolState). p.pool) c.mark_unmodified.ensures) rests P h (did.changes.done h.tree P both.0 both.1) fit;
      live = (did.error_contract.live.0, rests.mini.directory.allocator.sectors.failed ∙ did.error_contract.live.1);
      refused = tt;
      rests = tt;
      seen = (rests.letters ∙ did.changes.seen.0, refl);
    }

pub returns-clause-invariants : goal.returns-clause-invariants
returns-clause-invariants g c =
    let m = allocator_of (mini_of c.write_parts.new.file) in
    goes_then (allocator_of (mini_of (file_in c.args.self.now))) m _ c.write_parts.ensures.invariants (rests_go_on m _ c.flush.ensures.only_reads.mini.directory.allocator)
