use Rattle.std.proofs.Common.{[], refl, inl, inr, ap, subst, ◌∙◌, ⊎_elim, arith}
use Rattle.cfb_fat.specs.Keeping.{fails_cause}
use Rattle.cfb_fat.specs.OnlyReads.{all_rest_refl}
use Rattle.cfb_medium.specs.Bytes.{overwritten}
use Rattle.cfb_tree_edits.specs.Orphans.{StaysTidy}
use Rattle.cfb_tree_edits.proofs.Strays.{strays_then}
use Rattle.cfb_mini.specs.Views.{allocator_of}
use Rattle.cfb_chain_io.proofs.GoingOn.{fails_go_on, goes_cause, goes_then}
use Rattle.cfb_tree.specs.Changes.{changed, with_bytes}
use Rattle.cfb_stream_writes.specs.Streams.{resized}
use Rattle.cfb_stream_writes.proofs.LongBytes.{length-resized}
use Rattle.cfb.specs.Views.{file_case_table, mini_of}
use Rattle.cfb.specs.Writing.{StreamIsWritten}
use Rattle.cfb.proofs.Again.{changed_again}
use Rattle.cfb.proofs.Written.{written_kept, written_so}
use Rattle.cfb.proofs.compound_file.CompoundFile.extend_bytes.Goals as goal

pub returns-in-Err-clause-large : goal.returns-in-Err-clause-large
returns-in-Err-clause-large g c = λ wrong path tree content w. c.in-Err.ensures.large wrong

pub returns-in-Err-clause-refused_only_if : goal.returns-in-Err-clause-refused_only_if
returns-in-Err-clause-refused_only_if g c = λ wrong path tree content w. c.in-Err.ensures.refused_only_if wrong (file_case_table c.args.self.now) tree path content w.at w.links

pub returns-in-Err-clause-kept : goal.returns-in-Err-clause-kept
returns-in-Err-clause-kept g c =
    ⊎_elim
    (λ failed. inl failed)
    (λ k. inr (λ path tree content w. written_kept c.args.self.now _ path tree c.args.id content w k refl refl refl c.in-Err.ensures.kept w.ahead))
    c.in-Err.ensures.after_error

pub returns-in-Err-clause-full_only_if : goal.returns-in-Err-clause-full_only_if
returns-in-Err-clause-full_only_if g c = λ wrong live path tree content w. c.in-Err.ensures.full_only_if wrong live (file_case_table c.args.self.now) tree path content w.at w.links

pub returns-then-can_outgrow-clause-written : goal.returns-then-can_outgrow-clause-written
returns-then-can_outgrow-clause-written g c = λ path tree content w.
    written_so c.args.self.now _ path tree c.args.id content w (λ held. overwritten (resized c.args.end held) c.args.at c.args.bytes.now) c.in_default.ensures.outgrown refl refl refl c.clear.ensures.none

pub returns-in-Err-overwrite_bytes-clause-large : goal.returns-in-Err-overwrite_bytes-clause-large
returns-in-Err-overwrite_bytes-clause-large g c = λ wrong path tree content w.
    let past = c.in-Err-overwrite_bytes.ensures.past wrong path _ _ (c.in_default-resize_bytes.ensures.resized path tree content w).0 in
    let size = length-resized content c.args.end in
    let is = c.requires in absurd (omega (arith, past, size, is))

pub returns-in-Err-overwrite_bytes-clause-refused_only_if : goal.returns-in-Err-overwrite_bytes-clause-refused_only_if
returns-in-Err-overwrite_bytes-clause-refused_only_if g c = λ wrong path tree content w.
    c.in-Err-overwrite_bytes.ensures.refused_only_if wrong path _ _ (c.in_default-resize_bytes.ensures.resized path tree content w).0

pub returns-in-Err-overwrite_bytes-clause-invariants : goal.returns-in-Err-overwrite_bytes-clause-invariants
returns-in-Err-overwrite_bytes-clause-invariants g c =
    let b = allocator_of (mini_of c.overwrite_bytes.new.self) in
    fails_go_on 0 [] (allocator_of (mini_of c.args.self.now)) b b (allocator_of c.fail.new.self) (goes_then _ _ _ c.resize_bytes.ensures.invariants c.overwrite_bytes.ensures.invariants) (inr (all_rest_refl b)) c.fail.ensures

pub returns-in-Err-overwrite_bytes-clause-error_contract : goal.returns-in-Err-overwrite_bytes-clause-error_contract
returns-in-Err-overwrite_bytes-clause-error_contract g c =
    let a = allocator_of (mini_of c.args.self.now) in
    let m = allocator_of (mini_of c.resize_bytes.new.self) in
    let b = allocator_of (mini_of c.overwrite_bytes.new.self) in
    let told = c.in-Err-overwrite_bytes.ensures.error_contract in
    let live = c.in_default-resize_bytes.ensures.error_contract.live in
    record {
      live = tt;
      failed = λ failed. absurd (let before = live.0 in cc);
      after = inl c.fail.ensures.sectors.failed;
      cause = fails_cause a b (allocator_of c.fail.new.self) c.in-Err-overwrite_bytes.error (goes_cause a m b c.in-Err-overwrite_bytes.error c.resize_bytes.ensures.invariants live.1 told.cause) c.fail.ensures;
      fault = ⊎_elim (λ fault. inl fault) (λ place. inr (inl place)) told.fault;
    }

pub returns-clause-written : goal.returns-clause-written
returns-clause-written g c = λ path tree content w.
    let letters = file_case_table c.args.self.now in
    let longer = resized c.args.end content in
    let later = overwritten longer c.args.at c.args.bytes.now in
    let first = c.in_default-resize_bytes.ensures.resized path tree content w in
    let second = c.in_default-overwrite_bytes.ensures.written path _ longer first.0 in
    let old = mini_of c.args.self.now in
    let new = mini_of c.overwrite_bytes.new.self in
    subst (λ t. (then : StreamIsWritten c.overwrite_bytes.new.self path t c.args.id later) × StaysTidy old new w.at.means.who then.at.means.who)
    (ap (λ l. changed l (with_bytes later) path (changed letters (with_bytes longer) path tree)) c.resize_bytes.ensures.seen.0 ∙ changed_again letters longer later path tree)
    (second.0, strays_then old (mini_of c.resize_bytes.new.self) new w.at.means.who first.0.at.means.who second.0.at.means.who first.1 second.1)

pub returns-clause-invariants : goal.returns-clause-invariants
returns-clause-invariants g c = goes_then _ _ _ c.resize_bytes.ensures.invariants c.overwrite_bytes.ensures.invariants
