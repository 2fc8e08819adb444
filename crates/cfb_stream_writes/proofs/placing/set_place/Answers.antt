use Rattle.std.proofs.Common.{◌≡◌, ◌<◌, [], inr, ap, subst, ◌∙◌, arith}
use Rattle.cfb_directory.specs.Entries.{entries_in}
use Rattle.cfb_directory.specs.Views.{entries_held}
use Rattle.cfb_fat.specs.Keeping.{fails_cause}
use Rattle.cfb_fat.specs.OnlyReads.{all_rest_refl}
use Rattle.cfb_fat.specs.Tables.{version_of}
use Rattle.cfb_medium.specs.Versions.{stream_len_mask}
use Rattle.cfb_mini.specs.Views.{allocator_of, directory_of}
use Rattle.cfb_chain_io.proofs.GoingOn.{fails_go_on}
use Rattle.cfb_stream_writes.proofs.Links.{entries_count, entry_there}
use Rattle.cfb_stream_writes.proofs.placing.set_place.Goals as goal

pub returns-in-Err-clause-large : goal.returns-in-Err-clause-large
returns-in-Err-clause-large g c = λ is.
    let it = c.args.mini.now in
    let same : entries_in c.dir_entries.result.now ≡ entries_held (directory_of it) = c.dir_entries.ensures ∙ ap entries_held c.directory.ensures in
    let inside = subst (λ n. c.args.id < n) (entries_count c.dir_entries.result.now (entries_held (directory_of it)) same) c.if-id-dir_entries.false in
    let there = entry_there (entries_held (directory_of it)) c.args.id inside in
    ((c.in-Err.ensures.large there.0 there.1).0 is).1

pub returns-in-Err-clause-invariants : goal.returns-in-Err-clause-invariants
returns-in-Err-clause-invariants g c =
    let b = allocator_of c.with_dir_entry_mut.new.self in
    fails_go_on 0 [] (allocator_of c.args.mini.now) b b (allocator_of c.fail-in-Err.new.self) c.with_dir_entry_mut.ensures.invariants (inr (all_rest_refl b)) c.fail-in-Err.ensures

pub returns-in-Err-clause-cause : goal.returns-in-Err-clause-cause
returns-in-Err-clause-cause g c =
    fails_cause (allocator_of c.args.mini.now) (allocator_of c.with_dir_entry_mut.new.self) (allocator_of c.fail-in-Err.new.self) c.in-Err.error c.in-Err.ensures.error_contract.cause c.fail-in-Err.ensures

pub returns-clause-placed : goal.returns-clause-placed
returns-clause-placed g c =
    let it = c.args.mini.now in
    let same : entries_in c.dir_entries.result.now ≡ entries_held (directory_of it) = c.dir_entries.ensures ∙ ap entries_held c.directory.ensures in
    let inside = subst (λ n. c.args.id < n) (entries_count c.dir_entries.result.now (entries_held (directory_of it)) same) c.if-id-dir_entries.false in
    let there = entry_there (entries_held (directory_of it)) c.args.id inside in
    let did = c.in_default.ensures in
    let never : stream_len_mask (version_of (allocator_of it)) < c.args.stream_len → ⊥ = λ past. let wrong = (did.large there.0 there.1).1 (did.error_contract.live.0, past) in cc in
    record {
      entry = there.0;
      found = there.1;
      fits = omega (arith, never);
      set = did.set there.0 there.1;
      changes = λ own h below. did.changes own there.0 h there.1 (λ zero. absurd (below zero));
    }
