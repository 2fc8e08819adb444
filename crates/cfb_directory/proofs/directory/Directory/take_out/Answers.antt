use Rattle.std.proofs.Common.{inl, inr, rules, [], sym, subst}
use Rattle.cfb_fat.specs.Keeping.{fails_cause}
use Rattle.cfb_fat.specs.OnlyReads.{all_rest_refl}
use Rattle.cfb_chain_io.proofs.GoingOn.{fails_go_on, goes_cause, goes_then}
use Rattle.cfb_siblings.specs.Links.{holder, joined_by, linked_to}
use Rattle.cfb_siblings.specs.Places.{HasEntry}
use Rattle.cfb_fat.specs.Tables.{version_of}
use Rattle.cfb_tree.specs.EntryViews.{entry_in}
use Rattle.cfb_directory.specs.Views.{allocator_of, entries_held}
use Rattle.cfb_directory.proofs.EntrySizes.{sizes_same}
use Rattle.cfb_directory.proofs.Inserted.{joined_sizes, joined_there}
use Rattle.cfb_directory.proofs.Turned.{writes_one, writes_then}
use Rattle.cfb_directory.proofs.directory.Directory.take_out.Goals as goal

pub returns-in-Err-write_link-clause-invariants : goal.returns-in-Err-write_link-clause-invariants
returns-in-Err-write_link-clause-invariants g c =
    let b = allocator_of c.write_link.new.self in
    fails_go_on 0 [] (allocator_of c.args.self.now) b b c.fail-in-Err-write_link.new.self (goes_then _ _ _ c.write_joined.ensures.invariants c.write_link.ensures.invariants) (inr (all_rest_refl b)) c.fail-in-Err-write_link.ensures

pub returns-in-Err-write_link-clause-error_contract : goal.returns-in-Err-write_link-clause-error_contract
returns-in-Err-write_link-clause-error_contract g c =
    let a = allocator_of c.args.self.now in
    let m = allocator_of c.write_joined.new.self in
    let b = allocator_of c.write_link.new.self in
    let told = c.in-Err-write_link.ensures.error_contract in
    record {
      live = tt;
      failed = search rules;
      after = inl c.fail-in-Err-write_link.ensures.sectors.failed;
      cause = fails_cause a b c.fail-in-Err-write_link.new.self c.in-Err-write_link.error (goes_cause a m b c.in-Err-write_link.error c.write_joined.ensures.invariants c.in_default.ensures.error_contract.live.1 told.cause) c.fail-in-Err-write_link.ensures;
      fault = told.fault;
    }

pub returns-in-Err-write_entry-clause-invariants : goal.returns-in-Err-write_entry-clause-invariants
returns-in-Err-write_entry-clause-invariants g c =
    let b = allocator_of c.write_entry.new.self in
    fails_go_on 0 [] (allocator_of c.args.self.now) b b c.fail-in-Err-write_entry.new.self
    (goes_then _ _ _ (goes_then _ _ _ c.write_joined.ensures.invariants c.write_link.ensures.invariants) c.write_entry.ensures.invariants) (inr (all_rest_refl b)) c.fail-in-Err-write_entry.ensures

pub returns-in-Err-write_entry-clause-error_contract : goal.returns-in-Err-write_entry-clause-error_contract
returns-in-Err-write_entry-clause-error_contract g c =
    let a = allocator_of c.args.self.now in
    let m = allocator_of c.write_link.new.self in
    let b = allocator_of c.write_entry.new.self in
    let told = c.in-Err-write_entry.ensures.error_contract in
    record {
      live = tt;
      failed = search rules;
      after = inl c.fail-in-Err-write_entry.ensures.sectors.failed;
      cause = fails_cause a b c.fail-in-Err-write_entry.new.self c.in-Err-write_entry.error
          (goes_cause a m b c.in-Err-write_entry.error (goes_then _ _ _ c.write_joined.ensures.invariants c.write_link.ensures.invariants) c.in_default-write_link.ensures.error_contract.live.1 told.cause) c.fail-in-Err-write_entry.ensures;
      fault = told.fault;
    }

pub returns-clause-written : goal.returns-clause-written
returns-clause-written g c =
    let old = c.args.self.now in
    let one = c.write_joined.new.self in
    let mid = c.write_link.new.self in
    let new = c.write_entry.new.self in
    let it = c.args.removal.replaced in
    let set = c.in_default-write_link.ensures.set in
    writes_then old mid new (goes_then _ _ _ c.write_joined.ensures.invariants c.write_link.ensures.invariants)
    (writes_then old one mid c.write_joined.ensures.invariants c.in_default.ensures.written (writes_one one mid (holder it.link) (linked_to it.link it.target set.0) set.2))
    (writes_one mid new c.args.id (entry_in c.unallocated.result) c.in_default-write_entry.ensures.set)

pub returns-clause-invariants : goal.returns-clause-invariants
returns-clause-invariants g c = goes_then _ _ _ (goes_then _ _ _ c.write_joined.ensures.invariants c.write_link.ensures.invariants) c.write_entry.ensures.invariants

pub returns-in-Err-write_link-clause-refused_only_if : goal.returns-in-Err-write_link-clause-refused_only_if
returns-in-Err-write_link-clause-refused_only_if g c = λ wrong ready holders.
    let old = c.args.self.now in
    let mid = c.write_joined.new.self in
    let it = c.args.removal in
    let set = c.in_default.ensures.set in
    c.in-Err-write_link.ensures.refused_only_if wrong (c.in_default.ensures.written.has ready.has)
    (subst (λ es. HasEntry es (holder it.replaced.link)) (sym set) (joined_there it.joined (entries_held old) (holder it.replaced.link) holders.replaced))
    (sizes_same (version_of (allocator_of old)) (version_of (allocator_of mid)) (joined_by it.joined (entries_held old)) (entries_held mid) c.write_joined.ensures.invariants.version set
    (joined_sizes (version_of (allocator_of old)) it.joined (entries_held old) ready.sizes))
