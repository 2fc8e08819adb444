use Rattle.cfb_medium.specs.declared.error.Error.TheVariants.{InvalidData}
use Rattle.std.proofs.Common.{◌≡◌, ap, Err, inl, inr, ⊎_elim, rules, []}
use Rattle.std.proofs.lemmas.Option.{slice_get_within}
use Rattle.cfb_fat.specs.Keeping.{fails_cause}
use Rattle.cfb_fat.specs.OnlyReads.{all_rest_refl}
use Rattle.cfb_fat.specs.Tables.{version_of}
use Rattle.cfb_chain_io.proofs.GoingOn.{fails_go_on, goes_cause, goes_then}
use Rattle.cfb_siblings.specs.Links.{holder, linked_to}
use Rattle.cfb_tree.specs.EntryViews.{entry_in}
use Rattle.cfb_directory.specs.Views.{allocator_of, entries_held}
use Rattle.cfb_directory.proofs.Growing.{grown_kept}
use Rattle.cfb_directory.proofs.Readiness.{holder_there, ready_next}
use Rattle.cfb_directory.proofs.Setting.{failed_is}
use Rattle.cfb_directory.proofs.Stages.{grows_then}
use Rattle.cfb_directory.proofs.directory.Directory.add_child.Goals as goal

pub write_entry-requires-clause-there : goal.write_entry-requires-clause-there
write_entry-requires-clause-there g c =
    let unused = c.in-Ok.ensures.found in
    slice_get_within (entries_held c.free_entry.new.self) c.in-Ok.id unused.entry unused.found

pub returns-in-Err-write_entry-clause-memory : goal.returns-in-Err-write_entry-clause-memory
returns-in-Err-write_entry-clause-memory g c = λ held beside. failed_is _ c.fail.ensures.sectors.failed

pub returns-in-Err-write_entry-clause-invariants : goal.returns-in-Err-write_entry-clause-invariants
returns-in-Err-write_entry-clause-invariants g c =
    let b = allocator_of c.write_entry.new.self in
    fails_go_on 0 [] (allocator_of c.args.self.now) b b c.fail.new.self (goes_then _ _ _ c.free_entry.ensures.invariants c.write_entry.ensures.invariants) (inr (all_rest_refl b)) c.fail.ensures

pub returns-in-Err-write_entry-clause-error_contract : goal.returns-in-Err-write_entry-clause-error_contract
returns-in-Err-write_entry-clause-error_contract g c =
    let a = allocator_of c.args.self.now in
    let m = allocator_of c.free_entry.new.self in
    let b = allocator_of c.write_entry.new.self in
    let told = c.in-Err-write_entry.ensures.error_contract in
    record {
      live = tt;
      failed = search rules;
      after = inl c.fail.ensures.sectors.failed;
      cause = fails_cause a b c.fail.new.self c.in-Err-write_entry.error (goes_cause a m b c.in-Err-write_entry.error c.free_entry.ensures.invariants c.in-Ok.ensures.error_contract.live.1 told.cause) c.fail.ensures;
      fault = ⊎_elim inl (λ is. inr (inl is)) told.fault;
    }

pub returns-in-Err-write_link-clause-memory : goal.returns-in-Err-write_link-clause-memory
returns-in-Err-write_link-clause-memory g c = λ held beside. failed_is _ c.fail-in-Err-write_link.ensures.sectors.failed

pub returns-in-Err-write_link-clause-invariants : goal.returns-in-Err-write_link-clause-invariants
returns-in-Err-write_link-clause-invariants g c =
    let b = allocator_of c.write_link.new.self in
    fails_go_on 0 [] (allocator_of c.args.self.now) b b c.fail-in-Err-write_link.new.self
    (goes_then _ _ _ (goes_then _ _ _ c.free_entry.ensures.invariants c.write_entry.ensures.invariants) c.write_link.ensures.invariants) (inr (all_rest_refl b)) c.fail-in-Err-write_link.ensures

pub returns-in-Err-write_link-clause-error_contract : goal.returns-in-Err-write_link-clause-error_contract
returns-in-Err-write_link-clause-error_contract g c =
    let a = allocator_of c.args.self.now in
    let m = allocator_of c.write_entry.new.self in
    let b = allocator_of c.write_link.new.self in
    let told = c.in-Err-write_link.ensures.error_contract in
    record {
      live = tt;
      failed = search rules;
      after = inl c.fail-in-Err-write_link.ensures.sectors.failed;
      cause = fails_cause a b c.fail-in-Err-write_link.new.self c.in-Err-write_link.error
          (goes_cause a m b c.in-Err-write_link.error (goes_then _ _ _ c.free_entry.ensures.invariants c.write_entry.ensures.invariants) c.in_default.ensures.error_contract.live.1 told.cause) c.fail-in-Err-write_link.ensures;
      fault = ⊎_elim inl (λ is. inr (inl is)) told.fault;
    }

pub returns-clause-grown : goal.returns-clause-grown
returns-clause-grown g c = λ has.
    let old = c.args.self.now in
    let mid = c.write_entry.new.self in
    let set = c.in_default-write_link.ensures.set in
    grows_then old mid c.write_link.new.self (holder c.args.link) (linked_to c.args.link c.in-Ok.id set.0) (goes_then _ _ _ c.free_entry.ensures.invariants c.write_entry.ensures.invariants)
    (grows_then old c.free_entry.new.self mid c.in-Ok.id (entry_in c.args.entry) c.free_entry.ensures.invariants (c.in-Ok.ensures.grown has) c.in_default.ensures.set) set.2

pub returns-clause-invariants : goal.returns-clause-invariants
returns-clause-invariants g c = goes_then _ _ _ (goes_then _ _ _ c.free_entry.ensures.invariants c.write_entry.ensures.invariants) c.write_link.ensures.invariants

pub returns-clause-memory : goal.returns-clause-memory
returns-clause-memory g c = grown_kept c.args.self.now c.write_link.new.self (returns-clause-invariants g c) (returns-clause-grown g c)

pub returns-in-Err-write_link-clause-refused_only_if : goal.returns-in-Err-write_link-clause-refused_only_if
returns-in-Err-write_link-clause-refused_only_if g c = λ wrong ready has.
    let old = c.args.self.now in
    let mid = c.free_entry.new.self in
    let new = c.write_entry.new.self in
    let e = entry_in c.args.entry in
    let grown = c.in-Ok.ensures.grown ready.has in
    let sets = c.in_default.ensures.set in
    let same : c.in-Err-write_link.error ≡ InvalidData = cc in
    let next = ready_next old mid new c.in-Ok.id e ready c.free_entry.ensures.invariants c.write_entry.ensures.invariants c.in-Ok.ensures.error_contract.live.1 c.in_default.ensures.error_contract.live.1 grown c.in-Ok.ensures.entries sets c.requires in
    c.in-Err-write_link.ensures.refused_only_if (ap Err same) next.has
    (holder_there (version_of (allocator_of old)) (entries_held old) (entries_held mid) (entries_held new) c.in-Ok.id (holder c.args.link) e c.in-Ok.ensures.entries sets.entries has) next.sizes
