use Rattle.cfb_chains.specs.ChainCalls.{IsInvalid}
use Rattle.cfb_chain_io.proofs.GoingOn.{goes_then}
use Rattle.cfb_sectors.proofs.Appending.{on_ok}
use Rattle.cfb_siblings.specs.Links.{holder}
use Rattle.cfb_directory.specs.Views.{allocator_of, entries_held}
use Rattle.cfb_directory.proofs.Turned.{answers_then, entry_as, sets_then, sizes_still}
use Rattle.cfb_directory.proofs.directory.Directory.turn.Goals as goal

pub returns-in-Err-set_link-clause-refused_only_if : goal.returns-in-Err-set_link-clause-refused_only_if
returns-in-Err-set_link-clause-refused_only_if g c = λ wrong has holders fits.
    let old = c.args.self.now in
    let mid = c.set_link.new.self in
    let sets = c.in_default.ensures.links in
    c.in-Err-set_link.ensures.refused_only_if wrong (sets.written.has has)
    (entry_as (entries_held old) (entries_held mid) (holder c.args.rotation.lowered.link) sets.alike holders.lowered)
    (sizes_still old mid c.set_link.ensures.invariants sets.alike fits)

pub returns-in-Err-set_link-clause-invariants : goal.returns-in-Err-set_link-clause-invariants
returns-in-Err-set_link-clause-invariants g c = goes_then _ _ _ c.set_link.ensures.invariants c.set_link-2.ensures.invariants

pub returns-in-Err-set_link-clause-error_contract : goal.returns-in-Err-set_link-clause-error_contract
returns-in-Err-set_link-clause-error_contract g c =
    let told = c.in_default.ensures.error_contract in
    answers_then IsInvalid _ (allocator_of c.args.self.now) (allocator_of c.set_link.new.self) (allocator_of c.set_link-2.new.self)
    c.set_link.ensures.invariants told.live.0 told.live.1 c.in-Err-set_link.ensures.when_failed c.in-Err-set_link.ensures.error_contract

pub returns-clause-links : goal.returns-clause-links
returns-clause-links g c =
    let old = c.args.self.now in
    let mid = c.set_link.new.self in
    let next = c.set_link-2.new.self in
    on_ok c.set_link-3.result _ _
    (λ last. sets_then old next c.set_link-3.new.self (goes_then _ _ _ c.set_link.ensures.invariants c.set_link-2.ensures.invariants)
    (sets_then old mid next c.set_link.ensures.invariants c.in_default.ensures.links c.in_default-set_link.ensures.links) last)
    c.set_link-3.ensures.links

pub returns-clause-refused_only_if : goal.returns-clause-refused_only_if
returns-clause-refused_only_if g c = λ wrong has holders fits.
    let old = c.args.self.now in
    let mid = c.set_link.new.self in
    let next = c.set_link-2.new.self in
    let goes = goes_then _ _ _ c.set_link.ensures.invariants c.set_link-2.ensures.invariants in
    let sets = sets_then old mid next c.set_link.ensures.invariants c.in_default.ensures.links c.in_default-set_link.ensures.links in
    c.set_link-3.ensures.refused_only_if wrong (sets.written.has has)
    (entry_as (entries_held old) (entries_held next) (holder c.args.rotation.raised.link) sets.alike holders.raised)
    (sizes_still old next goes sets.alike fits)

pub returns-clause-invariants : goal.returns-clause-invariants
returns-clause-invariants g c = goes_then _ _ _ (goes_then _ _ _ c.set_link.ensures.invariants c.set_link-2.ensures.invariants) c.set_link-3.ensures.invariants

pub returns-clause-error_contract : goal.returns-clause-error_contract
returns-clause-error_contract g c =
    answers_then IsInvalid c.set_link-3.result (allocator_of c.args.self.now) (allocator_of c.set_link-2.new.self) (allocator_of c.set_link-3.new.self)
    (goes_then _ _ _ c.set_link.ensures.invariants c.set_link-2.ensures.invariants) c.in_default.ensures.error_contract.live.0 c.in_default-set_link.ensures.error_contract.live.1
    c.set_link-3.ensures.when_failed c.set_link-3.ensures.error_contract
