use Rattle.std.proofs.Common.{inl, inr, ⊎_elim, refl, sym, subst, IsTrue}
use Rattle.cfb_sectors.proofs.Appending.{on_ok}
use Rattle.cfb_chains.specs.ChainCalls.{IsInvalidOrFull}
use Rattle.cfb_chain_io.proofs.GoingOn.{goes_then, rests_go_on}
use Rattle.cfb_mini.specs.LinkViews.{minis_of}
use Rattle.cfb_mini.specs.Views.{allocator_of}
use Rattle.cfb_mini.proofs.Longer.{answers_after, lacks_rest, lengthened_owners, lengthens_begun, lengthens_rest, lengthens_then, mini_rests_then, own_now}
use Rattle.cfb_mini.proofs.Results.{on_err}
use Rattle.cfb_mini.proofs.mini_allocator.MiniAllocator.lengthen_mini_chain.Goals as goal

pub returns-clause-lengthened : goal.returns-clause-lengthened
returns-clause-lengthened g c =
    let it = c.args.self.now in
    let mid = c.prepare_minis.new.self in
    let new = c.lengthen_ready.new.self in
    let minis = minis_of c.args.links.now in
    let later = minis_of c.lengthen_ready.new.links in
    let rests = c.prepare_minis.ensures.only_reads in
    on_ok c.lengthen_ready.result _ _
    (λ did own h linked.
    let rested = lengthens_rest it it mid minis minis own refl (lengthens_begun it minis own h linked) rests in
    let more = did (own_now mid own) (lengthened_owners it mid minis minis own rested) rested.linked in
    (lengthens_then it mid new minis minis later own rests.directory.allocator.sectors.version rested more.0 c.lengthen_ready.ensures.invariants.version, more.1, more.2))
    c.lengthen_ready.ensures.lengthened

pub returns-clause-refused_only_if : goal.returns-clause-refused_only_if
returns-clause-refused_only_if g c = λ wrong own h linked orderly.
    let it = c.args.self.now in
    let mid = c.prepare_minis.new.self in
    let minis = minis_of c.args.links.now in
    let rests = c.prepare_minis.ensures.only_reads in
    let rested = lengthens_rest it it mid minis minis own refl (lengthens_begun it minis own h linked) rests in
    c.lengthen_ready.ensures.refused_only_if wrong (own_now mid own) (lengthened_owners it mid minis minis own rested) rested.linked (subst IsTrue (sym rests.directory.allocator.orderly) orderly)

pub returns-clause-full_only_if : goal.returns-clause-full_only_if
returns-clause-full_only_if g c = λ wrong live is.
    let rests = c.prepare_minis.ensures.only_reads in
    ⊎_elim (λ one. inl (inl (lacks_rest c.args.self.now c.prepare_minis.new.self is rests one))) (λ many. inr many) (c.lengthen_ready.ensures.full_only_if wrong live (rests.kept is))

pub returns-clause-after_error : goal.returns-clause-after_error
returns-clause-after_error g c =
    on_err c.lengthen_ready.result _ _ (⊎_elim (λ failed. inl failed) (λ rests. inr (mini_rests_then c.args.self.now c.prepare_minis.new.self c.lengthen_ready.new.self c.prepare_minis.ensures.only_reads rests))) c.lengthen_ready.ensures.after_error

pub returns-clause-invariants : goal.returns-clause-invariants
returns-clause-invariants g c =
    let a = allocator_of c.args.self.now in
    let b = allocator_of c.prepare_minis.new.self in
    goes_then a b (allocator_of c.lengthen_ready.new.self) (rests_go_on a b c.prepare_minis.ensures.only_reads.directory.allocator) c.lengthen_ready.ensures.invariants

pub returns-clause-error_contract : goal.returns-clause-error_contract
returns-clause-error_contract g c = answers_after IsInvalidOrFull c.lengthen_ready.result (allocator_of c.args.self.now) (allocator_of c.prepare_minis.new.self) (allocator_of c.lengthen_ready.new.self) c.prepare_minis.ensures.only_reads.directory.allocator c.lengthen_ready.ensures.error_contract

pub returns-in-Err-clause-invariants : goal.returns-in-Err-clause-invariants
returns-in-Err-clause-invariants g c = rests_go_on (allocator_of c.args.self.now) (allocator_of c.prepare_minis.new.self) c.prepare_minis.ensures.only_reads.directory.allocator
