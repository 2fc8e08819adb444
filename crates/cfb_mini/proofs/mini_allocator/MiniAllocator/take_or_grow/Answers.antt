use Rattle.std.proofs.Common.{inl, inr, ⊎_elim, [], ◌∷◌, length, refl, ap, sym, subst, ◌∙◌, arith, length-append, IsTrue}
use Rattle.cfb_sectors.proofs.Appending.{on_ok}
use Rattle.cfb_chains.specs.ChainCalls.{IsInvalidOrFull}
use Rattle.cfb_chain_io.proofs.GoingOn.{goes_then, rests_go_on}
use Rattle.cfb_mini.specs.Changing.{AppendsMiniSectors}
use Rattle.cfb_mini.specs.LinkViews.{minis_of}
use Rattle.cfb_mini.specs.Views.{allocator_of}
use Rattle.cfb_mini.proofs.Longer.{answers_after, lacks_rest, lengthened_owners, lengthens_begun, lengthens_by_fat, lengthens_by_one, lengthens_by_stream, lengthens_rest, mini_rests_then, own_now, owners_rest}
use Rattle.cfb_mini.proofs.Results.{on_err}
use Rattle.cfb_mini.proofs.mini_allocator.MiniAllocator.take_or_grow.Goals as goal

pub returns-in-Ok-true-clause-lengthens : goal.returns-in-Ok-true-clause-lengthens
returns-in-Ok-true-clause-lengthens g c = λ own h linked.
    let it = c.args.self.now in
    let minis = minis_of c.args.links.now in
    let later = minis_of c.extend_mini_chain.new.links in
    let begun = lengthens_begun it minis own h linked in
    let did = c.in-Ok-true.ensures.extended c.in-Ok-true.field-0-test (own_now it own) (lengthened_owners it it minis minis own begun) linked in
    let size = ap length did.minis_are ∙ length-append minis (did.taken ∷ []) in
    (lengthens_by_one it it c.extend_mini_chain.new.self minis minis later own refl begun did, omega (arith, size))

pub returns-in-Ok-false-clause-lengthens : goal.returns-in-Ok-false-clause-lengthens
returns-in-Ok-false-clause-lengthens g c =
    let it = c.args.self.now in
    let mid = c.extend_mini_chain.new.self in
    let new = c.grow_tables.new.self in
    let minis = minis_of c.args.links.now in
    let none = c.in-Ok-false.ensures.none c.in-Ok-false.field-0-test in
    let version = none.0.directory.allocator.sectors.version in
    on_ok c.grow_tables.result _ _
    (λ grown own h linked.
    let rested = lengthens_rest it it mid minis minis own refl (lengthens_begun it minis own h linked) none.0 in
    let grew = ⊎_elim (λ fat. lengthens_by_fat it mid new minis minis own version rested fat) (λ stream. lengthens_by_stream it mid new minis minis own version rested stream) (grown (own_now mid own) (lengthened_owners it mid minis minis own rested)) in
    (subst (λ l. AppendsMiniSectors it new minis l own) (sym none.1) grew, omega (arith, ap length none.1)))
    c.grow_tables.ensures.grown

pub returns-in-Ok-false-clause-refused_only_if : goal.returns-in-Ok-false-clause-refused_only_if
returns-in-Ok-false-clause-refused_only_if g c = λ wrong own h linked orderly.
    let none = c.in-Ok-false.ensures.none c.in-Ok-false.field-0-test in
    c.grow_tables.ensures.refused_only_if wrong own (owners_rest c.args.self.now c.extend_mini_chain.new.self own none.0 h) (subst IsTrue (sym none.0.directory.allocator.orderly) orderly)

pub returns-in-Ok-false-clause-after_error : goal.returns-in-Ok-false-clause-after_error
returns-in-Ok-false-clause-after_error g c =
    let none = c.in-Ok-false.ensures.none c.in-Ok-false.field-0-test in
    on_err c.grow_tables.result _ _ (⊎_elim (λ failed. inl failed) (λ rests. inr (mini_rests_then c.args.self.now c.extend_mini_chain.new.self c.grow_tables.new.self none.0 rests))) c.grow_tables.ensures.after_error

pub returns-in-Ok-false-clause-invariants : goal.returns-in-Ok-false-clause-invariants
returns-in-Ok-false-clause-invariants g c =
    let none = c.in-Ok-false.ensures.none c.in-Ok-false.field-0-test in
    let a = allocator_of c.args.self.now in
    let b = allocator_of c.extend_mini_chain.new.self in
    goes_then a b (allocator_of c.grow_tables.new.self) (rests_go_on a b none.0.directory.allocator) c.grow_tables.ensures.invariants

pub returns-in-Ok-false-clause-error_contract : goal.returns-in-Ok-false-clause-error_contract
returns-in-Ok-false-clause-error_contract g c =
    let none = c.in-Ok-false.ensures.none c.in-Ok-false.field-0-test in
    answers_after IsInvalidOrFull c.grow_tables.result (allocator_of c.args.self.now) (allocator_of c.extend_mini_chain.new.self) (allocator_of c.grow_tables.new.self) none.0.directory.allocator c.grow_tables.ensures.error_contract

pub returns-in-Ok-false-clause-full_only_if : goal.returns-in-Ok-false-clause-full_only_if
returns-in-Ok-false-clause-full_only_if g c = λ wrong live is.
    let none = c.in-Ok-false.ensures.none c.in-Ok-false.field-0-test in
    inl (lacks_rest c.args.self.now c.extend_mini_chain.new.self is none.0 (c.grow_tables.ensures.full_only_if wrong live (none.0.kept is)))
