use Rattle.std.proofs.Common.{[], ◌<◌, ◌≤◌, inl, inr, length, sym, subst, arith, ◌∙◌, IsTrue}
use Rattle.std.proofs.lemmas.Result.{IfErr-weaker}
use Rattle.cfb_fat.specs.Keeping.{fails_cause}
use Rattle.cfb_fat.specs.OnlyReads.{all_rest_refl}
use Rattle.cfb_sectors.proofs.Appending.{on_ok}
use Rattle.cfb_mini.proofs.Results.{on_err}
use Rattle.cfb_chain_io.proofs.GoingOn.{fails_go_on, goes_cause, goes_then, rests_go_on}
use Rattle.cfb_mini.specs.LinkViews.{minis_of}
use Rattle.cfb_mini.specs.Views.{allocator_of}
use Rattle.cfb_mini.proofs.CoveredStream.{covered_longer}
use Rattle.cfb_mini.proofs.Longer.{lengthened_owners, lengthens_begun, lengthens_covered, lengthens_then, own_now}
use Rattle.cfb_mini.proofs.mini_allocator.MiniAllocator.lengthen_ready.Goals as goal

pub returns-clause-lengthened : goal.returns-clause-lengthened
returns-clause-lengthened g c =
    let it = c.args.self.now in
    let mid = c.take_or_grow.new.self in
    let wide = c.cover_mini_stream.new.self in
    let new = c.lengthen_on.new.self in
    let minis = minis_of c.args.links.now in
    let before = minis_of c.take_or_grow.new.links in
    let later = minis_of c.lengthen_on.new.links in
    let version = c.cover_mini_stream.ensures.invariants.version ∙ c.take_or_grow.ensures.invariants.version in
    let last = c.lengthen_on.ensures.invariants.version in
    on_ok c.lengthen_on.result _ _
    (λ did own h linked.
    let one = c.in_default.ensures.lengthens own h linked in
    let raised = lengthens_covered it mid wide minis before own c.take_or_grow.ensures.invariants.version one.0 (c.in_default-cover_mini_stream.ensures.covers (own_now mid own) (lengthened_owners it mid minis before own one.0)) in
    let owners = lengthened_owners it wide minis before own raised in
    let two = did (own_now wide own) owners raised.linked in
    let few : length minis < c.args.count = subst (λ l. length l < c.args.count) c.mini_sector_ids.ensures c.if-mini_sector_ids-count.false in
    let first = one.1 in
    let second = two.1 in (
      lengthens_then it wide new minis before later own version raised two.0 last,
      omega (arith, first, second, few),
      λ less. covered_longer wide new before later (own_now wide own) last owners two.0 c.in_default-cover_mini_stream.ensures.covered,
    ))
    c.lengthen_on.ensures.lengthened

pub returns-clause-refused_only_if : goal.returns-clause-refused_only_if
returns-clause-refused_only_if g c = λ wrong own h linked orderly.
    let it = c.args.self.now in
    let mid = c.take_or_grow.new.self in
    let wide = c.cover_mini_stream.new.self in
    let minis = minis_of c.args.links.now in
    let before = minis_of c.take_or_grow.new.links in
    let one = c.in_default.ensures.lengthens own h linked in
    let raised = lengthens_covered it mid wide minis before own c.take_or_grow.ensures.invariants.version one.0 (c.in_default-cover_mini_stream.ensures.covers (own_now mid own) (lengthened_owners it mid minis before own one.0)) in
    c.lengthen_on.ensures.refused_only_if wrong (own_now wide own) (lengthened_owners it wide minis before own raised) raised.linked
    (subst IsTrue (sym (c.cover_mini_stream.ensures.invariants.orderly c.in_default-cover_mini_stream.ensures.error_contract.live.1)) (subst IsTrue (sym (c.take_or_grow.ensures.invariants.orderly c.in_default.ensures.error_contract.live.1)) orderly))

pub returns-clause-invariants : goal.returns-clause-invariants
returns-clause-invariants g c =
    let a = allocator_of c.args.self.now in
    let mid = allocator_of c.take_or_grow.new.self in
    let wide = allocator_of c.cover_mini_stream.new.self in
    goes_then a wide (allocator_of c.lengthen_on.new.self) (goes_then a mid wide c.take_or_grow.ensures.invariants c.cover_mini_stream.ensures.invariants) c.lengthen_on.ensures.invariants

pub returns-then-mini_sector_ids-count-clause-lengthened : goal.returns-then-mini_sector_ids-count-clause-lengthened
returns-then-mini_sector_ids-count-clause-lengthened g c = λ own h linked.
    let long = subst (λ l. c.args.count ≤ length l) c.mini_sector_ids.ensures c.if-mini_sector_ids-count.true in
    (lengthens_begun c.args.self.now (minis_of c.args.links.now) own h linked, omega arith, λ less. absurd (omega (arith, less, long)))

pub returns-clause-error_contract : goal.returns-clause-error_contract
returns-clause-error_contract g c =
    let a = allocator_of c.args.self.now in
    let mid = allocator_of c.take_or_grow.new.self in
    let wide = allocator_of c.cover_mini_stream.new.self in
    let goes = goes_then a mid wide c.take_or_grow.ensures.invariants c.cover_mini_stream.ensures.invariants in
    let was = c.in_default.ensures.error_contract.live in
    let now = c.in_default-cover_mini_stream.ensures.error_contract.live in
    record {
      live = on_ok c.lengthen_on.result _ _ (λ live. (was.0, live)) c.lengthen_on.ensures.not_failed;
      failed = λ wrong. absurd (let first = was.0 in cc);
      after = on_err c.lengthen_on.result _ _ (λ failed. inl failed) c.lengthen_on.ensures.when_failed;
      cause = IfErr-weaker c.lengthen_on.result _ _ (λ e cause. goes_cause a wide (allocator_of c.lengthen_on.new.self) e goes now.1 cause) c.lengthen_on.ensures.cause;
      fault = c.lengthen_on.ensures.errors;
    }

pub returns-in-Err-cover_mini_stream-clause-refused_only_if : goal.returns-in-Err-cover_mini_stream-clause-refused_only_if
returns-in-Err-cover_mini_stream-clause-refused_only_if g c = λ wrong own h linked orderly.
    let it = c.args.self.now in
    let mid = c.take_or_grow.new.self in
    let one = c.in_default.ensures.lengthens own h linked in
    c.in-Err-cover_mini_stream.ensures.refused_only_if wrong (own_now mid own) (lengthened_owners it mid (minis_of c.args.links.now) (minis_of c.take_or_grow.new.links) own one.0)

pub returns-in-Err-cover_mini_stream-clause-invariants : goal.returns-in-Err-cover_mini_stream-clause-invariants
returns-in-Err-cover_mini_stream-clause-invariants g c =
    let a = allocator_of c.args.self.now in
    let mid = allocator_of c.take_or_grow.new.self in
    let wide = allocator_of c.cover_mini_stream.new.self in
    let rests = all_rest_refl wide in
    goes_then a wide (allocator_of c.fail.new.self) (goes_then a mid wide c.take_or_grow.ensures.invariants c.cover_mini_stream.ensures.invariants)
    (fails_go_on 0 [] wide wide wide (allocator_of c.fail.new.self) (rests_go_on wide wide rests) (inr rests) c.fail.ensures)

pub returns-in-Err-cover_mini_stream-clause-error_contract : goal.returns-in-Err-cover_mini_stream-clause-error_contract
returns-in-Err-cover_mini_stream-clause-error_contract g c =
    let a = allocator_of c.args.self.now in
    let mid = allocator_of c.take_or_grow.new.self in
    let wide = allocator_of c.cover_mini_stream.new.self in
    let f = allocator_of c.fail.new.self in
    let e = c.in-Err-cover_mini_stream.error in
    let was = c.in_default.ensures.error_contract.live in
    let did = c.in-Err-cover_mini_stream.ensures in
    record {
      live = tt;
      failed = λ wrong. absurd (let first = was.0 in cc);
      after = inl c.fail.ensures.sectors.failed;
      cause = fails_cause a wide f e (goes_cause a mid wide e c.take_or_grow.ensures.invariants was.1 did.error_contract.cause) c.fail.ensures;
      fault = did.error_contract.fault;
    }
