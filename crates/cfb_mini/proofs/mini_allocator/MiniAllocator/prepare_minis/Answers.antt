use Rattle.std.proofs.Common.{[], refl, sym, subst, IsTrue}
use Rattle.cfb_chains.specs.ChainCalls.{IsInvalidOrFull}
use Rattle.cfb_fat.specs.Calls.{FatErrorContract}
use Rattle.cfb_fat.specs.Growing.{LacksSectorNumbers}
use Rattle.cfb_fat.specs.Tables.{orderly_of, OnlyReadsAllocator}
use Rattle.cfb_mini.proofs.Keeping.{rests_is}
use Rattle.cfb_mini.proofs.Lacking.{asked_answers, lacks_sectors, lacks_size}
use Rattle.cfb_mini.proofs.mini_allocator.MiniAllocator.prepare_minis.Goals as goal

pub returns-in_default-clause-full_only_if : goal.returns-in_default-clause-full_only_if
returns-in_default-clause-full_only_if g c = λ wrong. lacks_size c.args.self.now c.args.count c.count_free-free.result c.count_free-free.ensures.most c.if-free-count.false (rw c.stream_len.ensures at c.count_free-free.ensures.all) c.in_default.ensures

pub returns-clause-only_reads : goal.returns-clause-only_reads
returns-clause-only_reads g c =
    let b = c.prepare_growth.new.self in
    rests_is c.args.self.now b _ (subst (λ x. OnlyReadsAllocator x b) c.allocator_mut.ensures.value c.prepare_growth.ensures.only_reads) (record { links = refl; stream = refl }) refl

pub returns-clause-refused_only_if : goal.returns-clause-refused_only_if
returns-clause-refused_only_if g c = λ wrong orderly. c.prepare_growth.ensures.refused_only_if wrong (subst (λ x. IsTrue (orderly_of x)) (sym c.allocator_mut.ensures.value) orderly) [] refl

pub returns-clause-full_only_if : goal.returns-clause-full_only_if
returns-clause-full_only_if g c = λ wrong.
    let found = c.count_free-free in
    lacks_sectors c.args.self.now c.args.count found.result c.in-Some.wanted found.ensures.most c.if-free-count.false (rw c.stream_len.ensures at found.ensures.all) c.in-Some.ensures (subst (λ x. LacksSectorNumbers x c.in-Some.wanted) c.allocator_mut.ensures.value (c.prepare_growth.ensures.full_only_if wrong).1)

pub returns-clause-error_contract : goal.returns-clause-error_contract
returns-clause-error_contract g c =
    let b = c.prepare_growth.new.self in
    let same = c.allocator_mut.ensures.value in
    subst (λ x. FatErrorContract IsInvalidOrFull c.prepare_growth.result x b) same
    (asked_answers c.prepare_growth.result c.allocator_mut.result.now b c.prepare_growth.ensures.only_reads (let live = c.if-is_failed.false in let is = c.if-is_failed.ensures in cc) c.prepare_growth.ensures.errors)
