use Rattle.std.proofs.Common.{subst, sym}
use Rattle.std.proofs.lemmas.Result.{IfOk-weaker}
use Rattle.cfb_fat.specs.Tables.{OnlyReadsAllocator}
use Rattle.cfb_chain_io.specs.ChainEffects.{KeepsFileInvariants, HasDataChain}
use Rattle.cfb_mini.specs.LinkViews.{minis_of}
use Rattle.cfb_mini.specs.NextSector.{AllocatesMiniSector}
use Rattle.cfb_mini.proofs.Keeping.{extends_is, fat_chain, rests_is}
use Rattle.cfb_mini.proofs.Results.{both_err}
use Rattle.cfb_mini.proofs.mini_allocator.MiniAllocator.extend_mini_chain.Goals as goal

pub returns-clause-extended : goal.returns-clause-extended
returns-clause-extended g c =
    let it = c.args.self.now in
    let same = c.allocator_mut.ensures.value in
    let b = c.extend_minis.new.allocator in
    let minis = minis_of c.args.links.now in
    let later = minis_of c.extend_minis.new.links in
    IfOk-weaker c.extend_minis.result _ _
    (λ took takes is own h linked.
    extends_is minis later it b c.extend_minis.new.mini_fat own h (subst (λ x. KeepsFileInvariants x b) same c.extend_minis.ensures.invariants) c.allocator_mut.ensures.kept c.extend_minis.ensures.lies
    (subst (λ x. AllocatesMiniSector x b it.mini_fat c.extend_minis.new.mini_fat minis later) same (takes is (subst (λ x. HasDataChain x it.mini_fat.links) (sym same) (fat_chain it own h)) linked)))
    c.extend_minis.ensures.takes

pub returns-clause-none : goal.returns-clause-none
returns-clause-none g c =
    let b = c.extend_minis.new.allocator in
    IfOk-weaker c.extend_minis.result _ _
    (λ took none is.
    let all = none is in
    (rests_is c.args.self.now b c.extend_minis.new.mini_fat (subst (λ x. OnlyReadsAllocator x b) c.allocator_mut.ensures.value all.0) c.extend_minis.ensures.lies all.2, all.1, all.3))
    c.extend_minis.ensures.none

pub returns-clause-refused_only_if : goal.returns-clause-refused_only_if
returns-clause-refused_only_if g c = λ wrong own h linked.
    c.extend_minis.ensures.refused_only_if wrong (subst (λ x. HasDataChain x c.args.self.now.mini_fat.links) (sym c.allocator_mut.ensures.value) (fat_chain c.args.self.now own h)) linked

pub returns-clause-after_error : goal.returns-clause-after_error
returns-clause-after_error g c =
    both_err c.extend_minis.result _ _ _ _
    (λ rests same. rests_is c.args.self.now c.extend_minis.new.allocator c.extend_minis.new.mini_fat (subst (λ x. OnlyReadsAllocator x c.extend_minis.new.allocator) c.allocator_mut.ensures.value rests) c.extend_minis.ensures.lies same)
    c.extend_minis.ensures.error_contract.after c.extend_minis.ensures.after_error
