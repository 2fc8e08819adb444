use Rattle.std.proofs.Common.{refl, inl, inr, subst, sym, ⊎_elim}
use Rattle.std.specs.Prelude.{slice_index_or}
use Rattle.cfb_sectors.specs.Sectors.{end_of_chain}
use Rattle.cfb_sectors.proofs.Appending.{on_ok}
use Rattle.cfb_chains.proofs.ChainGrowing.{chain_once}
use Rattle.cfb_fat.specs.Tables.{OnlyReadsAllocator}
use Rattle.cfb_chain_io.specs.ChainEffects.{KeepsFileInvariants, HasDataChain}
use Rattle.cfb_mini.specs.LinkViews.{minis_of}
use Rattle.cfb_mini.specs.Overwriting.{WritesMinis}
use Rattle.cfb_mini.specs.Views.{mini_fat_of, mini_stream_len}
use Rattle.cfb_mini.proofs.Keeping.{overwrites_is, rests_is, stream_chain}
use Rattle.cfb_mini.proofs.Results.{on_err}
use Rattle.cfb_mini.proofs.mini_allocator.MiniAllocator.overwrite_mini_chain.Goals as goal

pub returns-clause-written : goal.returns-clause-written
returns-clause-written g c =
    let it = c.args.self.now in
    let stream = it.mini_fat.stream in
    let minis = minis_of c.args.links.now in
    let same = c.allocator_mut.ensures.value in
    let b = c.overwrite_minis.new.allocator in
    on_ok c.overwrite_minis.result _ _
    (λ wrote own h mine.
    let once = chain_once (mini_fat_of it) (slice_index_or minis 0 end_of_chain) minis mine.linked in
    overwrites_is c.args.at c.args.bytes.now it b _ c.args.links.now own (mini_stream_len it) h mine (subst (λ x. KeepsFileInvariants x b) same c.overwrite_minis.ensures.invariants) c.allocator_mut.ensures.kept (record { links = refl; stream = refl }) refl
    (subst (λ x. WritesMinis c.args.at c.args.bytes.now x b stream minis) same (wrote (subst (λ x. HasDataChain x stream) (sym same) (stream_chain it own h)) once)))
    c.overwrite_minis.ensures.written

pub returns-clause-refused_only_if : goal.returns-clause-refused_only_if
returns-clause-refused_only_if g c = λ wrong own h mine.
    let it = c.args.self.now in
    let minis = minis_of c.args.links.now in
    c.overwrite_minis.ensures.refused_only_if wrong (subst (λ x. HasDataChain x it.mini_fat.stream) (sym c.allocator_mut.ensures.value) (stream_chain it own h)) (chain_once (mini_fat_of it) (slice_index_or minis 0 end_of_chain) minis mine.linked) mine.inside

pub returns-clause-after_error : goal.returns-clause-after_error
returns-clause-after_error g c =
    let b = c.overwrite_minis.new.allocator in
    on_err c.overwrite_minis.result _ _ (⊎_elim (λ failed. inl failed) (λ rests. inr (rests_is c.args.self.now b _ (subst (λ x. OnlyReadsAllocator x b) c.allocator_mut.ensures.value rests) (record { links = refl; stream = refl }) refl))) c.overwrite_minis.ensures.error_contract.after

pub returns-clause-unchanged : goal.returns-clause-unchanged
returns-clause-unchanged g c = λ wrong.
    let b = c.overwrite_minis.new.allocator in
    rests_is c.args.self.now b _ (subst (λ x. OnlyReadsAllocator x b) c.allocator_mut.ensures.value (c.overwrite_minis.ensures.unchanged wrong)) (record { links = refl; stream = refl }) refl
