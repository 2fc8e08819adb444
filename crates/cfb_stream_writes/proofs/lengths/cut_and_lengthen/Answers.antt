use Rattle.std.proofs.Common.{◌≡◌, [], length, inl, inr, ap, sym, subst, ◌∙◌, ⊎_elim, arith}
use Rattle.std.specs.Prelude.{Err}
use Rattle.cfb_chains.specs.LinkViews.{ids_of, links_version}
use Rattle.cfb_chains.specs.Positions.{sectors_for, tail_in}
use Rattle.cfb_fat.specs.Keeping.{fails_cause}
use Rattle.cfb_fat.specs.OnlyReads.{all_rest_refl}
use Rattle.cfb_mini.specs.Views.{allocator_of}
use Rattle.cfb_chain_io.specs.ChainEffects.{Overwrites, Resizes}
use Rattle.cfb_chain_io.proofs.GoingOn.{fails_go_on, goes_cause, goes_then}
use Rattle.cfb_sectors.specs.declared.initial.SectorInit.TheVariants.{Zero}
use Rattle.cfb_stream_writes.proofs.LongStreams.{stretched}
use Rattle.cfb_stream_writes.proofs.Stretching.{never_past}
use Rattle.cfb_stream_writes.proofs.lengths.cut_and_lengthen.Goals as goal
use Rattle.cfb_mini.proofs.Padded.{zeros}

pub returns-in-Err-zero_tail-clause-refused_only_if : goal.returns-in-Err-zero_tail-clause-refused_only_if
returns-in-Err-zero_tail-clause-refused_only_if g c = λ wrong who id m is version.
    let one = c.in_default.ensures.resized who id m is version in
    c.in-Err-zero_tail.ensures.refused_only_if wrong one.0.moves.now id one.0.moves.stands one.0.mine (c.resize_chain.ensures.version ∙ version ∙ sym c.resize_chain.ensures.invariants.version)

pub returns-in-Err-zero_tail-clause-invariants : goal.returns-in-Err-zero_tail-clause-invariants
returns-in-Err-zero_tail-clause-invariants g c =
    let b = allocator_of c.zero_tail.new.mini in
    fails_go_on 0 [] (allocator_of c.args.mini.now) b b (allocator_of c.fail.new.self) (goes_then _ _ _ c.resize_chain.ensures.invariants c.zero_tail.ensures.invariants) (inr (all_rest_refl b)) c.fail.ensures

pub returns-in-Err-zero_tail-clause-error_contract : goal.returns-in-Err-zero_tail-clause-error_contract
returns-in-Err-zero_tail-clause-error_contract g c =
    let a = allocator_of c.args.mini.now in
    let m = allocator_of c.resize_chain.new.mini in
    let b = allocator_of c.zero_tail.new.mini in
    let told = c.in-Err-zero_tail.ensures.error_contract in
    let live = c.in_default.ensures.error_contract.live in
    record {
      live = tt;
      failed = λ failed. absurd (let before = live.0 in cc);
      after = inl c.fail.ensures.sectors.failed;
      cause = fails_cause a b (allocator_of c.fail.new.self) c.in-Err-zero_tail.error (goes_cause a m b c.in-Err-zero_tail.error c.resize_chain.ensures.invariants live.1 told.cause) c.fail.ensures;
      fault = ⊎_elim (λ fault. inl fault)
          (⊎_elim (λ is. inr (inl is))
          (λ wrong. absurd (never_past (links_version c.args.links.now) (links_version c.resize_chain.new.links) (length (ids_of c.resize_chain.new.links)) c.args.size c.args.size c.resize_chain.ensures.version c.in_default.ensures.size (omega arith) (c.in-Err-zero_tail.ensures.past (ap Err wrong)))))
          told.fault;
    }

pub returns-in-Err-resize_chain-clause-refused_only_if : goal.returns-in-Err-resize_chain-clause-refused_only_if
returns-in-Err-resize_chain-clause-refused_only_if g c = λ wrong who id m is version.
    let one = c.in_default.ensures.resized who id m is version in
    let next = c.resize_chain.ensures.version ∙ version ∙ sym c.resize_chain.ensures.invariants.version in
    let two = c.in_default-zero_tail.ensures.written one.0.moves.now id one.0.moves.stands one.0.mine next in
    c.in-Err-resize_chain.ensures.refused_only_if wrong two.0.moves.now id two.0.moves.stands two.0.mine (next ∙ sym c.zero_tail.ensures.invariants.version)

pub returns-in-Err-resize_chain-clause-invariants : goal.returns-in-Err-resize_chain-clause-invariants
returns-in-Err-resize_chain-clause-invariants g c =
    let b = allocator_of c.resize_chain-2.new.mini in
    fails_go_on 0 [] (allocator_of c.args.mini.now) b b (allocator_of c.fail-in-Err-resize_chain.new.self)
    (goes_then _ _ _ (goes_then _ _ _ c.resize_chain.ensures.invariants c.zero_tail.ensures.invariants) c.resize_chain-2.ensures.invariants) (inr (all_rest_refl b)) c.fail-in-Err-resize_chain.ensures

pub returns-in-Err-resize_chain-clause-error_contract : goal.returns-in-Err-resize_chain-clause-error_contract
returns-in-Err-resize_chain-clause-error_contract g c =
    let a = allocator_of c.args.mini.now in
    let m = allocator_of c.zero_tail.new.mini in
    let b = allocator_of c.resize_chain-2.new.mini in
    let told = c.in-Err-resize_chain.ensures.error_contract in
    let live = c.in_default.ensures.error_contract.live in
    record {
      live = tt;
      failed = λ failed. absurd (let before = live.0 in cc);
      after = inl c.fail-in-Err-resize_chain.ensures.sectors.failed;
      cause = fails_cause a b (allocator_of c.fail-in-Err-resize_chain.new.self) c.in-Err-resize_chain.error
          (goes_cause a m b c.in-Err-resize_chain.error (goes_then _ _ _ c.resize_chain.ensures.invariants c.zero_tail.ensures.invariants) c.in_default-zero_tail.ensures.error_contract.live.1 told.cause) c.fail-in-Err-resize_chain.ensures;
      fault = told.fault;
    }

pub returns-clause-stretched : goal.returns-clause-stretched
returns-clause-stretched g c = λ who id e content m has size up more is version.
    let m0 = c.args.mini.now in
    let m1 = c.resize_chain.new.mini in
    let m2 = c.zero_tail.new.mini in
    let m3 = c.resize_chain-2.new.mini in
    let links0 = c.args.links.now in
    let links1 = c.resize_chain.new.links in
    let links3 = c.resize_chain-2.new.links in
    let same : links_version links1 ≡ links_version links0 = c.resize_chain.ensures.version in
    let next = same ∙ version ∙ sym c.resize_chain.ensures.invariants.version in
    let one = c.in_default.ensures.resized who id m is version in
    let two = c.in_default-zero_tail.ensures.written one.0.moves.now id one.0.moves.stands one.0.mine next in
    let three = c.in_default-resize_chain.ensures.resized two.0.moves.now id two.0.moves.stands two.0.mine (next ∙ sym c.zero_tail.ensures.invariants.version) in
    stretched m0 who id c.args.size links0 e content has size up is c.args.len more m1 m2 m3 links1 links3
    one.0 (subst (λ v. Resizes Zero (sectors_for v c.args.size) (allocator_of m0) (allocator_of m1) links0 links1) version one.1) (c.in_default.ensures.size ∙ ap (λ v. sectors_for v c.args.size) version)
    two.0 (subst (λ v. Overwrites c.args.size (zeros (tail_in v c.args.size)) (allocator_of m1) (allocator_of m2) links1) (same ∙ version) two.1)
    three.0 (subst (λ v. Resizes Zero (sectors_for v c.args.len) (allocator_of m2) (allocator_of m3) links1 links3) (same ∙ version) three.1) (c.in_default-resize_chain.ensures.size ∙ ap (λ v. sectors_for v c.args.len) (same ∙ version))

pub returns-clause-invariants : goal.returns-clause-invariants
returns-clause-invariants g c = goes_then _ _ _ (goes_then _ _ _ c.resize_chain.ensures.invariants c.zero_tail.ensures.invariants) c.resize_chain-2.ensures.invariants
