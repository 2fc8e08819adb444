use Rattle.std.proofs.Common.{◌≡◌, ◌+◌, ◌*◌, [], length, ap, arith, inl, inr, ⊎_elim}
use Rattle.std.specs.Prelude.{Err}
use Rattle.cfb_fat.specs.Keeping.{fails_cause}
use Rattle.cfb_fat.specs.OnlyReads.{all_rest_refl}
use Rattle.cfb_mini.specs.LinkViews.{minis_of}
use Rattle.cfb_mini.specs.Views.{allocator_of}
use Rattle.cfb_mini.proofs.Longer.{lengthened_owners, own_now}
use Rattle.cfb_chain_io.proofs.GoingOn.{fails_go_on, goes_cause, goes_then}
use Rattle.cfb_mini_chains.proofs.Appending.{appended, chain_then}
use Rattle.cfb_mini_chains.proofs.growing.append.Goals as goal

pub returns-in-Ok-clause-appended : goal.returns-in-Ok-clause-appended
returns-in-Ok-clause-appended g c = λ own h chain.
    let before = c.args.links.now in
    let after = c.lengthen_mini_chain.new.links in
    let bytes = c.args.bytes.now in
    let did = c.in_default.ensures.lengthened own h chain.linked in
    let few = did.1 in
    let enough = c.in_default.ensures.enough in
    let is = c.requires.whole in
    let end = c.len-end.ensures in
    let whole : c.len-end.result + length bytes ≡ 64 * length (minis_of after) = omega (arith, few, enough, is, end) in
    appended c.args.mini.now c.lengthen_mini_chain.new.self c.overwrite_mini_chain.new.self before after own bytes c.len-end.result h chain c.lengthen_mini_chain.ensures.invariants did.0 c.in-Ok.ensures.written
    c.overwrite_mini_chain.ensures.invariants end whole

pub returns-in-Ok-clause-invariants : goal.returns-in-Ok-clause-invariants
returns-in-Ok-clause-invariants g c = goes_then _ _ _ c.lengthen_mini_chain.ensures.invariants c.overwrite_mini_chain.ensures.invariants

pub returns-in-Err-overwrite_mini_chain-clause-invariants : goal.returns-in-Err-overwrite_mini_chain-clause-invariants
returns-in-Err-overwrite_mini_chain-clause-invariants g c =
    let b = allocator_of c.overwrite_mini_chain.new.self in
    fails_go_on 0 [] (allocator_of c.args.mini.now) b b (allocator_of c.fail.new.self) (goes_then _ _ _ c.lengthen_mini_chain.ensures.invariants c.overwrite_mini_chain.ensures.invariants) (inr (all_rest_refl b)) c.fail.ensures

pub returns-in-Err-overwrite_mini_chain-clause-refused_only_if : goal.returns-in-Err-overwrite_mini_chain-clause-refused_only_if
returns-in-Err-overwrite_mini_chain-clause-refused_only_if g c = λ wrong own h chain orderly.
    let a = c.args.mini.now in
    let m = c.lengthen_mini_chain.new.self in
    let before = minis_of c.args.links.now in
    let after = minis_of c.lengthen_mini_chain.new.links in
    let did = c.in_default.ensures.lengthened own h chain.linked in
    c.in-Err-overwrite_mini_chain.ensures.refused_only_if wrong (own_now m own) (lengthened_owners a m before after own did.0) (chain_then a m before after own h chain did.0)

pub returns-in-Err-overwrite_mini_chain-clause-error_contract : goal.returns-in-Err-overwrite_mini_chain-clause-error_contract
returns-in-Err-overwrite_mini_chain-clause-error_contract g c =
    let a = allocator_of c.args.mini.now in
    let m = allocator_of c.lengthen_mini_chain.new.self in
    let b = allocator_of c.overwrite_mini_chain.new.self in
    let e = c.in-Err-overwrite_mini_chain.error in
    let told = c.in-Err-overwrite_mini_chain.ensures.error_contract in
    let live = c.in_default.ensures.error_contract.live in
    let enough = c.in_default.ensures.enough in
    let whole = c.requires.whole in
    let end = c.len-end.ensures in
    record {
      live = tt;
      failed = λ failed. absurd (let before = live.0 in cc);
      after = inl c.fail.ensures.sectors.failed;
      cause = fails_cause a b (allocator_of c.fail.new.self) e (goes_cause a m b e c.lengthen_mini_chain.ensures.invariants live.1 told.cause) c.fail.ensures;
      fault = ⊎_elim (λ fault. inl fault)
          (⊎_elim (λ is. inr (inl is))
          (λ wrong. let past = (c.in-Err-overwrite_mini_chain.ensures.past.0 (ap Err wrong)).1 in absurd (omega (arith, past, enough, whole, end))))
          told.fault;
    }
