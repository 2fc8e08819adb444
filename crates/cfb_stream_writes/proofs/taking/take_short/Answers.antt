use Rattle.std.proofs.Common.{◌≡◌, [], inl, inr, ◌*◌, ◌≤◌, length, refl, ap, sym, subst, ⊎_elim, arith}
use Rattle.std.specs.Prelude.{Err}
use Rattle.cfb_chains.specs.Grown.{IsChainInTable}
use Rattle.cfb_fat.specs.Keeping.{fails_cause}
use Rattle.cfb_medium.specs.declared.error.Error.TheVariants.{Full, InvalidData}
use Rattle.cfb_mini.specs.Changing.{AppendsMiniSectors}
use Rattle.cfb_mini.specs.LinkViews.{minis_of}
use Rattle.cfb_mini.specs.Minis.{minis_for}
use Rattle.cfb_mini.specs.Views.{allocator_of, mini_fat_of}
use Rattle.cfb_mini.proofs.Lacking.{lacks_fewer}
use Rattle.cfb_fat.specs.OnlyReads.{all_rest_refl}
use Rattle.cfb_chain_io.proofs.GoingOn.{fails_go_on, goes_cause, goes_then}
use Rattle.cfb_stream_writes.proofs.ShortStreams.{begun, chain_then, taken_short}
use Rattle.cfb_stream_writes.proofs.taking.take_short.Goals as goal

pub returns-in-Err-overwrite_mini_chain-clause-refused_only_if : goal.returns-in-Err-overwrite_mini_chain-clause-refused_only_if
returns-in-Err-overwrite_mini_chain-clause-refused_only_if g c = λ wrong who id m nothing.
    let m0 = c.args.mini.now in
    let m1 = c.lengthen_mini_chain.new.self in
    let later = minis_of c.lengthen_mini_chain.new.links in
    let none = c.new-links.ensures in
    let did = c.in_default.ensures in
    let grown = did.lengthened who.sectors m.owners (subst (IsChainInTable (mini_fat_of m0)) (sym none) refl) in
    let one = begun m0 m1 who id m c.lengthen_mini_chain.ensures.invariants did.error_contract.live.1 [] later nothing (subst (λ l. AppendsMiniSectors m0 m1 l later who.sectors) none grown.0) in
    let is : c.in-Err-overwrite_mini_chain.error ≡ InvalidData = cc in
    c.in-Err-overwrite_mini_chain.ensures.refused_only_if (ap Err is) one.moves.now.sectors one.moves.stands.owners (chain_then m0 m1 who id later one)

pub returns-clause-taken : goal.returns-clause-taken
returns-clause-taken g c = λ who id m nothing.
    let m0 = c.args.mini.now in
    let m1 = c.lengthen_mini_chain.new.self in
    let links = c.lengthen_mini_chain.new.links in
    let later = minis_of links in
    let bytes = c.args.bytes.now in
    let none = c.new-links.ensures in
    let did = c.in_default.ensures in
    let next = c.in_default-overwrite_mini_chain.ensures in
    let grown = did.lengthened who.sectors m.owners (subst (IsChainInTable (mini_fat_of m0)) (sym none) refl) in
    let one = begun m0 m1 who id m c.lengthen_mini_chain.ensures.invariants did.error_contract.live.1 [] later nothing (subst (λ l. AppendsMiniSectors m0 m1 l later who.sectors) none grown.0) in
    let over = next.written one.moves.now.sectors one.moves.stands.owners (chain_then m0 m1 who id later one) in
    let there = next.there in
    let fits : length bytes ≤ 64 * length later = omega (arith, there) in
    taken_short m0 m1 c.overwrite_mini_chain.new.self who id links bytes one c.overwrite_mini_chain.ensures.invariants next.error_contract.live.1 over fits

pub returns-in-Err-overwrite_mini_chain-clause-invariants : goal.returns-in-Err-overwrite_mini_chain-clause-invariants
returns-in-Err-overwrite_mini_chain-clause-invariants g c =
    let b = allocator_of c.overwrite_mini_chain.new.self in
    fails_go_on 0 [] (allocator_of c.args.mini.now) b b (allocator_of c.fail.new.self) (goes_then _ _ _ c.lengthen_mini_chain.ensures.invariants c.overwrite_mini_chain.ensures.invariants) (inr (all_rest_refl b)) c.fail.ensures

pub returns-clause-invariants : goal.returns-clause-invariants
returns-clause-invariants g c = goes_then _ _ _ c.lengthen_mini_chain.ensures.invariants c.overwrite_mini_chain.ensures.invariants

pub returns-in-Err-clause-full_only_if : goal.returns-in-Err-clause-full_only_if
returns-in-Err-clause-full_only_if g c = λ wrong live who m.
    let none = ap length c.new-links.ensures in
    let is : c.in-Err.error ≡ Full = cc in
    let wanted = c.div_ceil-count.ensures in
    ⊎_elim (λ lacks. lacks_fewer c.args.mini.now _ (minis_for (length c.args.bytes.now)) (omega (arith, wanted)) lacks) (λ many. absurd (omega (arith, many, none))) (c.in-Err.ensures.full_only_if (ap Err is) live m.owners.memory)

pub returns-in-Err-overwrite_mini_chain-clause-error_contract : goal.returns-in-Err-overwrite_mini_chain-clause-error_contract
returns-in-Err-overwrite_mini_chain-clause-error_contract g c =
    let a = allocator_of c.args.mini.now in
    let m = allocator_of c.lengthen_mini_chain.new.self in
    let b = allocator_of c.overwrite_mini_chain.new.self in
    let told = c.in-Err-overwrite_mini_chain.ensures in
    let live = c.in_default.ensures.error_contract.live in
    record {
      live = tt;
      failed = λ failed. absurd (let before = live.0 in cc);
      after = inl c.fail.ensures.sectors.failed;
      cause = fails_cause a b (allocator_of c.fail.new.self) c.in-Err-overwrite_mini_chain.error (goes_cause a m b c.in-Err-overwrite_mini_chain.error c.lengthen_mini_chain.ensures.invariants live.1 told.error_contract.cause) c.fail.ensures;
      fault = ⊎_elim (λ fault. inl fault)
          (⊎_elim (λ is. inr (inl is))
          (λ wrong. absurd (let few = (told.past.0 (ap Err wrong)).1 in let enough = c.in_default.ensures.enough in let count = c.div_ceil-count.ensures in omega (arith, few, enough, count))))
          told.error_contract.fault;
    }
