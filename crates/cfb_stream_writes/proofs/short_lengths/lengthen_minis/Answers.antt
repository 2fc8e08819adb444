use Rattle.std.proofs.Common.{◌≡◌, [], inl, inr, ◌-◌, ℕ, length, take, ap, subst, ◌∙◌, ⊎_elim, arith}
use Rattle.std.specs.Prelude.{Err}
use Rattle.std.proofs.lemmas.List.{length-replicate, take-replicate}
use Rattle.cfb_fat.specs.Keeping.{fails_cause}
use Rattle.cfb_fat.specs.OnlyReads.{all_rest_refl}
use Rattle.cfb_mini.specs.Changing.{MiniOverwrites}
use Rattle.cfb_mini.specs.LinkViews.{minis_of}
use Rattle.cfb_mini.specs.Views.{allocator_of}
use Rattle.cfb_mini.proofs.Padded.{zeros}
use Rattle.cfb_chain_io.proofs.GoingOn.{fails_go_on, goes_cause, goes_then}
use Rattle.cfb_stream_writes.proofs.ShortStreams.{begun, chain_by, chain_then, grown_short}
use Rattle.cfb_stream_writes.proofs.short_lengths.lengthen_minis.Goals as goal

pub returns-in-Err-clause-refused_only_if : goal.returns-in-Err-clause-refused_only_if
returns-in-Err-clause-refused_only_if g c = λ wrong who id m mine. c.in-Err.ensures.refused_only_if wrong who.sectors m.owners (chain_by c.args.mini.now who id (minis_of c.args.links.now) m mine).linked m.orderly

pub returns-in-Err-clause-full_only_if : goal.returns-in-Err-clause-full_only_if
returns-in-Err-clause-full_only_if g c = λ wrong live who m. c.in-Err.ensures.full_only_if wrong live m.owners.memory

pub returns-in-Err-overwrite_mini_chain-clause-refused_only_if : goal.returns-in-Err-overwrite_mini_chain-clause-refused_only_if
returns-in-Err-overwrite_mini_chain-clause-refused_only_if g c = λ wrong who id m mine.
    let m0 = c.args.mini.now in
    let m1 = c.take_room.new.mini in
    let before = minis_of c.args.links.now in
    let later = minis_of c.take_room.new.links in
    let did = c.in_default.ensures in
    let grown = did.lengthened who.sectors m.owners (chain_by m0 who id before m mine).linked in
    let one = begun m0 m1 who id m c.take_room.ensures.invariants did.error_contract.live.1 before later mine grown in
    c.in-Err-overwrite_mini_chain.ensures.refused_only_if wrong one.moves.now.sectors one.moves.stands.owners (chain_then m0 m1 who id later one)

pub returns-in-Err-overwrite_mini_chain-clause-invariants : goal.returns-in-Err-overwrite_mini_chain-clause-invariants
returns-in-Err-overwrite_mini_chain-clause-invariants g c =
    let b = allocator_of c.overwrite_mini_chain.new.self in
    fails_go_on 0 [] (allocator_of c.args.mini.now) b b (allocator_of c.fail.new.self) (goes_then _ _ _ c.take_room.ensures.invariants c.overwrite_mini_chain.ensures.invariants) (inr (all_rest_refl b)) c.fail.ensures

pub returns-in-Err-overwrite_mini_chain-clause-error_contract : goal.returns-in-Err-overwrite_mini_chain-clause-error_contract
returns-in-Err-overwrite_mini_chain-clause-error_contract g c =
    let a = allocator_of c.args.mini.now in
    let m = allocator_of c.take_room.new.mini in
    let b = allocator_of c.overwrite_mini_chain.new.self in
    let told = c.in-Err-overwrite_mini_chain.ensures in
    let live = c.in_default.ensures.error_contract.live in
    let more = c.requires.more in
    let short = c.requires.short in
    let bytes : take (c.args.len - c.args.size) (zeros 4096) ≡ zeros (c.args.len - c.args.size) = take-replicate (c.args.len - c.args.size) 4096 0 (omega (arith, short)) in
    let count = ap length bytes ∙ length-replicate {A = ℕ} (c.args.len - c.args.size) 0 in
    record {
      live = tt;
      failed = λ failed. absurd (let before = live.0 in cc);
      after = inl c.fail.ensures.sectors.failed;
      cause = fails_cause a b (allocator_of c.fail.new.self) c.in-Err-overwrite_mini_chain.error (goes_cause a m b c.in-Err-overwrite_mini_chain.error c.take_room.ensures.invariants live.1 told.error_contract.cause) c.fail.ensures;
      fault = ⊎_elim (λ fault. inl fault)
          (⊎_elim (λ is. inr (inl is))
          (λ wrong. absurd (let few = (told.past.0 (ap Err wrong)).1 in let room = c.in_default.ensures.room in omega (arith, few, room, count, more))))
          told.error_contract.fault;
    }

pub returns-clause-stretched : goal.returns-clause-stretched
returns-clause-stretched g c = λ who id e content m has size below few mine.
    let m0 = c.args.mini.now in
    let m1 = c.take_room.new.mini in
    let m2 = c.overwrite_mini_chain.new.self in
    let links = c.take_room.new.links in
    let before = minis_of c.args.links.now in
    let later = minis_of links in
    let did = c.in_default.ensures in
    let next = c.in_default-overwrite_mini_chain.ensures in
    let short = c.requires.short in
    let grown = did.lengthened who.sectors m.owners (chain_by m0 who id before m mine).linked in
    let one = begun m0 m1 who id m c.take_room.ensures.invariants did.error_contract.live.1 before later mine grown in
    let over = next.written one.moves.now.sectors one.moves.stands.owners (chain_then m0 m1 who id later one) in
    let bytes : take (c.args.len - c.args.size) (zeros 4096) ≡ zeros (c.args.len - c.args.size) = take-replicate (c.args.len - c.args.size) 4096 0 (omega (arith, short)) in
    grown_short m0 who id c.args.size c.args.len e content before m has size below few mine m1 m2 links c.take_room.ensures.invariants did.error_contract.live.1 grown c.overwrite_mini_chain.ensures.invariants next.error_contract.live.1 c.requires.more did.room
    (subst (λ l. MiniOverwrites c.args.size l m1 m2 links one.moves.now.sectors) bytes over)

pub returns-clause-invariants : goal.returns-clause-invariants
returns-clause-invariants g c = goes_then _ _ _ c.take_room.ensures.invariants c.overwrite_mini_chain.ensures.invariants
