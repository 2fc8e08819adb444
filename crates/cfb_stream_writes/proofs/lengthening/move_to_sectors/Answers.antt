use Rattle.std.proofs.Common.{◌≡◌, [], inl, inr, ap, sym, subst, ◌∙◌, ⊎_elim}
use Rattle.std.specs.Prelude.{Err}
use Rattle.std.proofs.lemmas.Option.{slice_get_within}
use Rattle.cfb_chains.specs.LinkViews.{ids_of}
use Rattle.cfb_fat.specs.Keeping.{fails_cause}
use Rattle.cfb_tree_edits.proofs.Standing.{stands_of}
use Rattle.cfb_medium.specs.declared.error.Error.TheVariants.{InvalidData}
use Rattle.cfb_mini.specs.Changing.{FreesMiniSectors}
use Rattle.cfb_mini.specs.Views.{allocator_of}
use Rattle.cfb_fat.specs.OnlyReads.{all_rest_refl}
use Rattle.cfb_chain_io.proofs.GoingOn.{fails_go_on, goes_cause, goes_then}
use Rattle.cfb_stream_writes.specs.Streams.{resized}
use Rattle.cfb_stream_writes.proofs.LongBytes.{length-resized}
use Rattle.cfb_stream_writes.proofs.Placed.{entry_moved, entry_of}
use Rattle.cfb_stream_writes.proofs.Rehoused.{rehoused, rehoused_moves, short_in_table, short_keeps, short_without}
use Rattle.cfb_stream_writes.proofs.lengthening.move_to_sectors.Goals as goal

pub returns-in-Err-clause-refused_only_if : goal.returns-in-Err-clause-refused_only_if
returns-in-Err-clause-refused_only_if g c = λ wrong letters tree path content at are.
    let it = c.args.mini.now in
    let is : c.in-Err.error ≡ InvalidData = cc in
    c.in-Err.ensures.refused_only_if (ap Err is) at.means.who c.args.id (stands_of letters it tree at.means) (short_without letters it tree path c.args.id content at c.args.minis.now are)

pub returns-in-Err-free_mini_chain-clause-refused_only_if : goal.returns-in-Err-free_mini_chain-clause-refused_only_if
returns-in-Err-free_mini_chain-clause-refused_only_if g c = λ wrong letters tree path content at are.
    let it = c.args.mini.now in
    let id = c.args.id in
    let links = c.in-Ok.links in
    let later = resized c.args.len c.args.bytes.now in
    let is : c.in-Err-free_mini_chain.error ≡ InvalidData = cc in
    let took = c.in-Ok.ensures.taken at.means.who id (stands_of letters it tree at.means) (short_without letters it tree path id content at c.args.minis.now are) in
    c.in-Err-free_mini_chain.ensures.refused_only_if (ap Err is) took.long.moves.now.sectors took.long.moves.stands.owners (short_in_table letters it tree path id content at c.args.minis.now are (ids_of links) later c.take_long.new.mini took)

pub returns-in-Err-set_place-clause-refused_only_if : goal.returns-in-Err-set_place-clause-refused_only_if
returns-in-Err-set_place-clause-refused_only_if g c = λ wrong letters tree path content at are.
    let it = c.args.mini.now in
    let m1 = c.take_long.new.mini in
    let m2 = c.free_mini_chain.new.self in
    let id = c.args.id in
    let minis = c.args.minis.now in
    let links = c.in-Ok.links in
    let later = resized c.args.len c.args.bytes.now in
    let is : c.in-Err-set_place.error ≡ InvalidData = cc in
    let was = entry_of letters it tree path id content at in
    let took = c.in-Ok.ensures.taken at.means.who id (stands_of letters it tree at.means) (short_without letters it tree path id content at minis are) in
    let frees = subst (λ l. FreesMiniSectors l m1 m2 took.long.moves.now.sectors) (sym (short_keeps letters it tree path id content at minis are (ids_of links) later m1 took)) (c.in_default.ensures.freed took.long.moves.now.sectors took.long.moves.stands.owners) in
    let moved = rehoused_moves it m1 m2 at.means.who id (ids_of links) later took c.free_mini_chain.ensures.invariants c.in_default.ensures.error_contract.live.1 frees in
    c.in-Err-set_place.ensures.refused_only_if (ap Err is) moved.now.sectors moved.stands.owners (slice_get_within _ id was.entry (entry_moved letters it tree path id content at m2 moved))

pub returns-clause-moved : goal.returns-clause-moved
returns-clause-moved g c = λ letters tree path content at are.
    let it = c.args.mini.now in
    let m1 = c.take_long.new.mini in
    let m2 = c.free_mini_chain.new.self in
    let id = c.args.id in
    let minis = c.args.minis.now in
    let links = c.in-Ok.links in
    let later = resized c.args.len c.args.bytes.now in
    let took = c.in-Ok.ensures.taken at.means.who id (stands_of letters it tree at.means) (short_without letters it tree path id content at minis are) in
    let frees = subst (λ l. FreesMiniSectors l m1 m2 took.long.moves.now.sectors) (sym (short_keeps letters it tree path id content at minis are (ids_of links) later m1 took)) (c.in_default.ensures.freed took.long.moves.now.sectors took.long.moves.stands.owners) in
    let did = c.in_default-set_place.ensures in
    rehoused letters it m1 m2 c.set_place.new.mini tree path id content later at links took c.free_mini_chain.ensures.invariants c.in_default.ensures.error_contract.live.1 frees
    c.first_sector.result c.args.len c.first_sector.ensures (sym (length-resized c.args.bytes.now c.args.len)) c.requires.long did.placed c.set_place.ensures.invariants did.not_failed
    (c.in-Ok.ensures.version ∙ sym c.take_long.ensures.invariants.version ∙ sym c.free_mini_chain.ensures.invariants.version)

pub returns-in-Err-free_mini_chain-clause-error_contract : goal.returns-in-Err-free_mini_chain-clause-error_contract
returns-in-Err-free_mini_chain-clause-error_contract g c =
    let a = allocator_of c.args.mini.now in
    let m = allocator_of c.take_long.new.mini in
    let b = allocator_of c.free_mini_chain.new.self in
    let told = c.in-Err-free_mini_chain.ensures.error_contract in
    let live = c.in-Ok.ensures.error_contract.live in
    record {
      live = tt;
      failed = λ failed. absurd (let before = live.0 in cc);
      after = inl c.fail.ensures.sectors.failed;
      cause = fails_cause a b (allocator_of c.fail.new.self) c.in-Err-free_mini_chain.error (goes_cause a m b c.in-Err-free_mini_chain.error c.take_long.ensures.invariants live.1 told.cause) c.fail.ensures;
      fault = ⊎_elim (λ fault. inl fault) (λ broken. inr (inl (inl broken))) told.fault;
    }

pub returns-in-Err-free_mini_chain-clause-invariants : goal.returns-in-Err-free_mini_chain-clause-invariants
returns-in-Err-free_mini_chain-clause-invariants g c =
    let b = allocator_of c.free_mini_chain.new.self in
    fails_go_on 0 [] (allocator_of c.args.mini.now) b b (allocator_of c.fail.new.self) (goes_then _ _ _ c.take_long.ensures.invariants c.free_mini_chain.ensures.invariants) (inr (all_rest_refl b)) c.fail.ensures

pub returns-in-Err-set_place-clause-invariants : goal.returns-in-Err-set_place-clause-invariants
returns-in-Err-set_place-clause-invariants g c = goes_then _ _ _ (goes_then _ _ _ c.take_long.ensures.invariants c.free_mini_chain.ensures.invariants) c.set_place.ensures.invariants

pub returns-in-Err-set_place-clause-error_contract : goal.returns-in-Err-set_place-clause-error_contract
returns-in-Err-set_place-clause-error_contract g c =
    let a = allocator_of c.args.mini.now in
    let m = allocator_of c.free_mini_chain.new.self in
    let b = allocator_of c.set_place.new.mini in
    let told = c.in-Err-set_place.ensures in
    let live = c.in-Ok.ensures.error_contract.live in
    record {
      live = tt;
      failed = λ failed. absurd (let before = live.0 in cc);
      after = inl told.when_failed;
      cause = goes_cause a m b c.in-Err-set_place.error (goes_then _ _ _ c.take_long.ensures.invariants c.free_mini_chain.ensures.invariants) c.in_default.ensures.error_contract.live.1 told.cause;
      fault = ⊎_elim (λ fault. inl fault) (λ place. inr (inl place)) told.errors;
    }

pub returns-clause-invariants : goal.returns-clause-invariants
returns-clause-invariants g c = goes_then _ _ _ (goes_then _ _ _ c.take_long.ensures.invariants c.free_mini_chain.ensures.invariants) c.set_place.ensures.invariants
