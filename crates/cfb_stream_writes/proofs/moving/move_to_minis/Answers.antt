use Rattle.std.proofs.Common.{◌≡◌, [], inl, inr, length, refl, ap, sym, subst, ◌∙◌, ⊎_elim}
use Rattle.std.specs.Prelude.{Err}
use Rattle.std.proofs.lemmas.Option.{slice_get_within}
use Rattle.cfb_chains.specs.LinkViews.{ids_of, links_version}
use Rattle.cfb_fat.specs.Keeping.{fails_cause}
use Rattle.cfb_fat.specs.OnlyReads.{all_rest_refl}
use Rattle.cfb_tree_edits.proofs.Standing.{stands_of}
use Rattle.cfb_medium.specs.declared.error.Error.TheVariants.{Full, InvalidData}
use Rattle.cfb_mini.specs.LinkViews.{minis_of}
use Rattle.cfb_mini.specs.Views.{allocator_of}
use Rattle.cfb_chain_io.proofs.GoingOn.{fails_go_on, goes_cause, goes_then}
use Rattle.cfb_stream_writes.specs.Moving.{MovesLong}
use Rattle.cfb_stream_writes.proofs.LongAt.{long_owned, long_version, long_without}
use Rattle.cfb_stream_writes.proofs.LongChains.{emptied}
use Rattle.cfb_stream_writes.proofs.Placed.{entry_moved, entry_of}
use Rattle.cfb_stream_writes.proofs.Rehoused.{shortened, shortened_moves}
use Rattle.cfb_stream_writes.proofs.moving.move_to_minis.Goals as goal

pub returns-in-Err-clause-refused_only_if : goal.returns-in-Err-clause-refused_only_if
returns-in-Err-clause-refused_only_if g c = λ wrong letters tree path content at are.
    let it = c.args.mini.now in
    let is : c.in-Err.error ≡ InvalidData = cc in
    c.in-Err.ensures.refused_only_if (ap Err is) at.means.who c.args.id (stands_of letters it tree at.means) (long_without letters it tree path c.args.id content at c.args.links.now are)

pub returns-in-Err-resize_chain-clause-refused_only_if : goal.returns-in-Err-resize_chain-clause-refused_only_if
returns-in-Err-resize_chain-clause-refused_only_if g c = λ wrong letters tree path content at are.
    let it = c.args.mini.now in
    let id = c.args.id in
    let links = c.args.links.now in
    let is : c.in-Err-resize_chain.error ≡ InvalidData = cc in
    let took = c.in-Ok.ensures.taken at.means.who id (stands_of letters it tree at.means) (long_without letters it tree path id content at links are) in
    c.in-Err-resize_chain.ensures.refused_only_if (ap Err is) took.short.moves.now id took.short.moves.stands (took.short.sectors ∙ long_owned letters it tree path id content at links are)
    (long_version letters it tree path id content at links are ∙ sym c.take_short.ensures.invariants.version)

pub returns-in-Err-set_place-clause-refused_only_if : goal.returns-in-Err-set_place-clause-refused_only_if
returns-in-Err-set_place-clause-refused_only_if g c = λ wrong letters tree path content at are.
    let it = c.args.mini.now in
    let m1 = c.take_short.new.mini in
    let m2 = c.resize_chain.new.mini in
    let id = c.args.id in
    let links = c.args.links.now in
    let is : c.in-Err-set_place.error ≡ InvalidData = cc in
    let was = entry_of letters it tree path id content at in
    let took = c.in-Ok.ensures.taken at.means.who id (stands_of letters it tree at.means) (long_without letters it tree path id content at links are) in
    let freed = c.in_default.ensures.resized took.short.moves.now id took.short.moves.stands (took.short.sectors ∙ long_owned letters it tree path id content at links are)
    (long_version letters it tree path id content at links are ∙ sym c.take_short.ensures.invariants.version) in
    let none = emptied (links_version links) (ids_of c.resize_chain.new.links) c.in_default.ensures.size in
    let moved = shortened_moves it m1 m2 at.means.who id (minis_of c.in-Ok.home) c.args.bytes.now took (subst (λ l. MovesLong id l m1 m2 took.short.moves.now) none freed.0) in
    c.in-Err-set_place.ensures.refused_only_if (ap Err is) moved.now.sectors moved.stands.owners (slice_get_within _ id was.entry (entry_moved letters it tree path id content at m2 moved))

pub returns-clause-moved : goal.returns-clause-moved
returns-clause-moved g c = λ letters tree path content at are.
    let it = c.args.mini.now in
    let m1 = c.take_short.new.mini in
    let m2 = c.resize_chain.new.mini in
    let id = c.args.id in
    let links = c.args.links.now in
    let bytes = c.args.bytes.now in
    let took = c.in-Ok.ensures.taken at.means.who id (stands_of letters it tree at.means) (long_without letters it tree path id content at links are) in
    let freed = c.in_default.ensures.resized took.short.moves.now id took.short.moves.stands (took.short.sectors ∙ long_owned letters it tree path id content at links are)
    (long_version letters it tree path id content at links are ∙ sym c.take_short.ensures.invariants.version) in
    let none = emptied (links_version links) (ids_of c.resize_chain.new.links) c.in_default.ensures.size in
    let did = c.in_default-set_place.ensures in
    shortened letters it m1 m2 c.set_place.new.mini tree path id content bytes at c.in-Ok.home took (subst (λ l. MovesLong id l m1 m2 took.short.moves.now) none freed.0)
    c.start_sector_id.result (length bytes) c.start_sector_id.ensures refl c.requires.short did.placed c.set_place.ensures.invariants did.not_failed

pub returns-in-Err-clause-full_only_if : goal.returns-in-Err-clause-full_only_if
returns-in-Err-clause-full_only_if g c = λ wrong live who m.
    let is : c.in-Err.error ≡ Full = cc in
    c.in-Err.ensures.full_only_if (ap Err is) live who m

pub returns-in-Err-resize_chain-clause-error_contract : goal.returns-in-Err-resize_chain-clause-error_contract
returns-in-Err-resize_chain-clause-error_contract g c =
    let a = allocator_of c.args.mini.now in
    let m = allocator_of c.take_short.new.mini in
    let b = allocator_of c.resize_chain.new.mini in
    let told = c.in-Err-resize_chain.ensures.error_contract in
    let live = c.in-Ok.ensures.error_contract.live in
    record {
      live = tt;
      failed = λ failed. absurd (let before = live.0 in cc);
      after = inl c.fail.ensures.sectors.failed;
      cause = fails_cause a b (allocator_of c.fail.new.self) c.in-Err-resize_chain.error (goes_cause a m b c.in-Err-resize_chain.error c.take_short.ensures.invariants live.1 told.cause) c.fail.ensures;
      fault = ⊎_elim (λ fault. inl fault) (⊎_elim (λ broken. inr (inl (inl broken))) (λ full. inr (inr full))) told.fault;
    }

pub returns-in-Err-resize_chain-clause-invariants : goal.returns-in-Err-resize_chain-clause-invariants
returns-in-Err-resize_chain-clause-invariants g c =
    let b = allocator_of c.resize_chain.new.mini in
    fails_go_on 0 [] (allocator_of c.args.mini.now) b b (allocator_of c.fail.new.self) (goes_then _ _ _ c.take_short.ensures.invariants c.resize_chain.ensures.invariants) (inr (all_rest_refl b)) c.fail.ensures

pub returns-in-Err-set_place-clause-invariants : goal.returns-in-Err-set_place-clause-invariants
returns-in-Err-set_place-clause-invariants g c = goes_then _ _ _ (goes_then _ _ _ c.take_short.ensures.invariants c.resize_chain.ensures.invariants) c.set_place.ensures.invariants

pub returns-in-Err-set_place-clause-error_contract : goal.returns-in-Err-set_place-clause-error_contract
returns-in-Err-set_place-clause-error_contract g c =
    let a = allocator_of c.args.mini.now in
    let m = allocator_of c.resize_chain.new.mini in
    let b = allocator_of c.set_place.new.mini in
    let told = c.in-Err-set_place.ensures in
    let live = c.in-Ok.ensures.error_contract.live in
    record {
      live = tt;
      failed = λ failed. absurd (let before = live.0 in cc);
      after = inl told.when_failed;
      cause = goes_cause a m b c.in-Err-set_place.error (goes_then _ _ _ c.take_short.ensures.invariants c.resize_chain.ensures.invariants) c.in_default.ensures.error_contract.live.1 told.cause;
      fault = ⊎_elim (λ fault. inl fault) (λ place. inr (inl place)) told.errors;
    }

pub returns-clause-invariants : goal.returns-clause-invariants
returns-clause-invariants g c = goes_then _ _ _ (goes_then _ _ _ c.take_short.ensures.invariants c.resize_chain.ensures.invariants) c.set_place.ensures.invariants
