use Rattle.std.proofs.Common.{◌≡◌, [], inl, inr, refl, ap, ◌∙◌, ⊎_elim, arith}
use Rattle.std.specs.Prelude.{slice_get, Err}
use Rattle.std.proofs.lemmas.Option.{slice_get_within}
use Rattle.cfb_directory.specs.Entries.{entries_in}
use Rattle.cfb_directory.specs.Views.{entries_held}
use Rattle.cfb_tree_edits.proofs.Standing.{stands_of}
use Rattle.cfb_mini.specs.Views.{allocator_of, directory_of}
use Rattle.cfb_chain_io.proofs.GoingOn.{goes_cause, goes_then}
use Rattle.cfb_sectors.specs.Sectors.{end_of_chain}
use Rattle.cfb_stream_writes.proofs.Links.{entries_count}
use Rattle.cfb_stream_writes.proofs.Placed.{entry_of, found_at, freed_has, freed_moves, placed_strays, stream_placed}
use Rattle.cfb_stream_writes.proofs.emptying.empty_stream.Goals as goal

pub returns-then-id-dir_entries-clause-refused_only_if : goal.returns-then-id-dir_entries-clause-refused_only_if
returns-then-id-dir_entries-clause-refused_only_if g c = λ wrong letters tree path content at.
    let it = c.args.mini.now in
    let same : entries_in c.dir_entries.result.now ≡ entries_held (directory_of it) = c.dir_entries.ensures ∙ ap entries_held c.directory-2.ensures in
    let size = entries_count c.dir_entries.result.now (entries_held (directory_of it)) same in
    let past = c.if-id-dir_entries.true in
    let within = slice_get_within (entries_held (directory_of it)) c.args.id _ (found_at letters it tree path c.args.id content at) in
    omega (arith, size, past, within)

pub returns-in-Err-clause-refused_only_if : goal.returns-in-Err-clause-refused_only_if
returns-in-Err-clause-refused_only_if g c = λ wrong letters tree path content at.
    let it = c.args.mini.now in
    let was = entry_of letters it tree path c.args.id content at in
    c.in-Err.ensures.refused_only_if wrong at.means.who was.entry content (stands_of letters it tree at.means) (found_at letters it tree path c.args.id content at) was.has

pub returns-in-Err-set_place-clause-refused_only_if : goal.returns-in-Err-set_place-clause-refused_only_if
returns-in-Err-set_place-clause-refused_only_if g c = λ wrong letters tree path content at.
    let it = c.args.mini.now in
    let was = entry_of letters it tree path c.args.id content at in
    let found = found_at letters it tree path c.args.id content at in
    let frees = c.in_default.ensures.freed at.means.who was.entry content (stands_of letters it tree at.means) found was.has in
    c.in-Err-set_place.ensures.refused_only_if wrong frees.now.sectors frees.stands.owners (slice_get_within _ c.args.id was.entry (ap (λ l. slice_get l c.args.id) frees.entries ∙ found))

pub returns-in-Err-set_place-clause-error_contract : goal.returns-in-Err-set_place-clause-error_contract
returns-in-Err-set_place-clause-error_contract g c =
    let a = allocator_of c.args.mini.now in
    let m = allocator_of c.free_stream.new.mini in
    let b = allocator_of c.set_place.new.mini in
    let told = c.in-Err-set_place.ensures in
    let live = c.in_default.ensures.error_contract.live in
    record {
      live = tt;
      failed = λ failed. absurd (let before = live.0 in cc);
      after = inl told.when_failed;
      cause = goes_cause a m b c.in-Err-set_place.error c.free_stream.ensures.invariants live.1 told.cause;
      fault = ⊎_elim (λ fault. inl fault) (⊎_elim (λ is. inr is) (λ large. absurd (let past = told.large (ap Err large) in omega (arith, past)))) told.errors;
    }

pub returns-in-Err-set_place-clause-invariants : goal.returns-in-Err-set_place-clause-invariants
returns-in-Err-set_place-clause-invariants g c = goes_then _ _ _ c.free_stream.ensures.invariants c.set_place.ensures.invariants

pub returns-clause-emptied : goal.returns-clause-emptied
returns-clause-emptied g c = λ letters tree path content at.
    let it = c.args.mini.now in
    let id = c.args.id in
    let mid = c.free_stream.new.mini in
    let was = entry_of letters it tree path id content at in
    let frees = c.in_default.ensures.freed at.means.who was.entry content (stands_of letters it tree at.means) (found_at letters it tree path id content at) was.has in
    let did = c.in_default-set_place.ensures in
    let moves = freed_moves it mid at.means.who id frees in
    let has = freed_has it mid at.means.who id frees (record did.placed.entry { start = end_of_chain; size = 0 }) refl refl in (
      stream_placed letters it mid c.set_place.new.mini tree path id content [] at moves end_of_chain 0 did.placed c.set_place.ensures.invariants did.not_failed has,
      placed_strays letters it mid c.set_place.new.mini tree path id content [] at moves end_of_chain 0 did.placed c.set_place.ensures.invariants did.not_failed has,
    )

pub returns-clause-invariants : goal.returns-clause-invariants
returns-clause-invariants g c = goes_then _ _ _ c.free_stream.ensures.invariants c.set_place.ensures.invariants
