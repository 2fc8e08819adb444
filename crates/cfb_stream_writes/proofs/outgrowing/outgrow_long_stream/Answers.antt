use Rattle.std.proofs.Common.{◌≡◌, ◌≤◌, length, inl, inr, ap, sym, subst, ◌∙◌, ⊎_elim, arith}
use Rattle.std.specs.Prelude.{slice_get, Some}
use Rattle.std.proofs.lemmas.Option.{slice_get_within}
use Rattle.cfb_directory.specs.Entries.{entries_in}
use Rattle.cfb_directory.specs.Views.{entries_held}
use Rattle.cfb_tree_edits.proofs.Standing.{stands_of}
use Rattle.cfb_mini.specs.Views.{allocator_of, directory_of}
use Rattle.cfb_chains.specs.LinkViews.{ids_of, links_version}
use Rattle.cfb_chains.specs.Positions.{sectors_for}
use Rattle.cfb_chains.proofs.ChainWriting.{length_within}
use Rattle.cfb_medium.specs.Bytes.{overwritten}
use Rattle.cfb_chain_io.specs.ChainEffects.{len_of, LacksSectors}
use Rattle.cfb_chain_io.proofs.WrittenParts.{room_for}
use Rattle.cfb_ownership.specs.Owners.{first_of, stream_owner}
use Rattle.cfb_stream_writes.specs.Moving.{Houses}
use Rattle.cfb_chain_io.proofs.GoingOn.{goes_cause, goes_then}
use Rattle.cfb_sectors.specs.Header.{mini_cutoff}
use Rattle.cfb_tree.specs.Directory.{Entry}
use Rattle.cfb_tree.specs.EntryViews.{entry_in}
use Rattle.cfb_tree.proofs.OneContent.{Some_same}
use Rattle.cfb_stream_writes.specs.Streams.{resized}
use Rattle.cfb_stream_writes.proofs.Links.{entries_count}
use Rattle.cfb_stream_writes.proofs.LongAt.{long_owned, long_room, long_size, long_up, long_version}
use Rattle.cfb_stream_writes.proofs.LongBytes.{length-resized}
use Rattle.cfb_stream_writes.proofs.Placed.{entry_moved, entry_of, found_at, placed_links, placed_strays, stream_placed}
use Rattle.cfb_stream_writes.proofs.Stretching.{lacks_long, lacks_room}
use Rattle.cfb_stream_writes.proofs.outgrowing.outgrow_long_stream.Goals as goal

pub outgrow-requires : goal.outgrow-requires
outgrow-requires g c =
    let it = c.args.mini.now in
    let id = c.args.id in
    let told : slice_get (entries_held (directory_of it)) id ≡ Some (entry_in c.dir_entry.result.now) = ap (λ d. slice_get (entries_held d) id) (sym c.directory-3.ensures) ∙ c.dir_entry.ensures in
    let can = c.requires.can (entry_in c.dir_entry.result.now) told in record {
      from = can.0;
      past = subst (λ n. (entry_in c.dir_entry.result.now).size ≤ n) c.requires.ends can.1;
      tight = let tight = can.2 in omega (arith, tight);
    }

pub returns-in-Err-clause-large : goal.returns-in-Err-clause-large
returns-in-Err-clause-large g c = λ wrong.
    let it = c.args.mini.now in
    let id = c.args.id in
    let told : slice_get (entries_held (directory_of it)) id ≡ Some (entry_in c.dir_entry.result.now) = ap (λ d. slice_get (entries_held d) id) (sym c.directory-3.ensures) ∙ c.dir_entry.ensures in
    let can = c.requires.can (entry_in c.dir_entry.result.now) told in
    let from = can.0 in
    let room = room_for (links_version c.args.links.now) (entry_in c.dir_entry.result.now).size (length (ids_of c.args.links.now)) can.2 in
    let past = c.in-Err.ensures.past wrong in
    absurd (omega (arith, from, room, past))

pub returns-then-id-dir_entries-clause-refused_only_if : goal.returns-then-id-dir_entries-clause-refused_only_if
returns-then-id-dir_entries-clause-refused_only_if g c = λ wrong letters tree path content at are.
    let it = c.args.mini.now in
    let same : entries_in c.dir_entries.result.now ≡ entries_held (directory_of it) = c.dir_entries.ensures ∙ ap entries_held c.directory-2.ensures in
    let size = entries_count c.dir_entries.result.now (entries_held (directory_of it)) same in
    let past = c.if-id-dir_entries.true in
    let within = slice_get_within (entries_held (directory_of it)) c.args.id _ (found_at letters it tree path c.args.id content at) in
    omega (arith, size, past, within)

pub returns-in-Err-clause-refused_only_if : goal.returns-in-Err-clause-refused_only_if
returns-in-Err-clause-refused_only_if g c = λ wrong letters tree path content at are.
    let it = c.args.mini.now in
    let links = c.args.links.now in
    let id = c.args.id in
    c.in-Err.ensures.refused_only_if wrong at.means.who id (stands_of letters it tree at.means) (long_owned letters it tree path id content at links are) (long_version letters it tree path id content at links are)

pub returns-in-Err-set_place-clause-refused_only_if : goal.returns-in-Err-set_place-clause-refused_only_if
returns-in-Err-set_place-clause-refused_only_if g c = λ wrong letters tree path content at are.
    let it = c.args.mini.now in
    let links = c.args.links.now in
    let id = c.args.id in
    let was = entry_of letters it tree path id content at in
    let told : slice_get (entries_held (directory_of it)) id ≡ Some (entry_in c.dir_entry.result.now) = ap (λ d. slice_get (entries_held d) id) (sym c.directory-3.ensures) ∙ c.dir_entry.ensures in
    let same : was.entry ≡ entry_in c.dir_entry.result.now = Some_same (sym (found_at letters it tree path id content at) ∙ told) in
    let size = ap (λ (x : Entry). x.size) same in
    let up = subst (λ n. mini_cutoff ≤ n) size (long_up letters it tree path id content at links are) in
    let houses = c.in_default.ensures.outgrown at.means.who id was.entry content (stands_of letters it tree at.means) was.has size up (long_owned letters it tree path id content at links are) (long_version letters it tree path id content at links are) in
    c.in-Err-set_place.ensures.refused_only_if wrong houses.0.moves.now.sectors houses.0.moves.stands.owners (slice_get_within _ id was.entry (entry_moved letters it tree path id content at c.outgrow.new.mini houses.0.moves))

pub returns-in-Err-set_place-clause-error_contract : goal.returns-in-Err-set_place-clause-error_contract
returns-in-Err-set_place-clause-error_contract g c =
    let a = allocator_of c.args.mini.now in
    let m = allocator_of c.outgrow.new.mini in
    let b = allocator_of c.set_place.new.mini in
    let told = c.in-Err-set_place.ensures in
    let live = c.in_default.ensures.error_contract.live in
    record {
      live = tt;
      failed = λ failed. absurd (let before = live.0 in cc);
      after = inl told.when_failed;
      cause = goes_cause a m b c.in-Err-set_place.error c.outgrow.ensures.invariants live.1 told.cause;
      fault = ⊎_elim (λ fault. inl fault) (λ place. inr (inl place)) told.errors;
    }

pub returns-clause-outgrown : goal.returns-clause-outgrown
returns-clause-outgrown g c = λ letters tree path content at are.
    let it = c.args.mini.now in
    let links = c.args.links.now in
    let id = c.args.id in
    let len = c.args.end in
    let bytes = c.args.bytes.now in
    let later = overwritten (resized len content) c.args.at bytes in
    let mid = c.outgrow.new.mini in
    let new = c.set_place.new.mini in
    let links3 = c.outgrow.new.links in
    let was = entry_of letters it tree path id content at in
    let told : slice_get (entries_held (directory_of it)) id ≡ Some (entry_in c.dir_entry.result.now) = ap (λ d. slice_get (entries_held d) id) (sym c.directory-3.ensures) ∙ c.dir_entry.ensures in
    let same : was.entry ≡ entry_in c.dir_entry.result.now = Some_same (sym (found_at letters it tree path id content at) ∙ told) in
    let size = ap (λ (x : Entry). x.size) same in
    let up = subst (λ n. mini_cutoff ≤ n) size (long_up letters it tree path id content at links are) in
    let longer = (c.requires.can (entry_in c.dir_entry.result.now) told).1 in
    let version = long_version letters it tree path id content at links are in
    let houses = subst (λ n. (h : Houses id (first_of (ids_of links3)) (overwritten (resized n content) c.args.at bytes) it mid at.means.who) × (h.moves.now.sectors (stream_owner id) ≡ ids_of links3)) (sym c.requires.ends)
    (c.in_default.ensures.outgrown at.means.who id was.entry content (stands_of letters it tree at.means) was.has size up (long_owned letters it tree path id content at links are) version) in
    let whole = length-resized content len in
    let all : length later ≡ len = length_within (resized len content) bytes c.args.at (let ends = c.requires.ends in omega (arith, whole, ends)) ∙ whole in
    let did = c.in_default-set_place.ensures in
    let start = c.first_sector.result in
    let has = houses.0.has (record did.placed.entry { start = start; size = len }) c.first_sector.ensures (sym all) in
    let goes = c.set_place.ensures.invariants in (
      stream_placed letters it mid new tree path id content later at houses.0.moves start len did.placed goes did.not_failed has,
      placed_links letters it mid new tree path id content later at houses.0.moves start len did.placed goes did.not_failed has links3 houses.1
          (c.outgrow.ensures.version ∙ version ∙ sym c.outgrow.ensures.invariants.version) (omega (arith, up, longer)),
      placed_strays letters it mid new tree path id content later at houses.0.moves start len did.placed goes did.not_failed has,
    )

pub returns-clause-invariants : goal.returns-clause-invariants
returns-clause-invariants g c = goes_then _ _ _ c.outgrow.ensures.invariants c.set_place.ensures.invariants

pub returns-in-Err-clause-full_only_if : goal.returns-in-Err-clause-full_only_if
returns-in-Err-clause-full_only_if g c = λ wrong live letters tree path content at are.
    let it = c.args.mini.now in
    let links = c.args.links.now in
    let id = c.args.id in
    let was = entry_of letters it tree path id content at in
    let up = long_up letters it tree path id content at links are in
    let longer = (c.requires.can was.entry (found_at letters it tree path id content at)).1 in
    let room = subst (λ n. n ≤ len_of links) (sym (long_size letters it tree path id content at links are)) (long_room letters it tree path id content at links are) in
    let lacks = subst (λ n. LacksSectors (allocator_of it) links (sectors_for (links_version links) n)) (sym c.requires.ends) (c.in-Err.ensures.full_only_if wrong live) in
    lacks_long it (length content) c.args.end (omega (arith, up, longer)) (lacks_room it links (length content) c.args.end room (long_version letters it tree path id content at links are) lacks)

pub returns-in-Err-set_place-clause-invariants : goal.returns-in-Err-set_place-clause-invariants
returns-in-Err-set_place-clause-invariants g c = goes_then _ _ _ c.outgrow.ensures.invariants c.set_place.ensures.invariants
