use Rattle.std.proofs.Common.{◌≡◌, ◌+◌, ◌≤◌, length, ap, sym, subst, ◌∙◌, arith}
use Rattle.std.specs.Prelude.{slice_get, Some}
use Rattle.std.proofs.lemmas.Option.{slice_get_within}
use Rattle.cfb_directory.specs.Entries.{entries_in}
use Rattle.cfb_directory.specs.Views.{entries_held}
use Rattle.cfb_tree_edits.proofs.Standing.{stands_of}
use Rattle.cfb_mini.specs.Views.{directory_of}
use Rattle.cfb_stream_reads.specs.Streams.{IsOfLevel, StreamLiesIn}
use Rattle.cfb_stream_reads.specs.declared.opening.StreamLinks.TheVariants.{Long}
use Rattle.cfb_tree.specs.Directory.{Entry}
use Rattle.cfb_tree.specs.EntryViews.{entry_in}
use Rattle.cfb_tree.proofs.OneContent.{Some_same}
use Rattle.cfb_medium.specs.Bytes.{overwritten}
use Rattle.cfb_chains.specs.LinkViews.{ids_of}
use Rattle.cfb_stream_writes.proofs.Links.{entries_count}
use Rattle.cfb_stream_writes.proofs.LongAt.{long_owned, long_room, long_size, long_up, long_version}
use Rattle.cfb_stream_writes.proofs.LongLinks.{long_links, long_over}
use Rattle.cfb_stream_writes.proofs.Placed.{entry_of, entry_still, found_at, still_strays, stream_still}
use Rattle.cfb_stream_writes.proofs.writing.overwrite_long_stream.Goals as goal

pub returns-then-id-dir_entries-clause-refused_only_if : goal.returns-then-id-dir_entries-clause-refused_only_if
returns-then-id-dir_entries-clause-refused_only_if g c = λ wrong letters tree path content at are.
    let it = c.args.mini.now in
    let same : entries_in c.dir_entries.result.now ≡ entries_held (directory_of it) = c.dir_entries.ensures ∙ ap entries_held c.directory-2.ensures in
    let size = entries_count c.dir_entries.result.now (entries_held (directory_of it)) same in
    let past = c.if-id-dir_entries.true in
    let within = slice_get_within (entries_held (directory_of it)) c.args.id _ (found_at letters it tree path c.args.id content at) in
    omega (arith, size, past, within)

pub returns-then-not-lies_in-clause-past : goal.returns-then-not-lies_in-clause-past
returns-then-not-lies_in-clause-past g c = λ wrong letters tree path content at are.
    let it = c.args.mini.now in
    let id = c.args.id in
    let was = entry_of letters it tree path id content at in
    let told : slice_get (entries_held (directory_of it)) id ≡ Some (entry_in c.dir_entry.result.now) = ap (λ d. slice_get (entries_held d) id) (sym c.directory-3.ensures) ∙ c.dir_entry.ensures in
    let same : was.entry ≡ entry_in c.dir_entry.result.now = Some_same (sym (found_at letters it tree path id content at) ∙ told) in
    let size = long_size letters it tree path id content at c.args.links.now are ∙ ap (λ (x : Entry). x.size) same in
    let never : c.args.at + length c.args.bytes.now ≤ (entry_in c.dir_entry.result.now).size → ⊥ = λ inside. let yes = c.lies_in.ensures.1 inside in let no = c.if-not-lies_in.true in cc in
    omega (arith, size, never)

pub returns-in-Err-clause-past : goal.returns-in-Err-clause-past
returns-in-Err-clause-past g c = λ wrong letters tree path content at are.
    let it = c.args.mini.now in
    let id = c.args.id in
    let was = entry_of letters it tree path id content at in
    let told : slice_get (entries_held (directory_of it)) id ≡ Some (entry_in c.dir_entry.result.now) = ap (λ d. slice_get (entries_held d) id) (sym c.directory-3.ensures) ∙ c.dir_entry.ensures in
    let same : was.entry ≡ entry_in c.dir_entry.result.now = Some_same (sym (found_at letters it tree path id content at) ∙ told) in
    let size = ap (λ (x : Entry). x.size) same in
    let inside : c.args.at + length c.args.bytes.now ≤ (entry_in c.dir_entry.result.now).size = c.lies_in.ensures.0 c.if-not-lies_in.false in
    let past = c.in-Err.ensures.past wrong in
    let room = long_room letters it tree path id content at c.args.links.now are in
    absurd (omega (arith, size, inside, past, room))

pub returns-in-Err-clause-refused_only_if : goal.returns-in-Err-clause-refused_only_if
returns-in-Err-clause-refused_only_if g c = λ wrong letters tree path content at are.
    let it = c.args.mini.now in
    let links = c.args.links.now in
    let id = c.args.id in
    c.in-Err.ensures.refused_only_if wrong at.means.who id (stands_of letters it tree at.means) (long_owned letters it tree path id content at links are) (long_version letters it tree path id content at links are)

pub returns-clause-written : goal.returns-clause-written
returns-clause-written g c = λ letters tree path content at are.
    let it = c.args.mini.now in
    let new = c.overwrite_long.new.mini in
    let links = c.args.links.now in
    let id = c.args.id in
    let bytes = c.args.bytes.now in
    let was = entry_of letters it tree path id content at in
    let told : slice_get (entries_held (directory_of it)) id ≡ Some (entry_in c.dir_entry.result.now) = ap (λ d. slice_get (entries_held d) id) (sym c.directory-3.ensures) ∙ c.dir_entry.ensures in
    let same : was.entry ≡ entry_in c.dir_entry.result.now = Some_same (sym (found_at letters it tree path id content at) ∙ told) in
    let size = ap (λ (x : Entry). x.size) same in
    let told_in : c.args.at + length bytes ≤ (entry_in c.dir_entry.result.now).size = c.lies_in.ensures.0 c.if-not-lies_in.false in
    let inside : c.args.at + length bytes ≤ was.entry.size = omega (arith, told_in, size) in
    let owned = long_owned letters it tree path id content at links are in
    let version = long_version letters it tree path id content at links are in
    let up = long_up letters it tree path id content at links are in
    let did = c.in_default.ensures.written at.means.who id (stands_of letters it tree at.means) owned version in
    let has = long_over it new at.means.who id was.entry content links c.args.at bytes was.has up owned inside did.0 did.1 in
    let moved = did.0.moves in
    let later = overwritten content c.args.at bytes in (
      stream_still letters it new tree path id content later at moved has,
      λ e found.
          let one : was.entry ≡ e = Some_same (sym (entry_still letters it new tree path id content later at moved has) ∙ found) in
          subst (λ (x : Entry). StreamLiesIn new x.start x.size (ids_of links) × IsOfLevel new x.size (Long links)) one
          (long_links new moved.now moved.stands id was.entry later links has up did.0.mine (version ∙ sym c.overwrite_long.ensures.invariants.version)),
      still_strays letters it new tree path id content later at moved has,
    )
