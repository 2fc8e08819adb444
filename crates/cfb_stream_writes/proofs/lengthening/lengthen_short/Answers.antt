use Rattle.std.proofs.Common.{◌≡◌, ◌<◌, inl, inr, length, ap, sym, subst, ◌∙◌, ⊎_elim, arith}
use Rattle.std.specs.Prelude.{slice_get, Err, Some}
use Rattle.std.proofs.lemmas.Option.{slice_get_within}
use Rattle.cfb_directory.specs.Entries.{entries_in}
use Rattle.cfb_directory.specs.Views.{entries_held}
use Rattle.cfb_fat.specs.Calls.{FatErrorContract}
use Rattle.cfb_tree_edits.proofs.Resting.{keeps_rests}
use Rattle.cfb_medium.specs.declared.error.Error.TheVariants.{Full, InvalidData}
use Rattle.cfb_mini.specs.Views.{allocator_of, directory_of}
use Rattle.cfb_mini.proofs.Longer.{answers_after}
use Rattle.cfb_chain_io.specs.ChainEffects.{IsInvalidPlaceOrFull}
use Rattle.cfb_chain_io.proofs.GoingOn.{goes_then, rests_go_on}
use Rattle.cfb_sectors.specs.Header.{mini_cutoff}
use Rattle.cfb_stream_reads.specs.Content.{SectorsHaveContent}
use Rattle.cfb_stream_reads.specs.declared.opening.StreamLinks.{StreamLinks}
use Rattle.cfb_stream_reads.specs.declared.opening.StreamLinks.TheVariants.{Long, Short}
use Rattle.cfb_tree.specs.Directory.{Entry}
use Rattle.cfb_tree.specs.EntryViews.{entry_in}
use Rattle.cfb_tree.proofs.OneContent.{Some_same}
use Rattle.cfb_stream_writes.specs.Streams.{resized, AreLinksOf}
use Rattle.cfb_stream_writes.proofs.Links.{entries_count}
use Rattle.cfb_stream_writes.proofs.MiniBytes.{resized_again}
use Rattle.cfb_stream_writes.proofs.Moved.{kept_rests, links_kept, moved_as}
use Rattle.cfb_stream_writes.proofs.Placed.{entry_of, found_at}
use Rattle.cfb_stream_writes.proofs.ShortAt.{content_there, kept_strays, short_size_below, size_there, stream_kept}
use Rattle.cfb_stream_writes.proofs.Stretching.{lacks_as_short, lacks_long, lacks_sectors_resting}
use Rattle.cfb_stream_writes.proofs.lengthening.lengthen_short.Goals as goal

pub returns-then-id-dir_entries-clause-refused_only_if : goal.returns-then-id-dir_entries-clause-refused_only_if
returns-then-id-dir_entries-clause-refused_only_if g c = λ wrong letters tree path content at are.
    let it = c.args.mini.now in
    let same : entries_in c.dir_entries.result.now ≡ entries_held (directory_of it) = c.dir_entries.ensures ∙ ap entries_held c.directory-2.ensures in
    let size = entries_count c.dir_entries.result.now (entries_held (directory_of it)) same in
    let past = c.if-id-dir_entries.true in
    let within = slice_get_within (entries_held (directory_of it)) c.args.id _ (found_at letters it tree path c.args.id content at) in
    omega (arith, size, past, within)

pub returns-in-Err-clause-invariants : goal.returns-in-Err-clause-invariants
returns-in-Err-clause-invariants g c = rests_go_on (allocator_of c.args.mini.now) (allocator_of c.read_front.new.mini) c.read_front.ensures.only_reads.directory.allocator

pub returns-then-size-from-clause-refused_only_if : goal.returns-then-size-from-clause-refused_only_if
returns-then-size-from-clause-refused_only_if g c = λ wrong letters tree path content at are.
    let it = c.args.mini.now in
    let id = c.args.id in
    let was = entry_of letters it tree path id content at in
    let told : slice_get (entries_held (directory_of it)) id ≡ Some (entry_in c.dir_entry.result.now) = ap (λ d. slice_get (entries_held d) id) (sym c.directory-3.ensures) ∙ c.dir_entry.ensures in
    let same : was.entry ≡ entry_in c.dir_entry.result.now = Some_same (sym (found_at letters it tree path id content at) ∙ told) in
    let size = ap (λ (x : Entry). x.size) same in
    let past = c.if-size-from.true in
    let cutoff = c.from.ensures in
    let below = short_size_below it was.entry.size c.args.links.now c.requires.short (are was.entry (found_at letters it tree path id content at)).1 in
    omega (arith, below, size, past, cutoff)

pub returns-in-Err-clause-refused_only_if : goal.returns-in-Err-clause-refused_only_if
returns-in-Err-clause-refused_only_if g c = λ wrong letters tree path content at are.
    let it = c.args.mini.now in
    let id = c.args.id in
    let is : c.in-Err.error ≡ InvalidData = cc in
    let was = entry_of letters it tree path id content at in
    let told : slice_get (entries_held (directory_of it)) id ≡ Some (entry_in c.dir_entry.result.now) = ap (λ d. slice_get (entries_held d) id) (sym c.directory-3.ensures) ∙ c.dir_entry.ensures in
    let same : was.entry ≡ entry_in c.dir_entry.result.now = Some_same (sym (found_at letters it tree path id content at) ∙ told) in
    c.in-Err.ensures.refused_only_if (ap Err is) content (subst (λ n. SectorsHaveContent it c.args.links.now n content) (ap (λ (x : Entry). x.size) same) (content_there letters it tree path id content at c.args.links.now are))

pub returns-in-Ok-move_to_sectors-clause-resized : goal.returns-in-Ok-move_to_sectors-clause-resized
returns-in-Ok-move_to_sectors-clause-resized g c = λ letters tree path content at are.
    let it = c.args.mini.now in
    let mid = c.read_front.new.mini in
    let new = c.move_to_sectors.new.mini in
    let id = c.args.id in
    let len = c.args.len in
    let keeps = keeps_rests it mid c.read_front.ensures.only_reads in
    let mid_at = stream_kept letters it mid tree path id content keeps at in
    let there = links_kept it mid keeps at.means.who.sectors at.means.owners id (Short c.in-Short.minis) (subst (λ (l : StreamLinks). AreLinksOf id l it) c.in-Short.is are) in
    let was = entry_of letters it tree path id content at in
    let told : slice_get (entries_held (directory_of it)) id ≡ Some (entry_in c.dir_entry.result.now) = ap (λ d. slice_get (entries_held d) id) (sym c.directory-3.ensures) ∙ c.dir_entry.ensures in
    let same : was.entry ≡ entry_in c.dir_entry.result.now = Some_same (sym (found_at letters it tree path id content at) ∙ told) in
    let size = ap (λ (x : Entry). x.size) same in
    let whole = size_there letters it tree path id content at ∙ size in
    let has = subst (λ n. SectorsHaveContent it c.args.links.now n content) size (content_there letters it tree path id content at c.args.links.now are) in
    let bytes = c.in-Ok.ensures.read content has whole in
    let did = c.in-Ok-move_to_sectors.ensures.moved letters tree path content mid_at there in
    moved_as letters it new at.means.who tree path id (Long c.in-Ok-move_to_sectors.home) (resized len c.deref.result.now) (resized len content)
    (ap (resized len) (c.deref.ensures.value ∙ bytes) ∙ resized_again content (entry_in c.dir_entry.result.now).size len (inr (sym whole)))
    (did.0, did.1, kept_strays letters it mid new tree path id content keeps at did.0.means.who did.2)

pub returns-in-Ok-move_to_sectors-clause-invariants : goal.returns-in-Ok-move_to_sectors-clause-invariants
returns-in-Ok-move_to_sectors-clause-invariants g c =
    let a = allocator_of c.args.mini.now in
    let b = allocator_of c.read_front.new.mini in
    goes_then a b (allocator_of c.move_to_sectors.new.mini) (rests_go_on a b c.read_front.ensures.only_reads.directory.allocator) c.move_to_sectors.ensures.invariants

pub returns-clause-refused_only_if : goal.returns-clause-refused_only_if
returns-clause-refused_only_if g c = λ wrong letters tree path content at are.
    let it = c.args.mini.now in
    let mid = c.read_front.new.mini in
    let id = c.args.id in
    let keeps = keeps_rests it mid c.read_front.ensures.only_reads in
    let mid_at = stream_kept letters it mid tree path id content keeps at in
    let there = links_kept it mid keeps at.means.who.sectors at.means.owners id (Short c.in-Short.minis) (subst (λ (l : StreamLinks). AreLinksOf id l it) c.in-Short.is are) in
    let is : c.in-Err-move_to_sectors.error ≡ InvalidData = cc in
    c.in-Err-move_to_sectors.ensures.refused_only_if (ap Err is) letters tree path content mid_at there

pub returns-clause-after_error : goal.returns-clause-after_error
returns-clause-after_error g c =
    ⊎_elim (λ failed. inl failed) (λ keeps. inr (kept_rests c.args.mini.now c.read_front.new.mini c.move_to_sectors.new.mini (keeps_rests c.args.mini.now c.read_front.new.mini c.read_front.ensures.only_reads) keeps)) c.in-Err-move_to_sectors.ensures.after_error

pub returns-clause-full_only_if : goal.returns-clause-full_only_if
returns-clause-full_only_if g c = λ wrong live letters tree path content at are.
    let it = c.args.mini.now in
    let mid = c.read_front.new.mini in
    let id = c.args.id in
    let was = entry_of letters it tree path id content at in
    let is : c.in-Err-move_to_sectors.error ≡ Full = cc in
    let below = short_size_below it was.entry.size c.args.links.now c.requires.short (are was.entry (found_at letters it tree path id content at)).1 in
    lacks_long it (length content) c.args.len c.requires.long (lacks_as_short it (length content) c.args.len (subst (λ n. n < mini_cutoff) (sym (size_there letters it tree path id content at)) below)
    (lacks_sectors_resting it mid 0 c.args.len c.read_front.ensures.only_reads.directory.allocator (c.in-Err-move_to_sectors.ensures.full_only_if (ap Err is) live)))

pub returns-clause-invariants : goal.returns-clause-invariants
returns-clause-invariants g c =
    let a = allocator_of c.args.mini.now in
    let b = allocator_of c.read_front.new.mini in
    goes_then a b (allocator_of c.move_to_sectors.new.mini) (rests_go_on a b c.read_front.ensures.only_reads.directory.allocator) c.move_to_sectors.ensures.invariants

pub returns-clause-error_contract : goal.returns-clause-error_contract
returns-clause-error_contract g c =
    let told = answers_after IsInvalidPlaceOrFull c.move_to_sectors.result (allocator_of c.args.mini.now) (allocator_of c.read_front.new.mini) (allocator_of c.move_to_sectors.new.mini) c.read_front.ensures.only_reads.directory.allocator c.move_to_sectors.ensures.error_contract in
    let here = subst (λ r. FatErrorContract IsInvalidPlaceOrFull r (allocator_of c.args.mini.now) (allocator_of c.move_to_sectors.new.mini)) c.in-Err-move_to_sectors.is told in
    record { live = tt; failed = λ was. let no = here.failed was in (ap Err (let wrong = no.0 in cc), no.1); after = here.after; cause = here.cause; fault = here.fault }
