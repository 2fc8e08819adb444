use Rattle.std.proofs.Common.{◌≡◌, inl, inr, length, ap, sym, subst, ◌∙◌, ⊎_elim, arith}
use Rattle.std.specs.Prelude.{slice_get, Err, Some}
use Rattle.std.proofs.lemmas.Option.{slice_get_within}
use Rattle.cfb_directory.specs.Entries.{entries_in}
use Rattle.cfb_directory.specs.Views.{entries_held}
use Rattle.cfb_fat.specs.Calls.{FatErrorContract}
use Rattle.cfb_tree_edits.proofs.Resting.{keeps_rests}
use Rattle.cfb_tree_edits.proofs.Standing.{stands_of}
use Rattle.cfb_medium.specs.declared.error.Error.TheVariants.{Full, InvalidData}
use Rattle.cfb_mini.specs.Views.{allocator_of, directory_of}
use Rattle.cfb_mini.specs.Minis.{minis_for}
use Rattle.cfb_mini.proofs.Lacking.{lacks_before}
use Rattle.cfb_mini.proofs.Longer.{answers_after}
use Rattle.cfb_chain_io.specs.ChainEffects.{IsInvalidPlaceOrFull}
use Rattle.cfb_chain_io.proofs.GoingOn.{goes_then, rests_go_on}
use Rattle.cfb_stream_reads.specs.Content.{SectorsHaveContent}
use Rattle.cfb_stream_reads.specs.declared.opening.StreamLinks.{StreamLinks}
use Rattle.cfb_stream_reads.specs.declared.opening.StreamLinks.TheVariants.{Long, Short}
use Rattle.cfb_tree.specs.Directory.{Entry}
use Rattle.cfb_tree.specs.EntryViews.{entry_in}
use Rattle.cfb_tree.proofs.OneContent.{Some_same}
use Rattle.cfb_stream_writes.specs.Streams.{resized, AreLinksOf}
use Rattle.cfb_stream_writes.proofs.Links.{entries_count}
use Rattle.cfb_stream_writes.proofs.LongAt.{long_up}
use Rattle.cfb_stream_writes.proofs.Moved.{kept_rests, links_kept, moved_as}
use Rattle.cfb_stream_writes.proofs.Placed.{entry_of, found_at}
use Rattle.cfb_stream_writes.proofs.Refused.{not_full}
use Rattle.cfb_stream_writes.proofs.ShortAt.{content_there, kept_strays, size_there, stream_kept}
use Rattle.cfb_stream_writes.proofs.Stretching.{lacks_short, long_has}
use Rattle.cfb_stream_writes.proofs.moving.shorten_long.Goals as goal

pub returns-then-id-dir_entries-clause-refused_only_if : goal.returns-then-id-dir_entries-clause-refused_only_if
returns-then-id-dir_entries-clause-refused_only_if g c = λ wrong letters tree path content at are.
    let it = c.args.mini.now in
    let same : entries_in c.dir_entries.result.now ≡ entries_held (directory_of it) = c.dir_entries.ensures ∙ ap entries_held c.directory-2.ensures in
    let size = entries_count c.dir_entries.result.now (entries_held (directory_of it)) same in
    let past = c.if-id-dir_entries.true in
    let within = slice_get_within (entries_held (directory_of it)) c.args.id _ (found_at letters it tree path c.args.id content at) in
    omega (arith, size, past, within)

pub returns-in-Err-clause-invariants : goal.returns-in-Err-clause-invariants
returns-in-Err-clause-invariants g c = rests_go_on (allocator_of c.args.mini.now) (allocator_of c.read_front.new.mini) c.read_front.ensures.only_reads.directory.allocator

pub returns-in-Err-clause-refused_only_if : goal.returns-in-Err-clause-refused_only_if
returns-in-Err-clause-refused_only_if g c = λ wrong letters tree path content at are.
    let it = c.args.mini.now in
    let id = c.args.id in
    let is : c.in-Err.error ≡ InvalidData = cc in
    let was = entry_of letters it tree path id content at in
    let told : slice_get (entries_held (directory_of it)) id ≡ Some (entry_in c.dir_entry.result.now) = ap (λ d. slice_get (entries_held d) id) (sym c.directory-3.ensures) ∙ c.dir_entry.ensures in
    let same : was.entry ≡ entry_in c.dir_entry.result.now = Some_same (sym (found_at letters it tree path id content at) ∙ told) in
    c.in-Err.ensures.refused_only_if (ap Err is) content (subst (λ n. SectorsHaveContent it c.args.links.now n content) (ap (λ (x : Entry). x.size) same) (content_there letters it tree path id content at c.args.links.now are))

pub returns-in-Err-clause-full_only_if : goal.returns-in-Err-clause-full_only_if
returns-in-Err-clause-full_only_if g c = λ wrong. absurd (let is : c.in-Err.error ≡ Full = cc in not_full c.in-Err.error c.in-Err.ensures.errors is)

pub returns-in-Ok-move_to_minis-clause-resized : goal.returns-in-Ok-move_to_minis-clause-resized
returns-in-Ok-move_to_minis-clause-resized g c = λ letters tree path content at are.
    let it = c.args.mini.now in
    let mid = c.read_front.new.mini in
    let new = c.move_to_minis.new.mini in
    let id = c.args.id in
    let len = c.args.len in
    let keeps = keeps_rests it mid c.read_front.ensures.only_reads in
    let mid_at = stream_kept letters it mid tree path id content keeps at in
    let there = links_kept it mid keeps at.means.who.sectors at.means.owners id (Long c.in-Long.long) (subst (λ (l : StreamLinks). AreLinksOf id l it) c.in-Long.is are) in
    let was = entry_of letters it tree path id content at in
    let told : slice_get (entries_held (directory_of it)) id ≡ Some (entry_in c.dir_entry.result.now) = ap (λ d. slice_get (entries_held d) id) (sym c.directory-3.ensures) ∙ c.dir_entry.ensures in
    let same : was.entry ≡ entry_in c.dir_entry.result.now = Some_same (sym (found_at letters it tree path id content at) ∙ told) in
    let size = ap (λ (x : Entry). x.size) same in
    let whole = size_there letters it tree path id content at ∙ size in
    let has = subst (λ n. SectorsHaveContent it c.args.links.now n content) size (content_there letters it tree path id content at c.args.links.now are) in
    let bytes = c.in-Ok.ensures.read content has whole in
    let did = c.in-Ok-move_to_minis.ensures.moved letters tree path content mid_at there in
    moved_as letters it new at.means.who tree path id (Short c.in-Ok-move_to_minis.home) c.deref.result.now (resized len content) (c.deref.ensures.value ∙ bytes)
    (did.0, did.1, kept_strays letters it mid new tree path id content keeps at did.0.means.who did.2)

pub returns-in-Ok-move_to_minis-clause-invariants : goal.returns-in-Ok-move_to_minis-clause-invariants
returns-in-Ok-move_to_minis-clause-invariants g c =
    let a = allocator_of c.args.mini.now in
    let b = allocator_of c.read_front.new.mini in
    goes_then a b (allocator_of c.move_to_minis.new.mini) (rests_go_on a b c.read_front.ensures.only_reads.directory.allocator) c.move_to_minis.ensures.invariants

pub returns-clause-refused_only_if : goal.returns-clause-refused_only_if
returns-clause-refused_only_if g c = λ wrong letters tree path content at are.
    let it = c.args.mini.now in
    let mid = c.read_front.new.mini in
    let id = c.args.id in
    let keeps = keeps_rests it mid c.read_front.ensures.only_reads in
    let mid_at = stream_kept letters it mid tree path id content keeps at in
    let there = links_kept it mid keeps at.means.who.sectors at.means.owners id (Long c.in-Long.long) (subst (λ (l : StreamLinks). AreLinksOf id l it) c.in-Long.is are) in
    let is : c.in-Err-move_to_minis.error ≡ InvalidData = cc in
    c.in-Err-move_to_minis.ensures.refused_only_if (ap Err is) letters tree path content mid_at there

pub returns-clause-after_error : goal.returns-clause-after_error
returns-clause-after_error g c =
    ⊎_elim (λ failed. inl failed) (λ keeps. inr (kept_rests c.args.mini.now c.read_front.new.mini c.move_to_minis.new.mini (keeps_rests c.args.mini.now c.read_front.new.mini c.read_front.ensures.only_reads) keeps)) c.in-Err-move_to_minis.ensures.after_error

pub returns-clause-full_only_if : goal.returns-clause-full_only_if
returns-clause-full_only_if g c = λ wrong live letters tree path content at are.
    let it = c.args.mini.now in
    let mid = c.read_front.new.mini in
    let id = c.args.id in
    let is : c.in-Err-move_to_minis.error ≡ Full = cc in
    let keeps = keeps_rests it mid c.read_front.ensures.only_reads in
    let mid_at = stream_kept letters it mid tree path id content keeps at in
    let long = subst (λ (l : StreamLinks). AreLinksOf id l it) c.in-Long.is are in
    let up = long_up letters it tree path id content at c.in-Long.long long in
    let size = size_there letters it tree path id content at in
    let none = long_has (length content) (omega (arith, size, up)) in
    let all : length c.deref.result.now ≡ c.args.len = ap length c.deref.ensures.value ∙ c.in-Ok.ensures.len in
    let count = minis_for (length c.deref.result.now) in
    lacks_short it (length content) c.args.len count c.requires.short (λ few. absurd (let below = few in omega (arith, below, size, up))) (omega (arith, none, all))
    (lacks_before it mid count at.means.owners.memory c.read_front.ensures.only_reads (c.in-Err-move_to_minis.ensures.full_only_if (ap Err is) live mid_at.means.who (stands_of letters mid tree mid_at.means)))

pub returns-clause-invariants : goal.returns-clause-invariants
returns-clause-invariants g c =
    let a = allocator_of c.args.mini.now in
    let b = allocator_of c.read_front.new.mini in
    goes_then a b (allocator_of c.move_to_minis.new.mini) (rests_go_on a b c.read_front.ensures.only_reads.directory.allocator) c.move_to_minis.ensures.invariants

pub returns-clause-error_contract : goal.returns-clause-error_contract
returns-clause-error_contract g c =
    let told = answers_after IsInvalidPlaceOrFull c.move_to_minis.result (allocator_of c.args.mini.now) (allocator_of c.read_front.new.mini) (allocator_of c.move_to_minis.new.mini) c.read_front.ensures.only_reads.directory.allocator c.move_to_minis.ensures.error_contract in
    let here = subst (λ r. FatErrorContract IsInvalidPlaceOrFull r (allocator_of c.args.mini.now) (allocator_of c.move_to_minis.new.mini)) c.in-Err-move_to_minis.is told in
    record { live = tt; failed = λ was. let no = here.failed was in (ap Err (let wrong = no.0 in cc), no.1); after = here.after; cause = here.cause; fault = here.fault }
