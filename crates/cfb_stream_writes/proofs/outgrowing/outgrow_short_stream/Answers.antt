use Rattle.std.proofs.Common.{◌≡◌, ◌<◌, length, refl, ap, sym, subst, ◌∙◌, arith}
use Rattle.std.proofs.lemmas.Option.{slice_get_within}
use Rattle.cfb_fat.proofs.GrowthSteps.{ok_map}
use Rattle.cfb_directory.specs.Entries.{entries_in}
use Rattle.cfb_directory.specs.Views.{entries_held}
use Rattle.cfb_medium.specs.Bytes.{overwritten}
use Rattle.cfb_mini.specs.Views.{directory_of}
use Rattle.cfb_sectors.specs.Header.{mini_cutoff}
use Rattle.cfb_stream_reads.specs.declared.opening.StreamLinks.TheVariants.{Long, Short}
use Rattle.cfb_stream_writes.specs.Streams.{resized}
use Rattle.cfb_stream_writes.proofs.Links.{entries_count}
use Rattle.cfb_stream_writes.proofs.LongBytes.{length-resized, over_whole, resized_whole}
use Rattle.cfb_stream_writes.proofs.Moved.{moved_as}
use Rattle.cfb_stream_writes.proofs.Placed.{entry_of, found_at}
use Rattle.cfb_stream_writes.proofs.ShortAt.{short_size_below, size_there}
use Rattle.cfb_stream_writes.proofs.Stretching.{lacks_as_short, lacks_long}
use Rattle.cfb_stream_writes.proofs.outgrowing.outgrow_short_stream.Goals as goal

pub returns-then-id-dir_entries-clause-refused_only_if : goal.returns-then-id-dir_entries-clause-refused_only_if
returns-then-id-dir_entries-clause-refused_only_if g c = λ wrong letters tree path content at are.
    let it = c.args.mini.now in
    let same : entries_in c.dir_entries.result.now ≡ entries_held (directory_of it) = c.dir_entries.ensures ∙ ap entries_held c.directory-2.ensures in
    let size = entries_count c.dir_entries.result.now (entries_held (directory_of it)) same in
    let past = c.if-id-dir_entries.true in
    let within = slice_get_within (entries_held (directory_of it)) c.args.id _ (found_at letters it tree path c.args.id content at) in
    omega (arith, size, past, within)

pub returns-clause-outgrown : goal.returns-clause-outgrown
returns-clause-outgrown g c = ok_map c.move_to_sectors.result _ _ c.move_to_sectors.ensures.moved (λ home did letters tree path content at are.
    let n = length c.args.bytes.now in
    moved_as letters c.args.mini.now c.move_to_sectors.new.mini at.means.who tree path c.args.id (Long home) (resized n c.args.bytes.now) (overwritten (resized n content) 0 c.args.bytes.now)
    (resized_whole c.args.bytes.now n refl ∙ sym (over_whole (resized n content) c.args.bytes.now (length-resized content n))) (did letters tree path content at are))

pub returns-clause-full_only_if : goal.returns-clause-full_only_if
returns-clause-full_only_if g c = λ wrong live letters tree path content at are.
    let it = c.args.mini.now in
    let id = c.args.id in
    let was = entry_of letters it tree path id content at in
    let below = short_size_below it was.entry.size (Short c.args.minis.now) tt (are was.entry (found_at letters it tree path id content at)).1 in
    lacks_long it (length content) (length c.args.bytes.now) c.requires.long (lacks_as_short it (length content) (length c.args.bytes.now) (subst (λ n. n < mini_cutoff) (sym (size_there letters it tree path id content at)) below) (c.move_to_sectors.ensures.full_only_if wrong live))
