use Rattle.std.proofs.Common.{length, sym, subst}
use Rattle.cfb_sectors.proofs.Appending.{on_ok}
use Rattle.cfb_stream_reads.specs.declared.opening.StreamLinks.{StreamLinks}
use Rattle.cfb_stream_reads.specs.declared.opening.StreamLinks.TheVariants.{Long}
use Rattle.cfb_stream_writes.specs.Streams.{resized, HasNoLinks, IsPastNumbers, LacksRoomFor, RewritesIn}
use Rattle.cfb_stream_writes.proofs.ShortAt.{alike_refl}
use Rattle.cfb_stream_writes.proofs.Stretching.{past_lacks}
use Rattle.cfb_stream_writes.proofs.streams.resize_stream.Goals as goal

pub returns-in-Long-clause-resized : goal.returns-in-Long-clause-resized
returns-in-Long-clause-resized g c =
    on_ok c.resize_long_stream.result _ _
    (λ did. subst (λ (l : StreamLinks). RewritesIn c.args.id (resized c.args.len) l (Long c.resize_long_stream.new.links) c.args.mini.now c.resize_long_stream.new.mini) (sym c.in-Long.is) did) c.resize_long_stream.ensures.resized

pub returns-in-Long-clause-refused_only_if : goal.returns-in-Long-clause-refused_only_if
returns-in-Long-clause-refused_only_if g c = λ wrong. subst (λ (l : StreamLinks). HasNoLinks c.args.id l c.args.mini.now) (sym c.in-Long.is) (c.resize_long_stream.ensures.refused_only_if wrong)

pub returns-in-Long-clause-full_only_if : goal.returns-in-Long-clause-full_only_if
returns-in-Long-clause-full_only_if g c = λ wrong live. subst (λ (l : StreamLinks). LacksRoomFor c.args.id l c.args.len c.args.mini.now) (sym c.in-Long.is) (c.resize_long_stream.ensures.full_only_if wrong live)

pub returns-then-is_past_numbers-clause-kept : goal.returns-then-is_past_numbers-clause-kept
returns-then-is_past_numbers-clause-kept g c = λ live. alike_refl c.args.links.now

pub returns-then-is_past_numbers-clause-full_only_if : goal.returns-then-is_past_numbers-clause-full_only_if
returns-then-is_past_numbers-clause-full_only_if g c = λ full live letters tree path content at are.
    let version = c.version-2.ensures in
    let past = c.is_past_numbers.ensures.0 c.if-is_past_numbers.true in
    past_lacks c.args.mini.now (length content) c.args.len (subst (λ v. IsPastNumbers v c.args.len) version past)

pub returns-then-len-from-clause-spared : goal.returns-then-len-from-clause-spared
returns-then-len-from-clause-spared g c = λ past.
    let wrong = c.is_past_numbers.ensures.1 (subst (λ v. IsPastNumbers v c.args.len) (sym c.version-2.ensures) past) in
    let not = c.if-is_past_numbers.false in
    absurd (cc)

pub returns-in-Long-clause-spared : goal.returns-in-Long-clause-spared
returns-in-Long-clause-spared g c = λ past.
    let wrong = c.is_past_numbers.ensures.1 (subst (λ v. IsPastNumbers v c.args.len) (sym c.version-2.ensures) past) in
    let not = c.if-is_past_numbers.false in
    absurd (cc)

pub returns-in-Short-clause-spared : goal.returns-in-Short-clause-spared
returns-in-Short-clause-spared g c = λ past.
    let wrong = c.is_past_numbers.ensures.1 (subst (λ v. IsPastNumbers v c.args.len) (sym c.version-2.ensures) past) in
    let not = c.if-is_past_numbers.false in
    absurd (cc)
