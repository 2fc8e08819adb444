use Rattle.std.proofs.Common.{sym, subst}
use Rattle.cfb_sectors.proofs.Appending.{on_ok}
use Rattle.cfb_stream_reads.specs.declared.opening.StreamLinks.{StreamLinks}
use Rattle.cfb_stream_reads.specs.declared.opening.StreamLinks.TheVariants.{Short}
use Rattle.cfb_stream_writes.specs.Streams.{resized, HasNoLinks, LacksRoomFor, RewritesIn}
use Rattle.cfb_stream_writes.proofs.streams.resize_to_short.Goals as goal

pub returns-in-Short-clause-resized : goal.returns-in-Short-clause-resized
returns-in-Short-clause-resized g c =
    on_ok c.resize_short_stream.result _ _
    (λ did. subst (λ (l : StreamLinks). RewritesIn c.args.id (resized c.args.len) l (Short c.resize_short_stream.new.links) c.args.mini.now c.resize_short_stream.new.mini) (sym c.in-Short.is) did) c.resize_short_stream.ensures.resized

pub returns-in-Short-clause-refused_only_if : goal.returns-in-Short-clause-refused_only_if
returns-in-Short-clause-refused_only_if g c = λ wrong. subst (λ (l : StreamLinks). HasNoLinks c.args.id l c.args.mini.now) (sym c.in-Short.is) (c.resize_short_stream.ensures.refused_only_if wrong)

pub returns-in-Short-clause-full_only_if : goal.returns-in-Short-clause-full_only_if
returns-in-Short-clause-full_only_if g c = λ wrong live. subst (λ (l : StreamLinks). LacksRoomFor c.args.id l c.args.len c.args.mini.now) (sym c.in-Short.is) (c.resize_short_stream.ensures.full_only_if wrong live)
