use Rattle.std.proofs.Common.{length, sym, subst}
use Rattle.cfb_medium.specs.Bytes.{overwritten}
use Rattle.cfb_sectors.proofs.Appending.{on_ok}
use Rattle.cfb_stream_reads.specs.declared.opening.StreamLinks.{StreamLinks}
use Rattle.cfb_stream_writes.specs.Streams.{HasNoLinks, IsPast, RewritesIn}
use Rattle.cfb_stream_writes.proofs.streams.overwrite_stream.Goals as goal

pub returns-in-Short-clause-written : goal.returns-in-Short-clause-written
returns-in-Short-clause-written g c =
    on_ok c.overwrite_short_stream.result _ _
    (λ did. subst (λ (l : StreamLinks). RewritesIn c.args.id (λ content. overwritten content c.args.at c.args.bytes.now) l l c.args.mini.now c.overwrite_short_stream.new.mini) (sym c.in-Short.is) did) c.overwrite_short_stream.ensures.written

pub returns-in-Short-clause-past : goal.returns-in-Short-clause-past
returns-in-Short-clause-past g c = λ wrong. subst (λ (l : StreamLinks). IsPast c.args.id l c.args.at (length c.args.bytes.now) c.args.mini.now) (sym c.in-Short.is) (c.overwrite_short_stream.ensures.past wrong)

pub returns-in-Short-clause-refused_only_if : goal.returns-in-Short-clause-refused_only_if
returns-in-Short-clause-refused_only_if g c = λ wrong. subst (λ (l : StreamLinks). HasNoLinks c.args.id l c.args.mini.now) (sym c.in-Short.is) (c.overwrite_short_stream.ensures.refused_only_if wrong)

pub returns-in-Long-clause-written : goal.returns-in-Long-clause-written
returns-in-Long-clause-written g c =
    on_ok c.overwrite_long_stream.result _ _
    (λ did. subst (λ (l : StreamLinks). RewritesIn c.args.id (λ content. overwritten content c.args.at c.args.bytes.now) l l c.args.mini.now c.overwrite_long_stream.new.mini) (sym c.in-Long.is) did) c.overwrite_long_stream.ensures.written

pub returns-in-Long-clause-past : goal.returns-in-Long-clause-past
returns-in-Long-clause-past g c = λ wrong. subst (λ (l : StreamLinks). IsPast c.args.id l c.args.at (length c.args.bytes.now) c.args.mini.now) (sym c.in-Long.is) (c.overwrite_long_stream.ensures.past wrong)

pub returns-in-Long-clause-refused_only_if : goal.returns-in-Long-clause-refused_only_if
returns-in-Long-clause-refused_only_if g c = λ wrong. subst (λ (l : StreamLinks). HasNoLinks c.args.id l c.args.mini.now) (sym c.in-Long.is) (c.overwrite_long_stream.ensures.refused_only_if wrong)
