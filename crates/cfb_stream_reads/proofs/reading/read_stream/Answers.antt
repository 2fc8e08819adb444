use Rattle.std.proofs.Common.{subst}
use Rattle.cfb_stream_reads.specs.Content.{SectorsHaveContent}
use Rattle.cfb_stream_reads.proofs.Contents.{content_stays, minis_read, sectors_read}
use Rattle.cfb_stream_reads.proofs.reading.read_stream.Goals as goal

pub returns-in-Short-clause-content : goal.returns-in-Short-clause-content
returns-in-Short-clause-content g c = λ len content has.
    let it = c.args.mini.now in
    let here = subst (λ l. SectorsHaveContent it l len content) c.in-Short.is has in
    let told = c.read_mini_chain.ensures in (
      content_stays it c.read_mini_chain.new.self c.args.links.now len content told.only_reads has,
      λ within. minis_read it c.in-Short.minis len content c.args.at c.args.buffer.now c.read_mini_chain.new.buffer c.read_mini_chain.result here within told.read told.past told.refused_only_if told.errors,
    )

pub returns-in-Long-clause-content : goal.returns-in-Long-clause-content
returns-in-Long-clause-content g c = λ len content has.
    let it = c.args.mini.now in
    let here = subst (λ l. SectorsHaveContent it l len content) c.in-Long.is has in
    let told = c.read_long.ensures in (
      content_stays it c.read_long.new.mini c.args.links.now len content told.only_reads has,
      λ within. sectors_read it c.in-Long.links len content c.args.at c.args.buffer.now c.read_long.new.buffer c.read_long.result here within told.read told.past told.refused_only_if told.errors,
    )
