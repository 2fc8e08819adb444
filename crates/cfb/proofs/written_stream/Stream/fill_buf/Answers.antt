use Rattle.std.proofs.Common.{◌≡◌, drop, length, refl, rules, subst, take}
use Rattle.cfb.proofs.written_stream.Stream.fill_buf.Goals as goal

pub returns-in-Ok : goal.returns-in-Ok
returns-in-Ok g c =
    let bytes = c.buffer.result.now in (
      (
        refl,
        λ _. tt,
        record {
          rests = c.in-Ok.ensures.only_reads;
          place = c.in-Ok.ensures.unmoved;
          count = c.buffer.ensures.count;
          cause = tt;
        },
      ),
      record {
        leaves = tt;
        bytes = λ path tree content s.
            subst (λ n. bytes ≡ take (length bytes) (drop n content)) c.in-Ok.ensures.unmoved (c.buffer.ensures.bytes path tree content (c.in-Ok.ensures.only_reads.keeps path tree content s).0);
        most = search rules;
        some = search rules;
        when_failed = λ wrong. absurd (let no = c.in-Ok.ensures.when_failed wrong in cc);
        errors = tt;
      },
    )
