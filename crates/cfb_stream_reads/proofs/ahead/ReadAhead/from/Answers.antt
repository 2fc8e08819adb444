use Rattle.std.proofs.Common.{◌∙◌, ap, arith, drop, length, sym, take}
use Rattle.cfb_stream_reads.proofs.AheadParts.{slice_part}
use Rattle.cfb_stream_reads.proofs.ahead.ReadAhead.from.Goals as goal

pub returns-clause-bytes : goal.returns-clause-bytes
returns-clause-bytes c = λ content is.
    let start = c.args.self.now.start in
    let bytes = c.deref-2.result.now in
    let value = c.deref-2.ensures.value in
    slice_part content bytes start c.args.at (omega arith) (omega arith) (value ∙ is ∙ ap (λ xs. take (length xs) (drop start content)) (sym value))
