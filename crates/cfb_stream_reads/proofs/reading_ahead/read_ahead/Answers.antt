use Rattle.std.proofs.Common.{◌≡◌, ◌+◌, ◌≤◌, arith, length}
use Rattle.cfb_stream_reads.proofs.AheadParts.{read_part}
use Rattle.cfb_stream_reads.proofs.reading_ahead.read_ahead.Goals as goal

pub returns-in-Ok-read_stream-clause-kept : goal.returns-in-Ok-read_stream-clause-kept
returns-in-Ok-read_stream-clause-kept g c = λ content has. (c.read_stream.ensures.content c.args.len content has).0

pub returns-in-Err-read_stream-clause-kept : goal.returns-in-Err-read_stream-clause-kept
returns-in-Err-read_stream-clause-kept g c = λ content has. (c.read_stream.ensures.content c.args.len content has).0

pub returns-in-Ok-read_stream-clause-content : goal.returns-in-Ok-read_stream-clause-content
returns-in-Ok-read_stream-clause-content g c = λ content has ahead.
    let old = c.deref_mut.result.now in
    let items = c.make_room.new.self.bytes.items in
    let xs = c.read_stream.new.buffer in
    let size : c.make_room.new.self.bytes.len ≡ length items = search in
    let most : length old ≡ length items = search in
    let same : length xs ≡ length items = search in
    let within : c.args.at + length old ≤ c.args.len = omega (arith, most, c.in-Ok.ensures.room.0, c.min-count.ensures, c.requires) in
    read_part content xs items c.make_room.new.self.bytes.len (length old) c.make_room.new.self.start c.args.at same size most c.in-Ok.ensures.room.1 ((c.in-Ok-read_stream.ensures.content c.args.len content has).1 within).0
