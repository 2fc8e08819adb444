use Rattle.std.proofs.Common.{rules, ◌≡◌, length, take}
use Rattle.cfb_sectors.proofs.Causes.{passed_on}
use Rattle.cfb.proofs.PartsRead.{fault_or_lost, part_read}
use Rattle.msi.specs.ReadStreams.{position_of, StreamHasContent, IsFaultOrLost}
use Rattle.msi.proofs.read_stream.ReadStream.read.Goals as goal

pub returns-in_err-read_found-clause-errors : goal.returns-in_err-read_found-clause-errors
returns-in_err-read_found-clause-errors g c =
    let told = c.in_err-read_found.ensures in
    passed_on c.from_residual.result c.in_err-read_found.field-0.0 (IsFaultOrLost c.args.self.now) c.from_residual.ensures.1
    (fault_or_lost (StreamHasContent c.args.self.now) c.in_err-read_found.field-0.0 told.errors (λ content has. (told.part content has).1))

pub returns-clause-read : goal.returns-clause-read
returns-clause-read g c = λ content has.
    let count = c.min-count.result in
    let long : length c.read_found.new.buffer ≡ count = search rules in
    let same : length (take count c.args.buffer.now) ≡ count = search rules in
    part_read content c.read_found.new.buffer _ (position_of c.args.self.now) count _ long same (c.in_ok-read_found.ensures.part content has).0
