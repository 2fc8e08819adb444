use Rattle.std.proofs.Common.{rules, ◌≡◌, ℕ, ◌⊎◌, List, length, take}
use Rattle.cfb_sectors.proofs.Causes.{passed_on}
use Rattle.cfb_chains.specs.ChainCalls.{IsInvalidPlace}
use Rattle.cfb_medium.specs.Calls.{IsFaultOrInvalidInputIf}
use Rattle.cfb.specs.Streams.{FileHasStream}
use Rattle.cfb.specs.Writing.{file_under, place_of, stream_len}
use Rattle.cfb.proofs.PartsRead.{fault_or_lost, part_read}
use Rattle.cfb.proofs.written_stream.Stream.read_some.Goals as goal

pub returns-in_err-read_bytes-clause-errors : goal.returns-in_err-read_bytes-clause-errors
returns-in_err-read_bytes-clause-errors g c =
    let told = c.in_err-read_bytes.ensures in
    passed_on c.from_residual.result c.in_err-read_bytes.field-0.0 (λ e. IsFaultOrInvalidInputIf ⊥ e ⊎ (IsInvalidPlace e × ((content : List ℕ) → FileHasStream (file_under c.args.self.now) (stream_len c.args.self.now) content → ⊥))) c.from_residual.ensures.1
    (fault_or_lost (FileHasStream (file_under c.args.self.now) (stream_len c.args.self.now)) c.in_err-read_bytes.field-0.0 told.errors (λ content has. (told.part content has).1))

pub returns-clause-read : goal.returns-clause-read
returns-clause-read g c = λ content has.
    let count = c.min-count.result in
    let long : length c.read_bytes.new.buffer ≡ count = search rules in
    let same : length (take count c.args.buffer.now) ≡ count = search rules in
    part_read content c.read_bytes.new.buffer _ (place_of c.args.self.now) count _ long same (c.in_ok-read_bytes.ensures.part content has).0
