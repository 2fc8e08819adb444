use Rattle.std.proofs.Common.{rules, ◌≡◌, ◌-◌, ◌≤◌, ◌++◌, length, take, replicate, ap, ◌∙◌, arith}
use Rattle.std.specs.Prelude.{min, vec_len, Err}
use Rattle.cfb_sectors.proofs.Causes.{passed_on}
use Rattle.cfb_fat.specs.Tables.{IsJustifiedBySectors}
use Rattle.cfb_medium.specs.declared.error.Error.TheVariants.{InvalidInput, Memory}
use Rattle.cfb_mini.specs.Views.{allocator_of}
use Rattle.cfb_stream_writes.specs.Streams.{resized}
use Rattle.cfb_stream_writes.proofs.MiniBytes.{resized_front}
use Rattle.cfb_stream_writes.proofs.moving.read_front.Goals as goal

pub returns-clause-read : goal.returns-clause-read
returns-clause-read g c = λ content has whole.
    let size = c.args.size in
    let count = c.args.count in
    let least : c.min.result ≡ min size count = search rules in
    let few : c.min.result ≤ size = omega (arith, least) in
    let first = c.in-Ok.ensures.read size content has whole few in
    let all : vec_len c.in-Ok.bytes ≡ length c.in-Ok.bytes.items = search rules in
    let cut : c.resize.new.self.items ≡ resized count c.in-Ok.bytes.items = c.in_ok-resize.ensures.items ∙ ap (λ n. take count c.in-Ok.bytes.items ++ replicate (count - n) 0) all in
    cut ∙ ap (resized count) (first ∙ ap (λ n. take n content) least) ∙ resized_front content size count whole

pub returns-in-Err-InvalidInput-clause-refused_only_if : goal.returns-in-Err-InvalidInput-clause-refused_only_if
returns-in-Err-InvalidInput-clause-refused_only_if g c = λ wrong content has.
    let least : c.min.result ≡ min c.args.size c.args.count = search rules in
    let is : c.in-Err-InvalidInput.field-0 ≡ InvalidInput = cc in
    c.in-Err-InvalidInput.ensures.large (ap Err is) c.args.size content has (omega (arith, least))

pub returns-in-Err-clause-refused_only_if : goal.returns-in-Err-clause-refused_only_if
returns-in-Err-clause-refused_only_if g c = λ wrong content has.
    let least : c.min.result ≡ min c.args.size c.args.count = search rules in
    c.in-Err.ensures.refused_only_if wrong c.args.size content has (omega (arith, least))

pub returns-in_err-resize-clause-cause : goal.returns-in_err-resize-clause-cause
returns-in_err-resize-clause-cause g c =
    passed_on c.from_residual.result Memory (IsJustifiedBySectors (allocator_of c.args.mini.now) (allocator_of c.read_first.new.mini)) c.from_residual.ensures.1 (λ start from. record { device = λ wrong. absurd (cc); earlier = λ wrong. absurd (cc) })
