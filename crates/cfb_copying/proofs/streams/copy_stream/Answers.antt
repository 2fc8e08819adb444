use Rattle.std.proofs.Common.{◌≡◌, ◌+◌, ap, arith, length, true, Err}
use Rattle.cfb_sectors.specs.Sectors.{end_of_chain}
use Rattle.cfb_ownership.specs.Owners.{stream_owner}
use Rattle.cfb_copying.specs.Steps.{sectors_among}
use Rattle.cfb_copying.proofs.NextStreams.{entry_found, next_can, next_long, next_never, next_short, next_there}
use Rattle.cfb_copying.proofs.PutChains.{no_full}
use Rattle.cfb_copying.proofs.streams.copy_stream.Goals as goal

pub returns-then-id-entries-clause-refused_only_if : goal.returns-then-id-entries-clause-refused_only_if
returns-then-id-entries-clause-refused_only_if g c = λ s who ids done minis original next has.
    let there = next_there c.args.source.now c.args.target.now s who ids done minis c.args.entries.now c.args.id original next has in absurd (omega (arith, there, c.if-id-entries.true))

pub returns-then-not-is_long-clause-copied : goal.returns-then-not-is_long-clause-copied
returns-then-not-is_long-clause-copied g c = λ s who ids done minis original next has.
    let e = c.index-entries-id.result in
    next_short c.args.source.now c.args.target.now s who ids done minis c.args.entries.now c.args.id original next has e
    (entry_found c.args.entries.now c.args.id e c.if-id-entries.false c.index-entries-id.is)
    (λ kind long. let wrong = c.is_long.ensures.1 (kind, long) in let is = c.if-not-is_long.true in cc)

pub returns-in-Err-clause-refused_only_if : goal.returns-in-Err-clause-refused_only_if
returns-in-Err-clause-refused_only_if g c = λ s who ids done minis original next has.
    let e = c.index-entries-id.result in
    let both = c.is_long.ensures.0 c.if-not-is_long.false in
    let can = next_can c.args.source.now c.args.target.now s who ids done minis c.args.entries.now c.args.id original next has e (entry_found c.args.entries.now c.args.id e c.if-id-entries.false c.index-entries-id.is) both.0 both.1 in
    no_full c.in-Err.error
    (λ full. next_never c.args.source.now c.args.target.now s who ids done minis c.args.entries.now c.args.id original next has (c.in-Err.ensures.stopped (ap Err full) (who.sectors (stream_owner c.args.id)) can.chain))
    (c.in-Err.ensures.refused_only_if 1 end_of_chain (stream_owner c.args.id) has.own has.bytes (who.sectors (stream_owner c.args.id))
    can)

pub returns-clause-copied : goal.returns-clause-copied
returns-clause-copied g c = λ s who ids done minis original next has.
    let e = c.index-entries-id.result in
    let both = c.is_long.ensures.0 c.if-not-is_long.false in
    let found = entry_found c.args.entries.now c.args.id e c.if-id-entries.false c.index-entries-id.is in
    let can = next_can c.args.source.now c.args.target.now s who ids done minis c.args.entries.now c.args.id original next has e found both.0 both.1 in
    next_long c.args.source.now c.args.target.now s who ids done minis c.args.entries.now c.args.id original next has e found both.0 both.1 c.put_chain.new.target _ c.start_of.result c.start_of.ensures c.put_chain.ensures.steps.goes_on.version
    (c.in-Ok.ensures.put 1 end_of_chain (stream_owner c.args.id) has.own has.bytes (who.sectors (stream_owner c.args.id)) can)
    (c.in-Ok.ensures.lean (who.sectors (stream_owner c.args.id)) can.chain (length (sectors_among who done) + 1) has.lean)
