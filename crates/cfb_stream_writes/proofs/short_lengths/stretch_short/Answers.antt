use Rattle.std.proofs.Common.{arith}
use Rattle.cfb_directory.proofs.Results.{two_ok}
use Rattle.cfb_tree_edits.proofs.Freed.{chain_below}
use Rattle.cfb_mini.specs.LinkViews.{minis_of}
use Rattle.cfb_mini.specs.Views.{mini_fat_of}
use Rattle.cfb_ownership.specs.Owners.{first_of}
use Rattle.cfb_stream_writes.proofs.Refused.{never_full}
use Rattle.cfb_stream_writes.proofs.ShortStreams.{chain_by, cut_short}
use Rattle.cfb_stream_writes.proofs.short_lengths.stretch_short.Goals as goal

pub returns-then-len-size-clause-stretched : goal.returns-then-len-size-clause-stretched
returns-then-len-size-clause-stretched g c =
    let m0 = c.args.mini.now in
    let before = minis_of c.args.links.now in
    let later = minis_of c.shorten_mini_chain.new.links in
    let count = c.div_ceil.result in
    two_ok c.shorten_mini_chain.result _ _ _
    (λ did live who id e content m has size below few mine.
    let enough = c.div_ceil.ensures in
    cut_short m0 who id c.args.size c.args.len e content before m has size below few mine c.shorten_mini_chain.new.self later count c.shorten_mini_chain.ensures.invariants live.1 c.if-len-size.true (omega (arith, enough))
    (did who.sectors m.owners (chain_by m0 who id before m mine).linked))
    c.shorten_mini_chain.ensures.shortened c.shorten_mini_chain.ensures.error_contract.live

pub returns-then-len-size-clause-refused_only_if : goal.returns-then-len-size-clause-refused_only_if
returns-then-len-size-clause-refused_only_if g c = λ wrong who id m mine.
    let m0 = c.args.mini.now in
    let before = minis_of c.args.links.now in
    c.shorten_mini_chain.ensures.refused_only_if wrong who.sectors m.owners (chain_below (mini_fat_of m0) (first_of before) before (chain_by m0 who id before m mine).linked)

pub returns-then-len-size-clause-full_only_if : goal.returns-then-len-size-clause-full_only_if
returns-then-len-size-clause-full_only_if g c = λ wrong live. absurd (never_full c.shorten_mini_chain.result c.shorten_mini_chain.ensures.error_contract.fault wrong)

pub returns-clause-full_only_if : goal.returns-clause-full_only_if
returns-clause-full_only_if g c = λ wrong live. (let more = c.if-len-size.false in omega (arith, more), c.lengthen_minis.ensures.full_only_if wrong live)
