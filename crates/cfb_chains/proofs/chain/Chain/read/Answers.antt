use Rattle.std.proofs.Common.{◌≡◌, ◌+◌, ◌≤◌, ◌/◌, ◌%◌, length, take, arith, length-take}
use Rattle.cfb_medium.specs.Versions.{sector_len}
use Rattle.cfb_chains.proofs.ChainParts.{part_read}
use Rattle.cfb_chains.proofs.ChainWriting.{split, split_below}
use Rattle.cfb_chains.proofs.chain.Chain.read.Goals as goal

pub returns-clause-read : goal.returns-clause-read
returns-clause-read g c = λ honest.
    let it = c.args.self.now in
    let v = it.links.now.version in
    let ids = it.links.now.sector_ids.items in
    let parts = split v it.position in
    let i = it.position / sector_len v in
    let o = it.position % sector_len v in
    let n = c.min-count.result in
    let below = split_below v it.position (length ids) (omega (arith, it.inside, c.len.ensures, c.if-self-len.false)) in
    let fits : o + n ≤ sector_len v = omega (arith, c.min-count.ensures, c.place-place.ensures.left, parts.1) in
    let few : n ≤ length c.args.buffer.now = omega (arith, c.min-count.ensures) in
    let same : length (take n c.args.buffer.now) ≡ n = simp length-take (omega arith) in
    part_read v _ ids c.read_part.new.buffer _ i o n _ _ it.position below fits same c.place-place.ensures.place parts.0 (c.in_ok-read_part.ensures.read honest)
