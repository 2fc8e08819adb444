use Rattle.std.proofs.Common.{◌≤◌, length, take, arith, length-take}
use Rattle.cfb_chains.specs.ChainViews.{position_of, sectors_of, version_of}
use Rattle.cfb_chains.specs.Positions.{left_in}
use Rattle.cfb_chains.proofs.ChainWriting.{written_at}
use Rattle.cfb_chains.proofs.chain.Chain.write_inside.Goals as goal

pub returns-clause-written : goal.returns-clause-written
returns-clause-written g c = λ honest once.
    let it = c.args.self.now in
    let n = c.min-count.result in
    let xs = take n c.args.bytes.now in
    let fits : length xs ≤ left_in (version_of it) (position_of it) = simp length-take (omega (arith, c.min-count.ensures, c.place-place.ensures.left)) in
    let written = c.in_ok-write_part.ensures.writes c.in_ok-write_part.ensures.there in
    let kept = g.met.H.ChangesSectors.writes_keep _ _ _ _ written in
    written_at (version_of it) _ _ (sectors_of it) xs (position_of it) _ c.requires fits once c.place-place.ensures.place ((kept.1 c.in_ok-write_part.ensures.not_failed.1).1 honest)
