use Rattle.std.proofs.Common.{◌≡◌, take, drop, length, sym, subst, false}
use Rattle.cfb_fat.specs.Tables.{has_failed_here}
use Rattle.cfb_chain_io.specs.ChainEffects.{content_of, HasFatChain}
use Rattle.cfb_mini.specs.LinkViews.{minis_of}
use Rattle.cfb_mini.specs.Minis.{mini_joined}
use Rattle.cfb_mini.proofs.Keeping.{stream_links}
use Rattle.cfb_mini.proofs.mini_allocator.MiniAllocator.read_mini_chain.Goals as goal
use Rattle.cfb_directory.proofs.Results.{two_ok}

pub returns-clause-read : goal.returns-clause-read
returns-clause-read g c =
    let it = c.args.self.now in
    let stream = it.mini_fat.stream in
    let same = c.allocator_mut.ensures.value in
    two_ok c.read_minis.result _ _ _
    (λ read there honest is inside.
    let live = subst (λ x. has_failed_here x ≡ false) same there.0 in
    subst (λ x. c.read_minis.new.buffer ≡ take (length c.args.buffer.now) (drop c.args.at (mini_joined (content_of x stream) (minis_of c.args.links.now)))) same
    (read (subst (λ x. HasFatChain x stream) (sym same) (stream_links it live honest is)) inside))
    c.read_minis.ensures.read c.read_minis.ensures.there
