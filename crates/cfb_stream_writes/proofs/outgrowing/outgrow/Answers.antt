use Rattle.std.proofs.Common.{◌≡◌, ℕ, ◌≤◌, ◌+◌, ap, arith, length, subst, ◌∙◌}
use Rattle.std.specs.Prelude.{max}
use Rattle.cfb_chains.specs.LinkViews.{ids_of}
use Rattle.cfb_chains.specs.Positions.{sectors_for}
use Rattle.cfb_directory.proofs.Results.{two_ok}
use Rattle.cfb_medium.specs.declared.version.Version.{Version}
use Rattle.cfb_medium.specs.declared.version.Version.TheVariants.{V3, V4}
use Rattle.cfb_fat.specs.Tables.{version_of}
use Rattle.cfb_mini.specs.Views.{allocator_of}
use Rattle.cfb_sectors.specs.Header.{mini_cutoff}
use Rattle.cfb_stream_writes.proofs.LongStreams.{outgrown}
use Rattle.cfb_stream_writes.proofs.outgrowing.outgrow.Goals as goal

most : (v : Version) (had now size len : ℕ) → had ≤ sectors_for v size → size ≤ len → now ≡ max had (sectors_for v len) → now ≡ sectors_for v len
most V3 had now size len tight longer is = omega (arith, tight, longer, is)
most V4 had now size len tight longer is = omega (arith, tight, longer, is)

pub returns-clause-outgrown : goal.returns-clause-outgrown
returns-clause-outgrown g c =
    let m0 = c.args.mini.now in
    let m1 = c.write_on.new.mini in
    let links = c.args.links.now in
    let size = c.args.size in
    let len = c.args.at + length c.args.bytes.now in
    two_ok c.write_on.result _ _ _
    (λ did count who id e content m has is_size up is version.
    let wrote = did who id m is version in
    let tight = subst (λ v. length (ids_of links) ≤ sectors_for v size) version c.requires.tight in
    let longer : size ≤ len = c.requires.past in
    let more_up : mini_cutoff ≤ len = omega (arith, up, longer) in
    let all = most (version_of (allocator_of m0)) (length (ids_of links)) (length (ids_of c.write_on.new.links)) size len tight longer (count ∙ ap (λ v. max (length (ids_of links)) (sectors_for v len)) version) in
    outgrown m0 who id size links e content has is_size up is len more_up m1 c.write_on.new.links c.args.at c.args.bytes.now c.requires.from longer (omega arith) wrote.0 wrote.1 all)
    c.write_on.ensures.written c.write_on.ensures.size
