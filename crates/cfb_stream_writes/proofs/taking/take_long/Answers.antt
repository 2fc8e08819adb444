use Rattle.std.proofs.Common.{◌≡◌, [], ap, arith, length, sym, ◌∙◌}
use Rattle.std.specs.Prelude.{Err}
use Rattle.cfb_chains.specs.LinkViews.{ids_of, links_version}
use Rattle.cfb_chains.specs.Positions.{sectors_for}
use Rattle.cfb_fat.specs.Tables.{version_of}
use Rattle.cfb_medium.specs.declared.error.Error.TheVariants.{Full}
use Rattle.cfb_mini.specs.Views.{allocator_of}
use Rattle.cfb_stream_writes.proofs.Stretching.{lacks_room}
use Rattle.cfb_stream_writes.proofs.TakenHomes.{taken}
use Rattle.cfb_stream_writes.proofs.taking.take_long.Goals as goal

pub take_in-requires : goal.take_in-requires
take_in-requires g c = let none = ap length (c.in-Ok.ensures.links.1 ∙ c.new.ensures.items) in omega (arith, none)

pub returns-in-Ok-take_in-clause-taken : goal.returns-in-Ok-take_in-clause-taken
returns-in-Ok-take_in-clause-taken g c = λ who id m nothing.
    let m0 = c.args.mini.now in
    let links0 = c.in-Ok.links in
    let version : links_version links0 ≡ version_of (allocator_of m0) = c.in-Ok.ensures.links.0 ∙ c.version.ensures in
    let none : ids_of links0 ≡ [] = c.in-Ok.ensures.links.1 ∙ c.new.ensures.items in
    let one = c.in-Ok-take_in.ensures.taken who id m (nothing ∙ sym none) version in
    taken m0 c.take_in.new.mini who id c.args.len links0 c.take_in.new.links c.args.bytes.now none one.0 one.1 (c.in-Ok-take_in.ensures.size ∙ ap (λ v. sectors_for v c.args.len) version)

pub returns-in-Err-take_in-clause-full_only_if : goal.returns-in-Err-take_in-clause-full_only_if
returns-in-Err-take_in-clause-full_only_if g c = λ wrong live.
    let is : c.in-Err-take_in.error ≡ Full = cc in
    lacks_room c.args.mini.now c.in-Ok.links 0 c.args.len (omega arith) (c.in-Ok.ensures.links.0 ∙ c.version.ensures) (c.in-Err-take_in.ensures.full_only_if (ap Err is) live)
