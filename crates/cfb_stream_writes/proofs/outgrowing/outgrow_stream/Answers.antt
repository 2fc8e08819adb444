use Rattle.std.proofs.Common.{◌≡◌, ◌≤◌, ◌+◌, ap, arith, length, sym, subst, ◌∙◌}
use Rattle.std.specs.Prelude.{Err}
use Rattle.cfb_medium.specs.declared.error.Error.TheVariants.{Full, InvalidData}
use Rattle.cfb_sectors.specs.Header.{mini_cutoff}
use Rattle.cfb_sectors.proofs.Appending.{on_ok}
use Rattle.cfb_medium.specs.Bytes.{overwritten}
use Rattle.cfb_stream_reads.specs.declared.opening.StreamLinks.{StreamLinks}
use Rattle.cfb_stream_reads.specs.declared.opening.StreamLinks.TheVariants.{Long, Short}
use Rattle.cfb_stream_writes.specs.Streams.{resized, CanOutgrow, HasNoLinks, LacksRoomFor, RewritesIn}
use Rattle.cfb_stream_writes.proofs.outgrowing.outgrow_stream.Goals as goal

pub returns-in-Long-clause-outgrown : goal.returns-in-Long-clause-outgrown
returns-in-Long-clause-outgrown g c =
    on_ok c.outgrow_long_stream.result _ _
    (λ did. subst (λ (l : StreamLinks). RewritesIn c.args.id (λ content. overwritten (resized c.args.end content) c.args.at c.args.bytes.now) l (Long c.outgrow_long_stream.new.links) c.args.mini.now c.outgrow_long_stream.new.mini) (sym c.in-Long.is) did) c.outgrow_long_stream.ensures.outgrown

pub returns-in-Long-clause-refused_only_if : goal.returns-in-Long-clause-refused_only_if
returns-in-Long-clause-refused_only_if g c = λ wrong. subst (λ (l : StreamLinks). HasNoLinks c.args.id l c.args.mini.now) (sym c.in-Long.is) (c.outgrow_long_stream.ensures.refused_only_if wrong)

pub returns-in-Long-clause-full_only_if : goal.returns-in-Long-clause-full_only_if
returns-in-Long-clause-full_only_if g c = λ wrong live. subst (λ (l : StreamLinks). LacksRoomFor c.args.id l c.args.end c.args.mini.now) (sym c.in-Long.is) (c.outgrow_long_stream.ensures.full_only_if wrong live)

pub returns-in-Ok-clause-outgrown : goal.returns-in-Ok-clause-outgrown
returns-in-Ok-clause-outgrown g c =
    let id = c.args.id in
    let bytes = c.args.bytes.now in
    let it = c.args.mini.now in
    let new = c.outgrow_short_stream.new.mini in
    let minis = c.in-Short.minis in
    let home = c.in-Ok.home in
    let can : (c.args.at ≡ 0) × (mini_cutoff ≤ c.args.end) = subst (λ (l : StreamLinks). CanOutgrow id l c.args.at c.args.end it) c.in-Short.is c.requires.can in
    let all : c.args.end ≡ length bytes = c.requires.ends ∙ ap (λ n. n + length bytes) can.0 ∙ omega arith in
    subst (λ (l : StreamLinks). RewritesIn id (λ content. overwritten (resized c.args.end content) c.args.at bytes) l (Long home) it new) (sym c.in-Short.is)
    (subst (λ n. RewritesIn id (λ content. overwritten (resized n content) c.args.at bytes) (Short minis) (Long home) it new) (sym all)
    (subst (λ n. RewritesIn id (λ content. overwritten (resized (length bytes) content) n bytes) (Short minis) (Long home) it new) (sym can.0) c.in-Ok.ensures.outgrown))

pub outgrow_short_stream-requires : goal.outgrow_short_stream-requires
outgrow_short_stream-requires g c =
    let can : (c.args.at ≡ 0) × (mini_cutoff ≤ c.args.end) = subst (λ (l : StreamLinks). CanOutgrow c.args.id l c.args.at c.args.end c.args.mini.now) c.in-Short.is c.requires.can in
    let none = can.0 in
    let long = can.1 in
    let ends = c.requires.ends in
    omega (arith, none, long, ends)

pub returns-in-Err-clause-refused_only_if : goal.returns-in-Err-clause-refused_only_if
returns-in-Err-clause-refused_only_if g c = λ wrong.
    let is : c.in-Err.error ≡ InvalidData = cc in
    subst (λ (l : StreamLinks). HasNoLinks c.args.id l c.args.mini.now) (sym c.in-Short.is) (c.in-Err.ensures.refused_only_if (ap Err is))

pub returns-in-Err-clause-full_only_if : goal.returns-in-Err-clause-full_only_if
returns-in-Err-clause-full_only_if g c = λ wrong live.
    let is : c.in-Err.error ≡ Full = cc in
    let can : (c.args.at ≡ 0) × (mini_cutoff ≤ c.args.end) = subst (λ (l : StreamLinks). CanOutgrow c.args.id l c.args.at c.args.end c.args.mini.now) c.in-Short.is c.requires.can in
    let all : length c.args.bytes.now ≡ c.args.end = sym (c.requires.ends ∙ ap (λ n. n + length c.args.bytes.now) can.0 ∙ omega arith) in
    subst (λ (l : StreamLinks). LacksRoomFor c.args.id l c.args.end c.args.mini.now) (sym c.in-Short.is) (subst (λ n. LacksRoomFor c.args.id (Short c.in-Short.minis) n c.args.mini.now) all (c.in-Err.ensures.full_only_if (ap Err is) live))
