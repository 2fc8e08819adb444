use Rattle.std.proofs.Common.{refl, sym, subst}
use Rattle.cfb_sectors.specs.Header.{HasFields, IsHeader}
use Rattle.cfb_sectors.specs.HeaderViews.{fields_of}
use Rattle.cfb_opening.proofs.Fronts.{fields_of_front, front_of_header, served_front}
use Rattle.cfb_opening.proofs.tables.read_header.Goals as goal

pub returns-in-Ok-clause-read : goal.returns-in-Ok-clause-read
returns-in-Ok-clause-read g c = λ honest.
    let front = served_front (g.F.ReadMedium.bytes c.args.medium.now) _ c.read_at.new.buffer c.in_ok-count.count refl (c.in_ok-count.ensures.serves honest) in
    fields_of_front (fields_of c.in-Ok.header) (g.F.ReadMedium.bytes c.args.medium.now) (subst (HasFields (fields_of c.in-Ok.header)) front c.in-Ok.ensures.read)

pub returns-in-Err-clause-none : goal.returns-in-Err-clause-none
returns-in-Err-clause-none g c = λ wrong honest version header.
    let front = served_front (g.F.ReadMedium.bytes c.args.medium.now) _ c.read_at.new.buffer c.in_ok-count.count refl (c.in_ok-count.ensures.serves honest) in
    let never = c.in-Err.ensures.whole.1 (version, (subst (IsHeader version) (sym front) (front_of_header version (g.F.ReadMedium.bytes c.args.medium.now) header), tt)) in
    absurd (cc)
