use Rattle.std.proofs.Common.{rules, length, replicate, ◌≡◌, ◌-◌, arith, length-take, length-drop, ap, ◌∙◌}
use Rattle.cfb_sectors.proofs.Parts.{served_filled}
use Rattle.cfb_sectors.proofs.sectors.Sectors.read_filled.Goals as goal

pub returns-clause-read : goal.returns-clause-read
returns-clause-read g c = λ honest.
    let long : length c.read_at.new.buffer ≡ length c.args.buffer.now = search rules in
    let many = c.in_ok-count.ensures.within in
    let zeros : c.fill.new.self ≡ replicate (length c.args.buffer.now - c.in_ok-count.count) 0 =
    c.fill.ensures.after (λ y e. search rules) ∙ ap (λ n. replicate n 0) (simp (length-take, length-drop) (omega arith)) in
    served_filled _ c.args.buffer.now c.read_at.new.buffer c.fill.new.self c.args.place c.in_ok-count.count (c.in_ok-count.ensures.serves honest) long zeros
