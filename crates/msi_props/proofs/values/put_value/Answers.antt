use Rattle.std.proofs.Common.{arith, ◌∙◌, sym, ap, map}
use Rattle.msi_props.specs.Held.{pair_in, property_in}
use Rattle.msi_props.proofs.Putting.{put_over, put_before}
use Rattle.msi_props.proofs.values.put_value.Goals as goal

pub returns-then-stands_at-clause-ok : goal.returns-then-stands_at-clause-ok
returns-then-stands_at-clause-ok c =
    let old = rw c.deref-2.ensures.value at (c.stands_at.ensures.there c.if-stands_at.true) in
    let split = rw c.deref.ensures.value at (c.place_of-place.ensures.split (property_in c.args.value)) in
    sym (split ∙ put_over c.args.number c.args.value c.args.values.now.items c.place_of-place.result old.0 old.1 old.2)

pub returns-in_ok-insert-clause-ok : goal.returns-in_ok-insert-clause-ok
returns-in_ok-insert-clause-ok c =
    let found = rw c.deref.ensures.value at c.place_of-place.ensures.found in
    let other = rw c.deref-2.ensures.value at (c.stands_at.ensures.other c.if-stands_at.false) in
    let split = rw c.deref.ensures.value at (c.place_of-place.ensures.split (property_in c.args.value)) in
    let within = rw c.deref.ensures.value at c.place_of-place.ensures.within in
    ap (map pair_in) c.in_ok-insert.ensures.items ∙ sym (split ∙ put_before c.args.number c.args.value c.args.values.now.items c.place_of-place.result within (λ e at. omega (arith, found e at, other e at)))
