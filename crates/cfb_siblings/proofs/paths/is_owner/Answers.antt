use Rattle.std.specs.Prelude.{map}
use Rattle.std.proofs.Common.{refl, sym, ◌∙◌}
use Rattle.cfb_tree.specs.EntryViews.{entry_in}
use Rattle.cfb_tree.specs.declared.kinds.ObjType.TheVariants.{Stream}
use Rattle.cfb_siblings.proofs.Entries.{found_in}
use Rattle.cfb_siblings.proofs.Following.{is_owner_found, not_stream}
use Rattle.cfb_siblings.proofs.paths.is_owner.Goals as goal

pub returns-in-Some-obj_type : goal.returns-in-Some-obj_type
returns-in-Some-obj_type c =
    let at = c.in-Some.ensures.lookup in
    let both = not_stream c.as_byte.result (entry_in c.in-Some.entry.now).kind (c.as_byte.ensures ∙ sym c.in-Some-obj_type.ensures) in
    is_owner_found (map entry_in c.args.entries.now) c.args.id (entry_in c.in-Some.entry.now) _
    (found_in c.args.entries.now c.args.id c.in-Some.entry.now at.3.0 at.1) both.0 both.1

pub returns-in-None : goal.returns-in-None
returns-in-None c =
    let at = c.in-Some.ensures.lookup in
    is_owner_found (map entry_in c.args.entries.now) c.args.id (entry_in c.in-Some.entry.now) _
    (found_in c.args.entries.now c.args.id c.in-Some.entry.now at.3.0 at.1) (λ so kind. c.in-None.ensures Stream kind) (λ no. refl)
