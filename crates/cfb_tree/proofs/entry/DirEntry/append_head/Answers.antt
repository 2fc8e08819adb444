use Rattle.std.proofs.Common.{◌≡◌, ◌++◌, ◌∷◌, [], ap, ◌∙◌}
use Rattle.std.specs.Int.{w16, w32, to_le_bytes}
use Rattle.std.specs.List.{flat_map}
use Rattle.cfb_medium.specs.Numbers.{number_bytes}
use Rattle.cfb_sectors.proofs.Appending.{appended_3, appended_4, on_ok, Begins-append, Begins-then}
use Rattle.cfb_tree.proofs.FieldSteps.{regrouped}
use Rattle.cfb_tree.proofs.entry.DirEntry.append_head.Goals as goal

pub returns-clause-ok : goal.returns-clause-ok
returns-clause-ok c =
    let e = c.args.self.now in
    let first = c.args.out.now.items in
    let before = c.extend_from_slice.new.self.items in
    let end = c.push_u32s.new.out.items in
    on_ok c.push_u32s.result (end ≡ before ++ number_bytes (e.left_sibling ∷ e.right_sibling ∷ e.child ∷ []))
    (end ≡ first ++ (flat_map (to_le_bytes w16) e.name_units ++ (to_le_bytes w16 e.name_len ++ e.kind ∷ e.color ∷ to_le_bytes w32 e.left_sibling ++ to_le_bytes w32 e.right_sibling ++ to_le_bytes w32 e.child)))
    (λ last. appended_4 first c.push_u16s.new.out.items c.push_u16s-2.new.out.items before end _ _ _ _
    c.in_ok-push_u16s.ensures.ok c.in_ok-push_u16s-2.ensures.ok c.in_ok-extend_from_slice.ensures.items last ∙ ap (λ xs. first ++ xs) (regrouped (flat_map (to_le_bytes w16) e.name_units) _ _ _))
    c.push_u32s.ensures.ok

pub returns-clause-kept : goal.returns-clause-kept
returns-clause-kept c =
    Begins-then _ _ _ (Begins-append _ _ _ (appended_3 c.args.out.now.items c.push_u16s.new.out.items c.push_u16s-2.new.out.items c.extend_from_slice.new.self.items _ _ _
    c.in_ok-push_u16s.ensures.ok c.in_ok-push_u16s-2.ensures.ok c.in_ok-extend_from_slice.ensures.items)) c.push_u32s.ensures.kept
