use Rattle.std.proofs.Common.{◌≡◌, ◌++◌, ap, sym, ◌∙◌}
use Rattle.std.specs.Int.{w32, w64, to_le_bytes}
use Rattle.cfb_sectors.proofs.Appending.{appended_2, appended_3, on_ok, Begins-append, Begins-then}
use Rattle.cfb_tree.specs.Directory.{entry_bytes}
use Rattle.cfb_tree.specs.EntryViews.{entry_in}
use Rattle.cfb_tree.proofs.FieldSteps.{entry_parts}
use Rattle.cfb_tree.proofs.entry.DirEntry.append_to.Goals as goal

pub returns-clause-ok : goal.returns-clause-ok
returns-clause-ok c =
    let e = entry_in c.args.self.now in
    let first = c.args.out.now.items in
    let before = c.extend_from_slice.new.self.items in
    let end = c.append_tail.new.out.items in
    on_ok c.append_tail.result
    (end ≡ before ++ (to_le_bytes w32 e.facts.state_bits ++ to_le_bytes w64 e.facts.created ++ to_le_bytes w64 e.facts.modified ++ to_le_bytes w32 e.start ++ to_le_bytes w64 e.size))
    (end ≡ first ++ entry_bytes e)
    (λ last. appended_3 first c.append_head.new.out.items before end _ _ _ c.in_ok-append_head.ensures.ok (rw c.to_bytes_le.ensures at c.in_ok-extend_from_slice.ensures.items) last
    ∙ ap (λ xs. first ++ xs) (sym (entry_parts e)))
    c.append_tail.ensures.ok

pub returns-clause-kept : goal.returns-clause-kept
returns-clause-kept c =
    Begins-then _ _ _ (Begins-append _ _ _ (appended_2 c.args.out.now.items c.append_head.new.out.items c.extend_from_slice.new.self.items _ _
    c.in_ok-append_head.ensures.ok c.in_ok-extend_from_slice.ensures.items)) c.append_tail.ensures.kept
