use Rattle.std.proofs.Common.{◌≡◌, inl, inr, refl, ap, sym, subst, ◌∙◌, ⊎_elim, chars, IsTrue}
use Rattle.cfb_medium.specs.Times.{units_of}
use Rattle.cfb_tree.specs.Changes.{added}
use Rattle.cfb_tree.specs.Entries.{new_entry}
use Rattle.cfb_tree.specs.EntryViews.{kind_of}
use Rattle.cfb_tree.specs.CaseTableViews.{case_table_of}
use Rattle.cfb_tree.specs.Names.{is_name}
use Rattle.cfb_siblings.specs.Places.{path_to, IsStorageAt}
use Rattle.cfb_siblings.specs.Changes.{HoldsOneMore, IsAlone}
use Rattle.cfb_siblings.specs.Reading.{ReadBy}
use Rattle.cfb_siblings.proofs.Leading.{last_of_path, parent_of_path}
use Rattle.cfb_sectors.specs.Sectors.{end_of_chain}
use Rattle.cfb_spec.specs.TreeRules.{done}
use Rattle.cfb_directory.specs.Children.{AddsAt, HoldsStorage}
use Rattle.cfb_directory.specs.Views.{entries_held}
use Rattle.cfb_mini.specs.Views.{directory_of}
use Rattle.cfb_tree_edits.specs.Live.{live_of}
use Rattle.cfb_tree_edits.specs.Orphans.{FileBecomesTree}
use Rattle.cfb_tree_edits.specs.Making.{kind_made, moment_made, object_of}
use Rattle.cfb_tree_edits.proofs.Made.{alone, has_root, made_comes, named, starts_nowhere}
use Rattle.cfb_tree_edits.proofs.SetFacts.{means_held, means_ids}
use Rattle.cfb_tree_edits.proofs.Streams.{reads, reads_nothing}
use Rattle.cfb_tree_edits.proofs.making.make_child.Goals as goal

pub returns-in-Err-clause-refused_only_if : goal.returns-in-Err-clause-refused_only_if
returns-in-Err-clause-refused_only_if g c = λ tree path m free.
    let it = c.args.mini.now in
    let l = case_table_of c.args.letters.now in
    let Reads = reads (live_of it) m.who in
    let name = chars c.args.name.now in
    let storage : HoldsStorage l Reads (entries_held (directory_of it)) tree path c.args.parent = record {
      holds = means_held l it tree m;
      storage = subst (λ p. IsStorageAt l (entries_held (directory_of it)) p c.args.parent) (parent_of_path path name) free.storage;
    } in
    ⊎_elim
    (λ fault. inl fault)
    (⊎_elim
    (λ full. inr full)
    (⊎_elim
    (λ taken. absurd (taken.1 free.free))
    (λ invalid. absurd (invalid.1 (subst (λ n. IsTrue (is_name n)) (last_of_path path name) free.valid)))))
    (c.in-Err.ensures.refused_only_if Reads tree path m.who.sectors storage m.owners (record { orderly = m.orderly; sizes = m.sizes }))

pub returns-clause-made : goal.returns-clause-made
returns-clause-made g c = λ tree path m free.
    let it = c.args.mini.now in
    let l = case_table_of c.args.letters.now in
    let Reads = reads (live_of it) m.who in
    let name = chars c.args.name.now in
    let storage : HoldsStorage l Reads (entries_held (directory_of it)) tree path c.args.parent = record {
      holds = means_held l it tree m;
      storage = subst (λ p. IsStorageAt l (entries_held (directory_of it)) p c.args.parent) (parent_of_path path name) free.storage;
    } in
    let whole = path_to path name in
    let new = c.insert_dir_entry.new.self in
    let object = c.args.object in
    let valid = subst (λ n. IsTrue (is_name n)) (last_of_path path name) free.valid in
    let made = new_entry name (kind_made object) (moment_made object) in
    let id = c.in-Ok.id in
    let entry_is : new_entry name (kind_of c.obj_type.result) (units_of c.moment.result) ≡ made = ap (λ k. new_entry name k (units_of c.moment.result)) c.obj_type.ensures ∙ ap (new_entry name (kind_made object)) c.moment.ensures in
    let adds = subst (λ e. AddsAt (entries_held (directory_of it)) (entries_held (directory_of new)) e id) entry_is c.in-Ok.ensures.entry in
    let alone_is = subst (λ e. IsAlone (ReadBy Reads) e (object_of object name)) (sym entry_is) (alone Reads object name c.spells_scalars.ensures valid (reads_nothing (live_of it) m.who end_of_chain)) in
    let later = added l (object_of object name) whole tree in
    let more : HoldsOneMore l (ReadBy Reads) (entries_held (directory_of it)) (entries_held (directory_of new)) later m.held.ids whole id = subst (λ ids. HoldsOneMore l (ReadBy Reads) (entries_held (directory_of it)) (entries_held (directory_of new)) later ids whole id) (means_ids l it tree m)
    (c.in-Ok.ensures.added Reads tree path (object_of object name) storage alone_is (named object name)) in
    let rule = free.rule object ∙ ap (λ n. (added l (object_of object n) whole tree, done)) (last_of_path path name) in
    let there = adds.entry in
    record {
      makes = record {
        accepted = ap (λ o. o.1) rule;
        comes = subst (FileBecomesTree l it new m.who) (sym (ap (λ o. o.0) rule))
            (made_comes l it tree later m new made whole id adds more refl (starts_nowhere object name) c.insert_dir_entry.ensures.invariants c.in-Ok.ensures.error_contract.live.1 (c.in-Ok.ensures.changes m.who.sectors m.owners (has_root l it tree later m)));
      };
      leads = more.at_path;
      entry = there.0;
      found = there.1;
      of_kind = there.2.kind;
    }
