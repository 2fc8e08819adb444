use Rattle.std.proofs.Common.{◌≡◌, ◌<◌, ap, sym, subst, ◌∙◌, arith, rules, length}
use Rattle.std.proofs.lemmas.List.{length-map}
use Rattle.cfb_medium.specs.Versions.{stream_len_mask}
use Rattle.cfb_sectors.proofs.Appending.{on_ok}
use Rattle.cfb_tree.specs.Directory.{Entry}
use Rattle.cfb_tree.specs.EntryViews.{entry_in}
use Rattle.cfb_tree.proofs.OneContent.{Some_same}
use Rattle.cfb_siblings.proofs.Entries.{found_in}
use Rattle.cfb_directory.specs.Changes.{changed_entry, SetsEntry}
use Rattle.cfb_directory.specs.Views.{entries_held, numbers_noted}
use Rattle.cfb_directory.proofs.Noted.{changed_kind, noted_same}
use Rattle.cfb_directory.proofs.directory.Directory.with_dir_entry_mut.Goals as goal

pub write_entry-requires-clause-noted : goal.write_entry-requires-clause-noted
write_entry-requires-clause-noted g c =
    let old = c.args.self.now in
    let below : c.args.id < length old.entries.items.items = let size = length-map old.entries.items.items entry_in in let there = c.requires in omega (arith, size, there) in
    let there = found_in old.entries.items.items c.args.id c.index.result.now below (search rules) in
    noted_same (numbers_noted old) (entries_held old) c.args.id (entry_in c.index.result.now) (entry_in c.apply_to.new.entry) there
    (ap (λ (x : Entry). x.kind) c.apply_to.ensures ∙ changed_kind c.args.change (entry_in c.index.result.now)) old.entries.noted

pub returns-clause-set : goal.returns-clause-set
returns-clause-set g c =
    on_ok c.write_entry.result _ _ (λ did e found.
    let old = c.args.self.now in
    let below : c.args.id < length old.entries.items.items = let size = length-map old.entries.items.items entry_in in let there = c.requires in omega (arith, size, there) in
    let there = found_in old.entries.items.items c.args.id c.index.result.now below (search rules) in
    let same : entry_in c.apply_to.new.entry ≡ changed_entry c.args.change e = c.apply_to.ensures ∙ ap (changed_entry c.args.change) (Some_same (sym there ∙ found)) in
    subst (λ x. SetsEntry {g = g.F.ReadMedium} c.args.id x old c.write_entry.new.self) same did)
    c.write_entry.ensures.set

pub returns-clause-large : goal.returns-clause-large
returns-clause-large g c = λ e found.
    let old = c.args.self.now in
    let below : c.args.id < length old.entries.items.items = let size = length-map old.entries.items.items entry_in in let there = c.requires in omega (arith, size, there) in
    let there = found_in old.entries.items.items c.args.id c.index.result.now below (search rules) in
    let same : entry_in c.apply_to.new.entry ≡ changed_entry c.args.change e = c.apply_to.ensures ∙ ap (changed_entry c.args.change) (Some_same (sym there ∙ found)) in
    let size = ap (λ (x : Entry). x.size) same in
    let most = c.stream_len_mask.ensures ∙ ap stream_len_mask c.version.ensures in
    let few = c.if-entry-stream_len_mask.false in
    ((λ wrong. absurd (c.write_entry.ensures.valid wrong)), (λ (live, past). absurd (omega (arith, size, most, few, past))))
