use Rattle.std.proofs.Common.{◌≡◌, ap, sym, subst, ◌∙◌}
use Rattle.std.specs.Prelude.{slice_get, Some}
use Rattle.cfb_sectors.proofs.Appending.{on_ok}
use Rattle.cfb_siblings.specs.Links.{holder}
use Rattle.cfb_siblings.proofs.Entries.{found_in}
use Rattle.cfb_tree.specs.EntryViews.{entry_in}
use Rattle.cfb_directory.specs.Changes.{SetsEntry}
use Rattle.cfb_directory.specs.Entries.{entries_in}
use Rattle.cfb_directory.specs.Views.{entries_held, numbers_noted}
use Rattle.cfb_tree.specs.Directory.{Entry}
use Rattle.cfb_directory.proofs.Noted.{linked_kind, noted_same}
use Rattle.cfb_directory.proofs.directory.Directory.write_link.Goals as goal

pub write_entry-requires-clause-noted : goal.write_entry-requires-clause-noted
write_entry-requires-clause-noted g c =
    let old = c.args.self.now in
    let e = entry_in c.in-Some.entry.now in
    let at = c.in-Some.ensures.lookup in
    let found : slice_get (entries_held old) c.holder-id.result ≡ Some e =
    ap (λ l. slice_get (entries_in l) c.holder-id.result) (sym c.deref.ensures.value) ∙ found_in c.deref.result.now c.holder-id.result c.in-Some.entry.now at.3.0 at.1 in
    noted_same (numbers_noted old) (entries_held old) c.holder-id.result e (entry_in c.relink.new.entry) found
    (ap (λ (x : Entry). x.kind) c.relink.ensures ∙ linked_kind c.args.link c.args.target e) old.entries.noted

pub returns-clause-set : goal.returns-clause-set
returns-clause-set g c =
    on_ok c.write_entry.result _ _ (λ did.
    let old = c.args.self.now in
    let e = entry_in c.in-Some.entry.now in
    let at = c.in-Some.ensures.lookup in
    let found : slice_get (entries_held old) (holder c.args.link) ≡ Some e =
    ap (λ l. slice_get (entries_in l) (holder c.args.link)) (sym c.deref.ensures.value) ∙ ap (slice_get (entries_in c.deref.result.now)) (sym c.holder-id.ensures)
    ∙ found_in c.deref.result.now c.holder-id.result c.in-Some.entry.now at.3.0 at.1 in (
      e,
      found,
      subst (λ x. SetsEntry {g = g.F.ReadMedium} (holder c.args.link) x old c.write_entry.new.self) c.relink.ensures
          (subst (λ n. SetsEntry {g = g.F.ReadMedium} n (entry_in c.relink.new.entry) old c.write_entry.new.self) c.holder-id.ensures did),
    ))
    c.write_entry.ensures.set
