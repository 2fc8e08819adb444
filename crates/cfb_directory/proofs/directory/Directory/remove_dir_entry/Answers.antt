use Rattle.std.proofs.Common.{◌≡◌, chars, ap, sym, subst}
use Rattle.cfb_siblings.specs.Places.{IsPlace, IsStorageAt, NameIsTaken}
use Rattle.cfb_siblings.specs.Reading.{ReadBy}
use Rattle.cfb_tree.specs.CaseTableViews.{case_table_of}
use Rattle.cfb_tree.specs.Objects.{EntriesHoldTree}
use Rattle.cfb_directory.specs.Entries.{entries_in}
use Rattle.cfb_directory.specs.Views.{entries_held}
use Rattle.cfb_directory.proofs.Results.{two_ok}
use Rattle.cfb_directory.proofs.directory.Directory.remove_dir_entry.Goals as goal

pub returns-in-Some-Free-clause-missing : goal.returns-in-Some-Free-clause-missing
returns-in-Some-Free-clause-missing g c = λ wrong reads tree path has.
    let l = case_table_of c.args.letters.now in
    let same : entries_in c.deref.result.now ≡ entries_held c.args.self.now = ap entries_in c.deref.ensures.value in
    let place = c.in-Some-Free.ensures reads tree path (subst (λ es. EntriesHoldTree l (ReadBy reads) es tree) (sym same) has.holds) (subst (λ es. IsStorageAt l es path c.args.parent) (sym same) has.storage) in
    (subst (IsPlace (ReadBy reads) l (entries_in c.deref.result.now) tree path c.args.parent (chars c.args.name.now)) c.in-Some-Free.field-0-is place).2

pub returns-in-None-clause-refused_only_if : goal.returns-in-None-clause-refused_only_if
returns-in-None-clause-refused_only_if g c = λ wrong reads tree path has ready.
    let l = case_table_of c.args.letters.now in
    let same : entries_in c.deref.result.now ≡ entries_held c.args.self.now = ap entries_in c.deref.ensures.value in
    c.in-None.ensures reads tree path (subst (λ es. EntriesHoldTree l (ReadBy reads) es tree) (sym same) has.holds) (subst (λ es. IsStorageAt l es path c.args.parent) (sym same) has.storage)

pub returns-clause-removed : goal.returns-clause-removed
returns-clause-removed g c =
    two_ok c.unlink_dir_entry.result _ _ _ (λ removes at reads tree path has.
    let l = case_table_of c.args.letters.now in
    let name = chars c.args.name.now in
    let same : entries_in c.deref.result.now ≡ entries_held c.args.self.now = ap entries_in c.deref.ensures.value in
    let place = c.in-Some-Taken.ensures reads tree path (subst (λ es. EntriesHoldTree l (ReadBy reads) es tree) (sym same) has.holds) (subst (λ es. IsStorageAt l es path c.args.parent) (sym same) has.storage) in
    let here = subst (IsPlace (ReadBy reads) l (entries_in c.deref.result.now) tree path c.args.parent name) c.in-Some-Taken.field-0-is place in (
      c.in-Some-Taken.id,
      removes l reads tree path c.args.parent name (record { within = has; taken = subst (λ es. NameIsTaken l es c.args.parent name c.in-Some-Taken.link c.in-Some-Taken.id) same here.0 }),
      at,
    ))
    c.unlink_dir_entry.ensures.removed c.unlink_dir_entry.ensures.entry

pub returns-clause-refused_only_if : goal.returns-clause-refused_only_if
returns-clause-refused_only_if g c = λ wrong reads tree path has ready.
    let l = case_table_of c.args.letters.now in
    let name = chars c.args.name.now in
    let same : entries_in c.deref.result.now ≡ entries_held c.args.self.now = ap entries_in c.deref.ensures.value in
    let place = c.in-Some-Taken.ensures reads tree path (subst (λ es. EntriesHoldTree l (ReadBy reads) es tree) (sym same) has.holds) (subst (λ es. IsStorageAt l es path c.args.parent) (sym same) has.storage) in
    let here = subst (IsPlace (ReadBy reads) l (entries_in c.deref.result.now) tree path c.args.parent name) c.in-Some-Taken.field-0-is place in
    c.unlink_dir_entry.ensures.refused_only_if wrong l reads tree path c.args.parent name
    (record { within = has; taken = subst (λ es. NameIsTaken l es c.args.parent name c.in-Some-Taken.link c.in-Some-Taken.id) same here.0 }) ready
