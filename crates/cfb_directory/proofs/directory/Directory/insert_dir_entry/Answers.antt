use Rattle.std.proofs.Common.{◌≡◌, ◌⊎◌, true, false, inl, inr, ⊎_elim, chars, ap, sym, subst, ◌∙◌, Some, None, Err}
use Rattle.cfb_fat.specs.Tables.{version_of}
use Rattle.cfb_medium.specs.declared.error.Error.TheVariants.{AlreadyExists, InvalidData, InvalidInput}
use Rattle.cfb_chain_io.proofs.GoingOn.{goes_cause, goes_then}
use Rattle.cfb_siblings.specs.Places.{path_to, HasEntry, IsFree, IsPlace, IsStorageAt}
use Rattle.cfb_siblings.specs.Links.{holder}
use Rattle.cfb_siblings.specs.Reading.{ReadBy}
use Rattle.cfb_tree.specs.Changes.{added}
use Rattle.cfb_tree.specs.Directory.{Entry}
use Rattle.cfb_tree.specs.EntryViews.{entry_in}
use Rattle.cfb_tree.specs.CaseTableViews.{case_table_of}
use Rattle.cfb_tree.specs.Objects.{name_of, EntriesHoldTree}
use Rattle.cfb_directory.specs.Children.{AddsAt, LinksNew}
use Rattle.cfb_directory.specs.Entries.{entries_in, SizesFit}
use Rattle.cfb_directory.specs.Views.{allocator_of, entries_held}
use Rattle.cfb_directory.proofs.Growing.{grown_kept}
use Rattle.cfb_directory.proofs.Inserted.{Inserts, inserted_holds_tree, inserted_others}
use Rattle.cfb_directory.proofs.Setting.{failed_is}
use Rattle.cfb_directory.proofs.Stages.{grows_more}
use Rattle.cfb_directory.proofs.Turned.{adds_child, adds_still, no_name}
use Rattle.cfb_directory.proofs.directory.Directory.insert_dir_entry.Goals as goal

pub returns-in-Some-Taken-clause-taken : goal.returns-in-Some-Taken-clause-taken
returns-in-Some-Taken-clause-taken g c = λ wrong reads tree path has none.
    let h = has.holds in
    let s = has.storage in
    let l = case_table_of c.args.letters.now in
    let same : entries_in c.deref.result.now ≡ entries_held c.args.self.now = ap entries_in c.deref.ensures.value in
    let place = c.in-Some-Taken.ensures reads tree path (subst (λ es. EntriesHoldTree l (ReadBy reads) es tree) (sym same) h) (subst (λ es. IsStorageAt l es path c.args.parent) (sym same) s) in
    let at = subst (IsPlace (ReadBy reads) l (entries_in c.deref.result.now) tree path c.args.parent (chars c.args.name.now)) c.in-Some-Taken.field-0-is place in
    let never : Some at.2 ≡ None = sym at.3 ∙ none in absurd (cc)

pub returns-clause-added : goal.returns-clause-added
returns-clause-added g c =
    let l = case_table_of c.args.letters.now in
    let name = chars c.args.name.now in
    let id = c.in-Ok.id in
    let old = entries_held c.args.self.now in
    let mid = entries_held c.add_child.new.self in
    let same : entries_in c.deref.result.now ≡ old = ap entries_in c.deref.ensures.value in
    adds_child l old mid (entries_held c.rise.new.self) c.args.parent _ name id (λ reads tree path object has alone named.
    let place = c.in-Some-Free.ensures reads tree path (subst (λ es. EntriesHoldTree l (ReadBy reads) es tree) (sym same) has.holds) (subst (λ es. IsStorageAt l es path c.args.parent) (sym same) has.storage) in
    let at = subst (IsPlace (ReadBy reads) l (entries_in c.deref.result.now) tree path c.args.parent name) c.in-Some-Free.field-0-is place in
    let free = subst (λ es. IsFree l es c.args.parent (name_of object) c.in-Some-Free.link) same (subst (λ n. IsFree l (entries_in c.deref.result.now) c.args.parent n c.in-Some-Free.link) (sym named) at.0) in
    subst (λ n. Inserts l (ReadBy reads) old mid (added l object (path_to path n) tree) has.holds.ids path c.args.parent n id) named
    (inserted_holds_tree reads l tree path c.args.parent c.in-Some-Free.link _ object alone (version_of (allocator_of c.args.self.now)) old mid id
    (subst (λ e. LinksNew (version_of (allocator_of c.args.self.now)) c.in-Some-Free.link e old mid id) c.new.ensures c.in-Ok.ensures.added) has.holds has.storage free))
    c.in_default-rise.ensures.holds

pub returns-clause-entry : goal.returns-clause-entry
returns-clause-entry g c =
    let old = entries_held c.args.self.now in
    let mid = entries_held c.add_child.new.self in
    let id = c.in-Ok.id in
    adds_still old mid (entries_held c.rise.new.self) _ id
    (subst (λ e. AddsAt old mid e id) c.new.ensures (inserted_others (version_of (allocator_of c.args.self.now)) c.in-Some-Free.link (entry_in c.new.result) old mid id c.in-Ok.ensures.added))
    c.in_default-rise.ensures.links.alike

pub returns-clause-grown : goal.returns-clause-grown
returns-clause-grown g c = λ has.
    grows_more c.args.self.now c.add_child.new.self c.rise.new.self c.add_child.ensures.invariants (c.in-Ok.ensures.grown has) c.in_default-rise.ensures.links.written

pub returns-clause-invariants : goal.returns-clause-invariants
returns-clause-invariants g c = goes_then _ _ _ c.add_child.ensures.invariants c.rise.ensures.invariants

pub returns-clause-memory : goal.returns-clause-memory
returns-clause-memory g c = grown_kept c.args.self.now c.rise.new.self (returns-clause-invariants g c) (returns-clause-grown g c)

pub returns-in-None-clause-refused_only_if : goal.returns-in-None-clause-refused_only_if
returns-in-None-clause-refused_only_if g c = λ wrong reads tree path has ready.
    let l = case_table_of c.args.letters.now in
    let same : entries_in c.deref.result.now ≡ entries_held c.args.self.now = ap entries_in c.deref.ensures.value in
    c.in-None.ensures reads tree path (subst (λ es. EntriesHoldTree l (ReadBy reads) es tree) (sym same) has.holds) (subst (λ es. IsStorageAt l es path c.args.parent) (sym same) has.storage)

pub returns-in-Err-add_child-clause-refused_only_if : goal.returns-in-Err-add_child-clause-refused_only_if
returns-in-Err-add_child-clause-refused_only_if g c = λ wrong reads tree path has ready.
    let l = case_table_of c.args.letters.now in
    let same : entries_in c.deref.result.now ≡ entries_held c.args.self.now = ap entries_in c.deref.ensures.value in
    let place = c.in-Some-Free.ensures reads tree path (subst (λ es. EntriesHoldTree l (ReadBy reads) es tree) (sym same) has.holds) (subst (λ es. IsStorageAt l es path c.args.parent) (sym same) has.storage) in
    let at = subst (IsPlace (ReadBy reads) l (entries_in c.deref.result.now) tree path c.args.parent (chars c.args.name.now)) c.in-Some-Free.field-0-is place in
    let is : c.in-Err-add_child.error ≡ InvalidData = cc in
    c.in-Err-add_child.ensures.refused_only_if (ap Err is) ready (subst (λ es. HasEntry es (holder c.in-Some-Free.link)) same at.1)

pub returns-in-Err-rise-clause-only_reads : goal.returns-in-Err-rise-clause-only_reads
returns-in-Err-rise-clause-only_reads g c = λ wrong.
    let is : (c.in-Err-rise.error ≡ AlreadyExists) ⊎ (c.in-Err-rise.error ≡ InvalidInput) = ⊎_elim (λ w. inl (cc)) (λ w. inr (cc)) wrong in
    absurd (no_name c.in-Err-rise.error c.in-Err-rise.ensures.error_contract.fault is)

pub returns-in-Err-rise-clause-refused_only_if : goal.returns-in-Err-rise-clause-refused_only_if
returns-in-Err-rise-clause-refused_only_if g c = λ wrong reads tree path has ready.
    let v = version_of (allocator_of c.args.self.now) in
    let old = entries_held c.args.self.now in
    let mid = entries_held c.add_child.new.self in
    let adds = inserted_others v c.in-Some-Free.link (entry_in c.new.result) old mid c.in-Ok.id c.in-Ok.ensures.added in
    let small = ap (λ (x : Entry). x.size) c.new.ensures in
    let is : c.in-Err-rise.error ≡ InvalidData = cc in
    c.in-Err-rise.ensures.refused_only_if (ap Err is) (c.in-Ok.ensures.grown ready.has).has
    (subst (λ u. SizesFit u mid) (sym c.add_child.ensures.invariants.version) (adds.sizes v small ready.sizes))

pub returns-in-Err-rise-clause-memory : goal.returns-in-Err-rise-clause-memory
returns-in-Err-rise-clause-memory g c = λ held beside. failed_is _ c.in-Err-rise.ensures.when_failed

pub returns-in-Err-rise-clause-invariants : goal.returns-in-Err-rise-clause-invariants
returns-in-Err-rise-clause-invariants g c = goes_then _ _ _ c.add_child.ensures.invariants c.rise.ensures.invariants

pub returns-in-Err-rise-clause-error_contract : goal.returns-in-Err-rise-clause-error_contract
returns-in-Err-rise-clause-error_contract g c =
    let told = c.in-Err-rise.ensures.error_contract in
    let live = c.in-Ok.ensures.error_contract.live in
    record {
      live = tt;
      failed = λ wrong. let never : true ≡ false = sym wrong ∙ live.0 in absurd (cc);
      after = inl c.in-Err-rise.ensures.when_failed;
      cause = goes_cause (allocator_of c.args.self.now) (allocator_of c.add_child.new.self) (allocator_of c.rise.new.self) c.in-Err-rise.error c.add_child.ensures.invariants live.1 told.cause;
      fault = ⊎_elim (λ fault. inl fault) (λ is. inr (inr (inr (inr is)))) told.fault;
    }

pub returns-in-Err-clause-named : goal.returns-in-Err-clause-named
returns-in-Err-clause-named g c = λ wrong. (
  λ valid. let wrong = c.in-Err.ensures.valid.1 valid in absurd (cc),
  λ reads tree path has.
      let l = case_table_of c.args.letters.now in
      let same : entries_in c.deref.result.now ≡ entries_held c.args.self.now = ap entries_in c.deref.ensures.value in
      let place = c.in-Some-Free.ensures reads tree path (subst (λ es. EntriesHoldTree l (ReadBy reads) es tree) (sym same) has.holds) (subst (λ es. IsStorageAt l es path c.args.parent) (sym same) has.storage) in
      let at = subst (IsPlace (ReadBy reads) l (entries_in c.deref.result.now) tree path c.args.parent (chars c.args.name.now)) c.in-Some-Free.field-0-is place in
      at.2,
)
