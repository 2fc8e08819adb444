use Rattle.std.proofs.Common.{◌≡◌, ◌∙◌, ap, refl, sym, subst, arith}
use Rattle.std.specs.Prelude.{Err}
use Rattle.cfb_chains.specs.ChainCalls.{IsInvalid}
use Rattle.cfb_fat.specs.OnlyReads.{all_rest_refl}
use Rattle.cfb_fat.specs.Tables.{version_of}
use Rattle.cfb_medium.specs.declared.error.Error.TheVariants.{InvalidData}
use Rattle.cfb_chain_io.proofs.GoingOn.{goes_then, rests_go_on}
use Rattle.cfb_sectors.proofs.Appending.{on_ok}
use Rattle.cfb_siblings.specs.Changes.{TakesOut}
use Rattle.cfb_siblings.specs.Places.{path_to, IsStorageAt, NameIsTaken}
use Rattle.cfb_siblings.specs.Reading.{ReadBy}
use Rattle.cfb_tree.specs.Objects.{EntriesHoldTree}
use Rattle.cfb_directory.specs.Children.{HoldsChild}
use Rattle.cfb_directory.specs.Entries.{entries_in, SizesFit}
use Rattle.cfb_directory.specs.Turning.{AreAs, HoldChild}
use Rattle.cfb_directory.specs.Views.{allocator_of, entries_held}
use Rattle.cfb_directory.proofs.Growing.{none_grown}
use Rattle.cfb_directory.proofs.Inserted.{removes_at, there}
use Rattle.cfb_directory.proofs.Stages.{grows_more}
use Rattle.cfb_directory.proofs.Turned.{answers_then, kept_or_failed, ready_still, removes_still, removes_then, writes_then}
use Rattle.cfb_directory.proofs.directory.Directory.unlink_dir_entry.Goals as goal

pub returns-in-Err-sink-clause-refused_only_if : goal.returns-in-Err-sink-clause-refused_only_if
returns-in-Err-sink-clause-refused_only_if g c = λ wrong l reads tree path parent name child ready.
    let same = c.note.ensures.same in
    let is : c.in-Err-sink.error ≡ InvalidData = cc in
    c.in-Err-sink.ensures.refused_only_if (ap Err is) l reads tree path parent name (subst (λ es. HoldsChild l reads es tree path parent name c.args.link c.args.id) (sym same) child)
    (record { chain = ready.has.chain; entries = same ∙ ready.has.entries }) (subst (SizesFit (version_of (allocator_of c.args.self.now))) (sym same) ready.sizes)

pub returns-in_default-plan_removal-clause-refused_only_if : goal.returns-in_default-plan_removal-clause-refused_only_if
returns-in_default-plan_removal-clause-refused_only_if g c = λ wrong l reads tree path parent name child ready.
    let id = c.args.id in
    let mid = entries_held c.sink.new.self in
    let keeps = subst (λ es. HoldChild es mid c.args.link c.in-Ok.link id) c.note.ensures.same c.in-Ok.ensures.holds in
    let now = keeps l reads tree path parent name child in
    let same : entries_in c.deref.result.now ≡ mid = ap entries_in c.deref.ensures.value in
    c.in_default-plan_removal.ensures reads l tree path parent name (subst (λ es. EntriesHoldTree l (ReadBy reads) es tree) (sym same) now.0.holds.holds)
    (subst (λ es. IsStorageAt l es path parent) (sym same) now.0.storage) (subst (λ es. NameIsTaken l es parent name c.in-Ok.link id) (sym same) now.1)

pub returns-clause-removed : goal.returns-clause-removed
returns-clause-removed g c =
    let id = c.args.id in
    let mid = entries_held c.sink.new.self in
    let keeps = subst (λ es. HoldChild es mid c.args.link c.in-Ok.link id) c.note.ensures.same c.in-Ok.ensures.holds in
    let same : entries_in c.deref.result.now ≡ mid = ap entries_in c.deref.ensures.value in
    on_ok c.take_out.result _ _
    (λ taken. removes_then (entries_held c.args.self.now) mid (entries_held c.take_out.new.self) c.args.link c.in-Ok.link id c.in-Some.removal keeps
    (λ l reads tree path parent name h.
    let plan = subst (λ es. (h : EntriesHoldTree l (ReadBy reads) es tree) → IsStorageAt l es path parent → NameIsTaken l es parent name c.in-Ok.link id
    → TakesOut l (ReadBy reads) es tree h.ids (path_to path name) id c.in-Some.removal) same (λ h s t. c.in-Some.ensures reads l tree path parent name h s t) in
    plan h.within.holds h.within.storage h.taken) taken) c.take_out.ensures.taken

pub returns-clause-entry : goal.returns-clause-entry
returns-clause-entry g c =
    let id = c.args.id in
    let old = c.args.self.now in
    let mid = entries_held c.sink.new.self in
    let alike = subst (λ es. AreAs es mid) c.note.ensures.same c.in-Ok.ensures.links.alike in
    let below = there old.entries.items.items id (let past = c.if-id-len.false in let size = c.len.ensures in omega (arith, past, size)) in
    on_ok c.take_out.result _ _
    (λ taken. removes_still (entries_held old) mid (entries_held c.take_out.new.self) id alike
    (removes_at c.in-Some.removal mid (entries_held c.take_out.new.self) id (let len = alike.len in omega (arith, below, len)) taken)) c.take_out.ensures.taken

pub returns-clause-refused_only_if : goal.returns-clause-refused_only_if
returns-clause-refused_only_if g c = λ wrong l reads tree path parent name child ready.
    let id = c.args.id in
    let it = c.args.self.now in
    let noted = record it { entries = c.note.new.self } in
    let mid = entries_held c.sink.new.self in
    let keeps = subst (λ es. HoldChild es mid c.args.link c.in-Ok.link id) c.note.ensures.same c.in-Ok.ensures.holds in
    let now = keeps l reads tree path parent name child in
    let same : entries_in c.deref.result.now ≡ mid = ap entries_in c.deref.ensures.value in
    let plan = subst (λ es. (h : EntriesHoldTree l (ReadBy reads) es tree) → IsStorageAt l es path parent → NameIsTaken l es parent name c.in-Ok.link id
    → TakesOut l (ReadBy reads) es tree h.ids (path_to path name) id c.in-Some.removal) same (λ h s t. c.in-Some.ensures reads l tree path parent name h s t) in
    let out = plan now.0.holds.holds now.0.storage now.1 in
    c.take_out.ensures.refused_only_if wrong
    (ready_still noted c.sink.new.self c.sink.ensures.invariants c.in-Ok.ensures.error_contract.live.1 c.in-Ok.ensures.links (record {
      has = record { chain = ready.has.chain; entries = c.note.ensures.same ∙ ready.has.entries };
      orderly = ready.orderly;
      sizes = subst (SizesFit (version_of (allocator_of it))) (sym c.note.ensures.same) ready.sizes;
    })) (record { replaced = out.replaced; joined = out.joined })

pub returns-clause-grown : goal.returns-clause-grown
returns-clause-grown g c =
    let it = c.args.self.now in
    let a = allocator_of it in
    let noted = record it { entries = c.note.new.self } in
    on_ok c.take_out.result _ _
    (λ written has. grows_more it noted c.take_out.new.self (rests_go_on a a (all_rest_refl a)) (none_grown it noted refl refl c.note.ensures.same has)
    (writes_then noted c.sink.new.self c.take_out.new.self c.sink.ensures.invariants c.in-Ok.ensures.links.written written)) c.take_out.ensures.written

pub returns-clause-invariants : goal.returns-clause-invariants
returns-clause-invariants g c = goes_then _ _ _ c.sink.ensures.invariants c.take_out.ensures.invariants

pub returns-clause-memory : goal.returns-clause-memory
returns-clause-memory g c =
    kept_or_failed c.take_out.result c.args.self.now c.take_out.new.self (returns-clause-invariants g c) (returns-clause-grown g c) c.take_out.ensures.when_failed

pub returns-clause-error_contract : goal.returns-clause-error_contract
returns-clause-error_contract g c =
    answers_then IsInvalid c.take_out.result (allocator_of c.args.self.now) (allocator_of c.sink.new.self) (allocator_of c.take_out.new.self)
    c.sink.ensures.invariants c.in-Ok.ensures.error_contract.live.0 c.in-Ok.ensures.error_contract.live.1 c.take_out.ensures.when_failed c.take_out.ensures.error_contract
