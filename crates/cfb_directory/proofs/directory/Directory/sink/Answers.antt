use Rattle.std.proofs.Common.{◌≡◌, ap, sym, subst}
use Rattle.std.specs.Prelude.{Err}
use Rattle.cfb_medium.specs.declared.error.Error.TheVariants.{InvalidData}
use Rattle.cfb_fat.specs.OnlyReads.{all_rest_refl}
use Rattle.cfb_chain_io.proofs.GoingOn.{goes_then, rests_go_on}
use Rattle.cfb_siblings.specs.Rotations.{IsRotation}
use Rattle.cfb_directory.specs.Entries.{entries_in}
use Rattle.cfb_directory.specs.Turning.{HoldChild}
use Rattle.cfb_directory.specs.Views.{allocator_of, entries_held}
use Rattle.cfb_directory.proofs.Turned.{child_same, child_then, child_there, child_turned, child_within, sets_same, sets_then, sizes_still}
use Rattle.cfb_directory.proofs.directory.Directory.sink.Goals as goal

pub sinking-init : goal.sinking-init
sinking-init g c =
    let it = c.args.self.now in
    let a = allocator_of it in
    record {
      goes = rests_go_on a a (all_rest_refl a);
      live = c.requires;
      links = sets_same it;
      holds = child_same (entries_held it) c.args.link c.args.id;
    }

pub returns-in-Err-clause-refused_only_if : goal.returns-in-Err-clause-refused_only_if
returns-in-Err-clause-refused_only_if g c = λ wrong letters reads tree path parent name child has fits.
    let old = c.args.self.now in
    let mid = c.sinking.self in
    let same : entries_in c.deref.result.now ≡ entries_held mid = ap entries_in c.deref.ensures.value in
    let planned = subst (λ es. IsRotation es c.sinking.link c.args.id c.in-Some.rotation) same c.in-Some.ensures in
    let was = c.sinking.invariant in
    let now = was.holds letters reads tree path parent name child in
    let is : c.in-Err.error ≡ InvalidData = cc in
    c.in-Err.ensures.refused_only_if (ap Err is) (was.links.written.has has)
    (child_there (entries_held mid) c.sinking.link c.args.id c.in-Some.rotation planned letters reads tree path parent name
    (child_within letters reads (entries_held old) (entries_held mid) tree child.within.holds.ids path parent name c.sinking.link c.args.id now.0 now.1))
    (sizes_still old mid was.goes was.links.alike fits)

pub sinking-preserved : goal.sinking-preserved
sinking-preserved g c =
    let old = c.args.self.now in
    let mid = c.sinking.self in
    let new = c.turn.new.self in
    let same : entries_in c.deref.result.now ≡ entries_held mid = ap entries_in c.deref.ensures.value in
    let planned = subst (λ es. IsRotation es c.sinking.link c.args.id c.in-Some.rotation) same c.in-Some.ensures in
    let was = c.sinking.invariant in
    let did = c.in_default-turn.ensures in
    let next = c.in-Some.rotation.lowered.link in
    record {
      goes = goes_then _ _ _ was.goes c.turn.ensures.invariants;
      live = did.error_contract.live.1;
      links = sets_then old mid new was.goes was.links did.links;
      holds = child_then (entries_held old) (entries_held mid) (entries_held new) c.args.link c.sinking.link next c.args.id was.holds
          (subst (λ es. HoldChild (entries_held mid) es c.sinking.link next c.args.id) (sym did.set)
          (child_turned (entries_held mid) c.sinking.link c.args.id c.in-Some.rotation planned));
    }
