use Rattle.std.proofs.Common.{◌≡◌, ap, sym, subst}
use Rattle.cfb_fat.specs.OnlyReads.{all_rest_refl}
use Rattle.cfb_chain_io.proofs.GoingOn.{goes_then, rests_go_on}
use Rattle.cfb_siblings.specs.Rotations.{TurnsIn}
use Rattle.cfb_tree.specs.CaseTableViews.{case_table_of}
use Rattle.cfb_directory.specs.Entries.{entries_in}
use Rattle.cfb_directory.specs.Turning.{HoldOn}
use Rattle.cfb_directory.specs.Views.{allocator_of, entries_held}
use Rattle.cfb_directory.proofs.Turned.{hold_same, hold_then, hold_turned, sets_same, sets_then, sizes_still, turned_there}
use Rattle.cfb_directory.proofs.directory.Directory.rise.Goals as goal

pub rising-init : goal.rising-init
rising-init g c =
    let it = c.args.self.now in
    let a = allocator_of it in
    record {
      goes = rests_go_on a a (all_rest_refl a);
      live = c.requires;
      links = sets_same it;
      holds = hold_same (case_table_of c.args.letters.now) (entries_held it) c.args.parent;
    }

pub returns-in-Err-clause-refused_only_if : goal.returns-in-Err-clause-refused_only_if
returns-in-Err-clause-refused_only_if g c = λ wrong has fits.
    let l = case_table_of c.args.letters.now in
    let mid = c.rising.self in
    let same : entries_in c.deref.result.now ≡ entries_held mid = ap entries_in c.deref.ensures.value in
    let planned = subst (λ es. TurnsIn l es c.args.parent c.in-Some.rotation) same c.in-Some.ensures in
    let was = c.rising.invariant in
    c.in-Err.ensures.refused_only_if wrong (was.links.written.has has) (turned_there l (entries_held mid) c.args.parent c.in-Some.rotation planned)
    (sizes_still c.args.self.now mid was.goes was.links.alike fits)

pub rising-preserved : goal.rising-preserved
rising-preserved g c =
    let l = case_table_of c.args.letters.now in
    let old = c.args.self.now in
    let mid = c.rising.self in
    let new = c.turn.new.self in
    let same : entries_in c.deref.result.now ≡ entries_held mid = ap entries_in c.deref.ensures.value in
    let planned = subst (λ es. TurnsIn l es c.args.parent c.in-Some.rotation) same c.in-Some.ensures in
    let was = c.rising.invariant in
    let did = c.in_default-turn.ensures in
    record {
      goes = goes_then _ _ _ was.goes c.turn.ensures.invariants;
      live = did.error_contract.live.1;
      links = sets_then old mid new was.goes was.links did.links;
      holds = hold_then l (entries_held old) (entries_held mid) (entries_held new) c.args.parent was.holds
          (subst (λ es. HoldOn l (entries_held mid) es c.args.parent) (sym did.set) (hold_turned l (entries_held mid) c.args.parent c.in-Some.rotation planned));
    }
