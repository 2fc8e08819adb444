use Rattle.std.proofs.Common.{◌≡◌, ℕ, List, [], arith, inl, length, subst, rules}
use Rattle.std.specs.Borrow.{Bor}
use Rattle.cfb_fat.specs.Keeping.{fails_cause}
use Rattle.cfb_fat.specs.OnlyReads.{all_rest_refl}
use Rattle.cfb_medium.specs.Times.{units_of}
use Rattle.cfb_mini.specs.Views.{allocator_of}
use Rattle.cfb_chain_io.proofs.GoingOn.{goes_cause, goes_then, rests_go_on}
use Rattle.cfb_siblings.specs.Places.{path_of}
use Rattle.cfb_tree.specs.CaseTableViews.{case_table_of}
use Rattle.cfb_tree_edits.specs.Parents.{ComesAsFar}
use Rattle.cfb_tree_edits.proofs.AllMade.{as_far_more, as_far_strays, name_more, next_place, within_path}
use Rattle.cfb_tree_edits.proofs.Strays.{strays_same, strays_then}
use Rattle.cfb_tree_edits.proofs.parents.make_missing.Goals as goal

abbrev no_name : Bor (List ℕ)
no_name = record { ref_ptr = (0, 0); now = [] }

pub returns-in-Err-clause-refused_only_if : goal.returns-in-Err-clause-refused_only_if
returns-in-Err-clause-refused_only_if g c = λ tree start.
    let names = c.args.names.now in
    let i = c.making.count in
    let so = c.making.invariant.made tree start in
    let below = within_path names i no_name c.making-test.true in
    c.in-Err.ensures.refused_only_if so.0.now _ so.0.means
    (next_place (case_table_of c.args.letters.now) c.args.moment tree (path_of names) i c.making.parent c.making.mini so.0 below _ (name_more names i no_name c.making-test.true))

pub returns-in-Err-clause-error_contract : goal.returns-in-Err-clause-error_contract
returns-in-Err-clause-error_contract g c =
    let a = allocator_of c.args.mini.now in
    let m = allocator_of c.making.mini in
    let b = allocator_of c.make_child.new.mini in
    let told = c.in-Err.ensures.error_contract in
    record {
      live = tt;
      failed = search rules;
      after = inl c.fail.ensures.sectors.failed;
      cause = fails_cause a b (allocator_of c.fail.new.self) c.in-Err.error (goes_cause a m b c.in-Err.error c.making.invariant.goes c.making.invariant.live told.cause) c.fail.ensures;
      fault = told.fault;
    }

pub making-init : goal.making-init
making-init g c =
    let it = c.args.mini.now in
    let a = allocator_of it in
    record {
      goes = rests_go_on a a (all_rest_refl a);
      live = search rules;
      made = λ tree so. (so, strays_same it so.means.who);
    }

pub making-preserved : goal.making-preserved
making-preserved g c = record {
  goes = goes_then _ _ _ c.making.invariant.goes c.make_child.ensures.invariants;
  live = c.in-Ok.ensures.error_contract.live.1;
  made = λ tree start.
      let l = case_table_of c.args.letters.now in
      let names = c.args.names.now in
      let path = path_of names in
      let i = c.making.count in
      let so = c.making.invariant.made tree start in
      let below = within_path names i no_name c.making-test.true in
      let next = name_more names i no_name c.making-test.true in
      let new = c.make_child.new.mini in
      let place = next_place l c.args.moment tree path i c.making.parent c.making.mini so.0 below _ next in
      let child = c.in-Ok.ensures.made so.0.now _ so.0.means place in
      let later = as_far_more l c.args.moment tree path i c.making.parent c.making.mini so.0 below _ next new c.in-Ok.id child in (
        later,
        strays_then c.args.mini.now c.making.mini new start.means.who so.0.means.who later.means.who so.1 (as_far_strays l c.args.moment tree path i c.making.parent c.making.mini so.0 below _ next new c.in-Ok.id child),
      );
}

pub returns-clause-made : goal.returns-clause-made
returns-clause-made g c = λ tree start.
    let names = c.args.names.now in
    let last : c.making.count ≡ length names = let past = c.making-test.false in let within = c.making.auto.count-end in let room = c.requires in omega (arith, past, within, room) in
    let so = c.making.invariant.made tree start in
    subst (λ n. ComesAsFar (case_table_of c.args.letters.now) (units_of c.args.moment) tree (path_of names) n c.args.mini.now c.making.mini start.means.who) last
    (record { last = c.making.parent; far = so.0; strays = so.1 })
