use Rattle.std.proofs.Common.{◌≡◌, arith, length, map, ap, sym, subst, ◌∙◌, inl, rules}
use Rattle.std.specs.Prelude.{Err, MatchOption}
use Rattle.cfb_directory.specs.Views.{entries_held}
use Rattle.cfb_fat.specs.Keeping.{fails_cause}
use Rattle.cfb_fat.specs.OnlyReads.{all_rest_refl}
use Rattle.cfb_medium.specs.declared.error.Error.TheVariants.{InvalidData}
use Rattle.cfb_mini.specs.Views.{allocator_of, directory_of}
use Rattle.cfb_chain_io.proofs.GoingOn.{goes_cause, goes_then, rests_go_on}
use Rattle.cfb_tree.specs.EntryViews.{entry_in}
use Rattle.cfb_tree_edits.specs.WholeRemoval.{HasEmptyStorage, IsWayTo, TakesBelow}
use Rattle.cfb_tree_edits.specs.Orphans.{FileBecomesTree}
use Rattle.cfb_tree_edits.proofs.Emptied.{emptying_begun, emptying_ended, emptying_more, entries_length}
use Rattle.cfb_tree_edits.proofs.whole_removal.take_leaves.Goals as goal

pub taking-init : goal.taking-init
taking-init g c =
    let it = c.args.mini.now in
    let a = allocator_of it in
    record {
      goes = rests_go_on a a (all_rest_refl a);
      live = search rules;
      emptying = λ l tree path m has way.
          let whole : map entry_in c.dir_entries-count.result.now ≡ entries_held (directory_of it) = c.dir_entries-count.ensures ∙ ap entries_held c.directory-2.ensures in
          let size = ap length whole in
          let count : length c.dir_entries-count.result.now ≡ length (entries_held (directory_of it)) = sym (entries_length c.dir_entries-count.result.now) ∙ size in
          (emptying_begun l path tree it (length c.dir_entries-count.result.now) m has count, way);
    }

pub returns-in-Ok-None-clause-emptied : goal.returns-in-Ok-None-clause-emptied
returns-in-Ok-None-clause-emptied g c = λ l tree path m has way.
    let so = c.taking.invariant.emptying l tree path m has way in
    let new = c.take_leaf.new.mini in
    let told = subst (λ next. MatchOption next (FileBecomesTree l c.taking.mini new so.0.comes.means.who so.0.later × HasEmptyStorage l so.0.later path) (λ id. TakesBelow l path so.0.later c.taking.mini new so.0.comes.means.who × IsWayTo l (entries_held (directory_of new)) path c.take_leaf.new.above.items id))
    c.in-Ok-None.field-0-is (c.in-Ok-None.ensures.taken l so.0.later path so.0.comes.means so.1) in
    emptying_ended l path tree c.args.mini.now c.taking.mini new m.who c.taking._step (length c.dir_entries-count.result.now) so.0 told.0 told.1

pub returns-in-Ok-None-clause-invariants : goal.returns-in-Ok-None-clause-invariants
returns-in-Ok-None-clause-invariants g c = goes_then _ _ _ c.taking.invariant.goes c.take_leaf.ensures.invariants

pub returns-in-Err-clause-refused_only_if : goal.returns-in-Err-clause-refused_only_if
returns-in-Err-clause-refused_only_if g c = λ wrong l tree path m has way.
    let so = c.taking.invariant.emptying l tree path m has way in
    let is : c.in-Err.error ≡ InvalidData = cc in
    c.in-Err.ensures.refused_only_if (ap Err is) l so.0.later path so.0.comes.means so.1

pub returns-in-Err-clause-error_contract : goal.returns-in-Err-clause-error_contract
returns-in-Err-clause-error_contract g c =
    let a = allocator_of c.args.mini.now in
    let m = allocator_of c.taking.mini in
    let b = allocator_of c.take_leaf.new.mini in
    let told = c.in-Err.ensures.error_contract in
    record {
      live = tt;
      failed = search rules;
      after = inl c.fail.ensures.sectors.failed;
      cause = fails_cause a b (allocator_of c.fail.new.self) c.in-Err.error (goes_cause a m b c.in-Err.error c.taking.invariant.goes c.taking.invariant.live told.cause) c.fail.ensures;
      fault = told.fault;
    }

pub taking-preserved : goal.taking-preserved
taking-preserved g c = record {
  goes = goes_then _ _ _ c.taking.invariant.goes c.take_leaf.ensures.invariants;
  live = c.in-Ok-Some.ensures.error_contract.live.1;
  emptying = λ l tree path m has way.
      let so = c.taking.invariant.emptying l tree path m has way in
      let new = c.take_leaf.new.mini in
      let told = subst (λ next. MatchOption next (FileBecomesTree l c.taking.mini new so.0.comes.means.who so.0.later × HasEmptyStorage l so.0.later path) (λ id. TakesBelow l path so.0.later c.taking.mini new so.0.comes.means.who × IsWayTo l (entries_held (directory_of new)) path c.take_leaf.new.above.items id))
      c.in-Ok-Some.field-0-is (c.in-Ok-Some.ensures.taken l so.0.later path so.0.comes.means so.1) in
      (emptying_more l path tree c.args.mini.now c.taking.mini new m.who c.taking._step (length c.dir_entries-count.result.now) so.0 told.0, told.1);
}

pub returns-clause-refused_only_if : goal.returns-clause-refused_only_if
returns-clause-refused_only_if g c = λ wrong l tree path m has way.
    let so = c.taking.invariant.emptying l tree path m has way in
    let left = so.0.left in
    let past = c.taking-test.false in
    omega (arith, left, past)
