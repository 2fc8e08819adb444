use Rattle.std.proofs.Common.{◌≡◌, [], ◌++◌, inl, inr, ap, sym, subst, ◌∙◌, rules}
use Rattle.std.specs.Prelude.{MatchOption}
use Rattle.cfb_directory.specs.Entries.{entries_in}
use Rattle.cfb_directory.specs.Views.{entries_held}
use Rattle.cfb_fat.specs.Keeping.{fails_cause}
use Rattle.cfb_fat.specs.OnlyReads.{all_rest_refl}
use Rattle.cfb_medium.specs.declared.error.Error.TheVariants.{Memory}
use Rattle.cfb_mini.specs.Views.{allocator_of, directory_of}
use Rattle.cfb_chain_io.proofs.GoingOn.{fails_go_on, goes_cause, goes_then}
use Rattle.cfb_siblings.specs.Places.{path_of}
use Rattle.cfb_siblings.specs.Reading.{ReadBy}
use Rattle.cfb_tree.specs.CaseTableViews.{case_table_of}
use Rattle.cfb_tree.specs.Objects.{EntriesHoldTree}
use Rattle.cfb_tree_edits.specs.WholeRemoval.{HasEmptyStorage, IsLeafOnWay, IsWayTo}
use Rattle.cfb_tree_edits.specs.Live.{live_of}
use Rattle.cfb_tree_edits.specs.Orphans.{FileBecomesTree}
use Rattle.cfb_tree_edits.proofs.Emptied.{takes_below, takes_others, takes_storage}
use Rattle.cfb_tree_edits.proofs.SetFacts.{means_held}
use Rattle.cfb_tree_edits.proofs.Strays.{strays_then}
use Rattle.cfb_tree_edits.proofs.Streams.{reads}
use Rattle.cfb_tree_edits.proofs.Ways.{way_begun, way_kept}
use Rattle.cfb_tree_edits.proofs.whole_removal.take_all.Goals as goal

pub returns-in-Err-clause-refused_only_if : goal.returns-in-Err-clause-refused_only_if
returns-in-Err-clause-refused_only_if g c = λ wrong tree m has storage_at.
    let it = c.args.mini.now in
    let l = case_table_of c.args.letters.now in
    let Reads = reads (live_of it) m.who in
    let path = path_of c.args.names.now in
    let directory = entries_held (directory_of it) in
    let same : entries_in c.dir_entries.result.now ≡ directory = c.dir_entries.ensures ∙ ap entries_held c.directory-2.ensures in
    let held = subst (λ es. EntriesHoldTree l (ReadBy Reads) es tree) (sym same) (means_held l it tree m) in
    let begun = subst (λ xs. IsWayTo l directory path xs c.args.top) (sym c.new-above.ensures.items) (way_begun l directory path c.args.top storage_at) in
    let way = subst (λ es. IsWayTo l es path c.new-above.result.items c.args.top) (sym same) begun in
    let left = c.next_leaf.new.above.items in
    let memory : c.in-Err.error ≡ Memory = c.in-Err.ensures.found l Reads tree path held way in
    absurd (cc)

pub returns-in-Err-take_emptied-clause-refused_only_if : goal.returns-in-Err-take_emptied-clause-refused_only_if
returns-in-Err-take_emptied-clause-refused_only_if g c = λ wrong tree m has storage_at.
    let it = c.args.mini.now in
    let l = case_table_of c.args.letters.now in
    let Reads = reads (live_of it) m.who in
    let path = path_of c.args.names.now in
    let directory = entries_held (directory_of it) in
    let same : entries_in c.dir_entries.result.now ≡ directory = c.dir_entries.ensures ∙ ap entries_held c.directory-2.ensures in
    let held = subst (λ es. EntriesHoldTree l (ReadBy Reads) es tree) (sym same) (means_held l it tree m) in
    let begun = subst (λ xs. IsWayTo l directory path xs c.args.top) (sym c.new-above.ensures.items) (way_begun l directory path c.args.top storage_at) in
    let way = subst (λ es. IsWayTo l es path c.new-above.result.items c.args.top) (sym same) begun in
    let left = c.next_leaf.new.above.items in
    let empty = subst (λ leaf. MatchOption leaf (HasEmptyStorage l tree path) (λ x. IsLeafOnWay l (entries_in c.dir_entries.result.now) path left x.0 x.1)) c.in_default.is (c.in-Ok.ensures.found l Reads tree path held way) in
    c.in-Err-take_emptied.ensures.refused_only_if wrong tree m empty

pub returns-in_default-clause-taken : goal.returns-in_default-clause-taken
returns-in_default-clause-taken g c = λ tree m has storage_at.
    let it = c.args.mini.now in
    let l = case_table_of c.args.letters.now in
    let Reads = reads (live_of it) m.who in
    let path = path_of c.args.names.now in
    let directory = entries_held (directory_of it) in
    let same : entries_in c.dir_entries.result.now ≡ directory = c.dir_entries.ensures ∙ ap entries_held c.directory-2.ensures in
    let held = subst (λ es. EntriesHoldTree l (ReadBy Reads) es tree) (sym same) (means_held l it tree m) in
    let begun = subst (λ xs. IsWayTo l directory path xs c.args.top) (sym c.new-above.ensures.items) (way_begun l directory path c.args.top storage_at) in
    let way = subst (λ es. IsWayTo l es path c.new-above.result.items c.args.top) (sym same) begun in
    let left = c.next_leaf.new.above.items in
    let empty = subst (λ leaf. MatchOption leaf (HasEmptyStorage l tree path) (λ x. IsLeafOnWay l (entries_in c.dir_entries.result.now) path left x.0 x.1)) c.in_default.is (c.in-Ok.ensures.found l Reads tree path held way) in
    c.in_default-take_emptied.ensures.taken tree m empty

pub returns-in-Err-take_out-clause-refused_only_if : goal.returns-in-Err-take_out-clause-refused_only_if
returns-in-Err-take_out-clause-refused_only_if g c = λ wrong tree m has storage_at.
    let it = c.args.mini.now in
    let l = case_table_of c.args.letters.now in
    let Reads = reads (live_of it) m.who in
    let path = path_of c.args.names.now in
    let directory = entries_held (directory_of it) in
    let same : entries_in c.dir_entries.result.now ≡ directory = c.dir_entries.ensures ∙ ap entries_held c.directory-2.ensures in
    let held = subst (λ es. EntriesHoldTree l (ReadBy Reads) es tree) (sym same) (means_held l it tree m) in
    let begun = subst (λ xs. IsWayTo l directory path xs c.args.top) (sym c.new-above.ensures.items) (way_begun l directory path c.args.top storage_at) in
    let way = subst (λ es. IsWayTo l es path c.new-above.result.items c.args.top) (sym same) begun in
    let left = c.next_leaf.new.above.items in
    let told = subst (λ leaf. MatchOption leaf (HasEmptyStorage l tree path) (λ x. IsLeafOnWay l (entries_in c.dir_entries.result.now) path left x.0 x.1)) c.in-Some.is (c.in-Ok.ensures.found l Reads tree path held way) in
    let below = subst (λ es. IsLeafOnWay l es path left c.in-Some.parent c.in-Some.id) same told in
    c.in-Err-take_out.ensures.refused_only_if wrong l tree (path ++ below.way.more) below.name m below.leaf

pub returns-in-Err-take_leaves-clause-refused_only_if : goal.returns-in-Err-take_leaves-clause-refused_only_if
returns-in-Err-take_leaves-clause-refused_only_if g c = λ wrong tree m has storage_at.
    let it = c.args.mini.now in
    let l = case_table_of c.args.letters.now in
    let Reads = reads (live_of it) m.who in
    let path = path_of c.args.names.now in
    let directory = entries_held (directory_of it) in
    let same : entries_in c.dir_entries.result.now ≡ directory = c.dir_entries.ensures ∙ ap entries_held c.directory-2.ensures in
    let held = subst (λ es. EntriesHoldTree l (ReadBy Reads) es tree) (sym same) (means_held l it tree m) in
    let begun = subst (λ xs. IsWayTo l directory path xs c.args.top) (sym c.new-above.ensures.items) (way_begun l directory path c.args.top storage_at) in
    let way = subst (λ es. IsWayTo l es path c.new-above.result.items c.args.top) (sym same) begun in
    let left = c.next_leaf.new.above.items in
    let told = subst (λ leaf. MatchOption leaf (HasEmptyStorage l tree path) (λ x. IsLeafOnWay l (entries_in c.dir_entries.result.now) path left x.0 x.1)) c.in-Some.is (c.in-Ok.ensures.found l Reads tree path held way) in
    let below = subst (λ es. IsLeafOnWay l es path left c.in-Some.parent c.in-Some.id) same told in
    let first = c.take_out.new.mini in
    let takes = takes_below l path tree it first left c.in-Some.parent c.in-Some.id m below (c.in_default-take_out.ensures.taken l tree (path ++ below.way.more) below.name m below.leaf) in
    let kept = way_kept l directory path left c.in-Some.parent below.way (entries_held (directory_of first)) c.in-Some.id (c.in_default-take_out.ensures.ways l tree (path ++ below.way.more) below.name m below.leaf) below.apart in
    let storage = takes_storage l path tree it first m.who has takes in
    c.in-Err-take_leaves.ensures.refused_only_if wrong l takes.later path takes.comes.means storage kept

pub returns-in-Err-take_leaves-clause-error_contract : goal.returns-in-Err-take_leaves-clause-error_contract
returns-in-Err-take_leaves-clause-error_contract g c =
    let a = allocator_of c.args.mini.now in
    let m = allocator_of c.take_out.new.mini in
    let b = allocator_of c.take_leaves.new.mini in
    let told = c.in-Err-take_leaves.ensures.error_contract in
    record {
      live = tt;
      failed = search rules;
      after = inl c.in-Err-take_leaves.ensures.when_failed;
      cause = goes_cause a m b c.in-Err-take_leaves.error c.take_out.ensures.invariants c.in_default-take_out.ensures.error_contract.live.1 told.cause;
      fault = told.fault;
    }

pub returns-in-Err-take_leaves-clause-invariants : goal.returns-in-Err-take_leaves-clause-invariants
returns-in-Err-take_leaves-clause-invariants g c = goes_then _ _ _ c.take_out.ensures.invariants c.take_leaves.ensures.invariants

pub returns-in-Err-take_emptied-2-clause-refused_only_if : goal.returns-in-Err-take_emptied-2-clause-refused_only_if
returns-in-Err-take_emptied-2-clause-refused_only_if g c = λ wrong tree m has storage_at.
    let it = c.args.mini.now in
    let l = case_table_of c.args.letters.now in
    let Reads = reads (live_of it) m.who in
    let path = path_of c.args.names.now in
    let directory = entries_held (directory_of it) in
    let same : entries_in c.dir_entries.result.now ≡ directory = c.dir_entries.ensures ∙ ap entries_held c.directory-2.ensures in
    let held = subst (λ es. EntriesHoldTree l (ReadBy Reads) es tree) (sym same) (means_held l it tree m) in
    let begun = subst (λ xs. IsWayTo l directory path xs c.args.top) (sym c.new-above.ensures.items) (way_begun l directory path c.args.top storage_at) in
    let way = subst (λ es. IsWayTo l es path c.new-above.result.items c.args.top) (sym same) begun in
    let left = c.next_leaf.new.above.items in
    let told = subst (λ leaf. MatchOption leaf (HasEmptyStorage l tree path) (λ x. IsLeafOnWay l (entries_in c.dir_entries.result.now) path left x.0 x.1)) c.in-Some.is (c.in-Ok.ensures.found l Reads tree path held way) in
    let below = subst (λ es. IsLeafOnWay l es path left c.in-Some.parent c.in-Some.id) same told in
    let first = c.take_out.new.mini in
    let takes = takes_below l path tree it first left c.in-Some.parent c.in-Some.id m below (c.in_default-take_out.ensures.taken l tree (path ++ below.way.more) below.name m below.leaf) in
    let kept = way_kept l directory path left c.in-Some.parent below.way (entries_held (directory_of first)) c.in-Some.id (c.in_default-take_out.ensures.ways l tree (path ++ below.way.more) below.name m below.leaf) below.apart in
    let storage = takes_storage l path tree it first m.who has takes in
    let emptied = c.in_default-take_leaves.ensures.emptied l takes.later path takes.comes.means storage kept in
    c.in-Err-take_emptied-2.ensures.refused_only_if wrong emptied.later emptied.comes.means emptied.empty

pub returns-in-Err-take_emptied-2-clause-invariants : goal.returns-in-Err-take_emptied-2-clause-invariants
returns-in-Err-take_emptied-2-clause-invariants g c =
    let b = allocator_of c.take_emptied-2.new.mini in
    fails_go_on 0 [] (allocator_of c.args.mini.now) b b (allocator_of c.fail.new.self) (goes_then _ _ _ (goes_then _ _ _ c.take_out.ensures.invariants c.take_leaves.ensures.invariants) c.take_emptied-2.ensures.invariants) (inr (all_rest_refl b)) c.fail.ensures

pub returns-in-Err-take_emptied-2-clause-error_contract : goal.returns-in-Err-take_emptied-2-clause-error_contract
returns-in-Err-take_emptied-2-clause-error_contract g c =
    let a = allocator_of c.args.mini.now in
    let m = allocator_of c.take_leaves.new.mini in
    let b = allocator_of c.take_emptied-2.new.mini in
    let told = c.in-Err-take_emptied-2.ensures.error_contract in
    let goes = goes_then _ _ _ c.take_out.ensures.invariants c.take_leaves.ensures.invariants in
    record {
      live = tt;
      failed = search rules;
      after = inl c.fail.ensures.sectors.failed;
      cause = fails_cause a b (allocator_of c.fail.new.self) c.in-Err-take_emptied-2.error (goes_cause a m b c.in-Err-take_emptied-2.error goes c.in_default-take_leaves.ensures.error_contract.live.1 told.cause) c.fail.ensures;
      fault = told.fault;
    }

pub returns-clause-taken : goal.returns-clause-taken
returns-clause-taken g c = λ tree m has storage_at.
    let it = c.args.mini.now in
    let l = case_table_of c.args.letters.now in
    let Reads = reads (live_of it) m.who in
    let path = path_of c.args.names.now in
    let directory = entries_held (directory_of it) in
    let same : entries_in c.dir_entries.result.now ≡ directory = c.dir_entries.ensures ∙ ap entries_held c.directory-2.ensures in
    let held = subst (λ es. EntriesHoldTree l (ReadBy Reads) es tree) (sym same) (means_held l it tree m) in
    let begun = subst (λ xs. IsWayTo l directory path xs c.args.top) (sym c.new-above.ensures.items) (way_begun l directory path c.args.top storage_at) in
    let way = subst (λ es. IsWayTo l es path c.new-above.result.items c.args.top) (sym same) begun in
    let left = c.next_leaf.new.above.items in
    let told = subst (λ leaf. MatchOption leaf (HasEmptyStorage l tree path) (λ x. IsLeafOnWay l (entries_in c.dir_entries.result.now) path left x.0 x.1)) c.in-Some.is (c.in-Ok.ensures.found l Reads tree path held way) in
    let below = subst (λ es. IsLeafOnWay l es path left c.in-Some.parent c.in-Some.id) same told in
    let first = c.take_out.new.mini in
    let takes = takes_below l path tree it first left c.in-Some.parent c.in-Some.id m below (c.in_default-take_out.ensures.taken l tree (path ++ below.way.more) below.name m below.leaf) in
    let kept = way_kept l directory path left c.in-Some.parent below.way (entries_held (directory_of first)) c.in-Some.id (c.in_default-take_out.ensures.ways l tree (path ++ below.way.more) below.name m below.leaf) below.apart in
    let storage = takes_storage l path tree it first m.who has takes in
    let emptied = c.in_default-take_leaves.ensures.emptied l takes.later path takes.comes.means storage kept in
    let left_one = c.take_leaves.new.mini in
    let new = c.take_emptied-2.new.mini in
    let ended = c.in_default-take_emptied-2.ensures.taken emptied.later emptied.comes.means emptied.empty in
    let both = strays_then first left_one new takes.comes.means.who emptied.comes.means.who ended.means.who emptied.comes.strays ended.strays in
    subst (FileBecomesTree l it new m.who) (emptied.others ∙ takes_others l path tree it first m.who takes)
    (record { means = ended.means; strays = strays_then it first new m.who takes.comes.means.who ended.means.who takes.comes.strays both })

pub returns-clause-invariants : goal.returns-clause-invariants
returns-clause-invariants g c = goes_then _ _ _ (goes_then _ _ _ c.take_out.ensures.invariants c.take_leaves.ensures.invariants) c.take_emptied-2.ensures.invariants
