use Rattle.std.proofs.Common.{◌≡◌, ◌++◌, ap, sym, subst, ◌∙◌}
use Rattle.std.specs.Prelude.{Err, MatchOption}
use Rattle.cfb_directory.specs.Entries.{entries_in}
use Rattle.cfb_directory.specs.Views.{entries_held}
use Rattle.cfb_medium.specs.declared.error.Error.TheVariants.{InvalidData, Memory}
use Rattle.cfb_mini.specs.Views.{directory_of}
use Rattle.cfb_siblings.specs.Reading.{ReadBy}
use Rattle.cfb_tree.specs.Objects.{EntriesHoldTree}
use Rattle.cfb_tree_edits.specs.WholeRemoval.{HasEmptyStorage, IsLeafOnWay, IsWayTo}
use Rattle.cfb_tree_edits.specs.Live.{live_of}
use Rattle.cfb_tree_edits.proofs.Emptied.{takes_below}
use Rattle.cfb_tree_edits.proofs.SetFacts.{means_held}
use Rattle.cfb_tree_edits.proofs.Strays.{strays_same}
use Rattle.cfb_tree_edits.proofs.Streams.{reads}
use Rattle.cfb_tree_edits.proofs.Ways.{way_kept}
use Rattle.cfb_tree_edits.proofs.whole_removal.take_leaf.Goals as goal

pub returns-in-Err-clause-refused_only_if : goal.returns-in-Err-clause-refused_only_if
returns-in-Err-clause-refused_only_if g c = λ wrong l tree path m w.
    let it = c.args.mini.now in
    let Reads = reads (live_of it) m.who in
    let items = c.args.above.now.items in
    let same : entries_in c.dir_entries.result.now ≡ entries_held (directory_of it) = c.dir_entries.ensures ∙ ap entries_held c.directory-2.ensures in
    let held = subst (λ es. EntriesHoldTree l (ReadBy Reads) es tree) (sym same) (means_held l it tree m) in
    let way = subst (λ es. IsWayTo l es path items c.args.top) (sym same) w in
    let memory : c.in-Err.error ≡ Memory = c.in-Err.ensures.found l Reads tree path held way in
    absurd (cc)

pub returns-in_default-clause-taken : goal.returns-in_default-clause-taken
returns-in_default-clause-taken g c = λ l tree path m w.
    let it = c.args.mini.now in
    let Reads = reads (live_of it) m.who in
    let items = c.args.above.now.items in
    let same : entries_in c.dir_entries.result.now ≡ entries_held (directory_of it) = c.dir_entries.ensures ∙ ap entries_held c.directory-2.ensures in
    let held = subst (λ es. EntriesHoldTree l (ReadBy Reads) es tree) (sym same) (means_held l it tree m) in
    let way = subst (λ es. IsWayTo l es path items c.args.top) (sym same) w in
    (record { means = m; strays = strays_same it m.who }, subst (λ leaf. MatchOption leaf (HasEmptyStorage l tree path) (λ x. IsLeafOnWay l (entries_in c.dir_entries.result.now) path c.next_leaf.new.above.items x.0 x.1)) c.in_default.is (c.in-Ok.ensures.found l Reads tree path held way))

pub returns-in-Err-take_out-clause-refused_only_if : goal.returns-in-Err-take_out-clause-refused_only_if
returns-in-Err-take_out-clause-refused_only_if g c = λ wrong l tree path m w.
    let it = c.args.mini.now in
    let Reads = reads (live_of it) m.who in
    let items = c.args.above.now.items in
    let same : entries_in c.dir_entries.result.now ≡ entries_held (directory_of it) = c.dir_entries.ensures ∙ ap entries_held c.directory-2.ensures in
    let held = subst (λ es. EntriesHoldTree l (ReadBy Reads) es tree) (sym same) (means_held l it tree m) in
    let way = subst (λ es. IsWayTo l es path items c.args.top) (sym same) w in
    let told = subst (λ leaf. MatchOption leaf (HasEmptyStorage l tree path) (λ x. IsLeafOnWay l (entries_in c.dir_entries.result.now) path c.next_leaf.new.above.items x.0 x.1)) c.in-Some.is (c.in-Ok.ensures.found l Reads tree path held way) in
    let below = subst (λ es. IsLeafOnWay l es path c.next_leaf.new.above.items c.in-Some.parent c.in-Some.id) same told in
    let is : c.in-Err-take_out.error ≡ InvalidData = cc in
    c.in-Err-take_out.ensures.refused_only_if (ap Err is) l tree (path ++ below.way.more) below.name m below.leaf

pub returns-clause-taken : goal.returns-clause-taken
returns-clause-taken g c = λ l tree path m w.
    let it = c.args.mini.now in
    let new = c.take_out.new.mini in
    let Reads = reads (live_of it) m.who in
    let items = c.args.above.now.items in
    let same : entries_in c.dir_entries.result.now ≡ entries_held (directory_of it) = c.dir_entries.ensures ∙ ap entries_held c.directory-2.ensures in
    let held = subst (λ es. EntriesHoldTree l (ReadBy Reads) es tree) (sym same) (means_held l it tree m) in
    let way = subst (λ es. IsWayTo l es path items c.args.top) (sym same) w in
    let told = subst (λ leaf. MatchOption leaf (HasEmptyStorage l tree path) (λ x. IsLeafOnWay l (entries_in c.dir_entries.result.now) path c.next_leaf.new.above.items x.0 x.1)) c.in-Some.is (c.in-Ok.ensures.found l Reads tree path held way) in
    let parent = c.in-Some.parent in
    let id = c.in-Some.id in
    let left = c.next_leaf.new.above.items in
    let below = subst (λ es. IsLeafOnWay l es path left parent id) same told in
    let did = c.in_default-take_out.ensures in (
      takes_below l path tree it new left parent id m below (did.taken l tree (path ++ below.way.more) below.name m below.leaf),
      way_kept l (entries_held (directory_of it)) path left parent below.way (entries_held (directory_of new)) id (did.ways l tree (path ++ below.way.more) below.name m below.leaf) below.apart,
    )
