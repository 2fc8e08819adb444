use Rattle.std.proofs.Common.{◌≡◌, ◌++◌, ◌+◌, arith, map, sym, subst}
use Rattle.std.proofs.lemmas.List.{length-map}
use Rattle.cfb_siblings.specs.Reading.{ReadBy}
use Rattle.cfb_siblings.proofs.Entries.{found_in, lost_in}
use Rattle.cfb_tree.specs.Directory.{kind_stream, no_entry}
use Rattle.cfb_tree.specs.EntryViews.{entry_in}
use Rattle.cfb_tree.specs.Objects.{name_of}
use Rattle.cfb_tree_edits.specs.WholeRemoval.{IsWayTo}
use Rattle.cfb_tree_edits.proofs.Descent.{apart, begun, child, deeper, ends, leaf, mid, there, Down}
use Rattle.cfb_tree_edits.proofs.Ways.{way_longer, way_storage}
use Rattle.cfb_tree_edits.proofs.leaf_search.go_down.Goals as goal

pub down-init : goal.down-init
down-init c = λ letters reads tree path e h w found child_is here.
    let directory = map entry_in c.args.entries.now in
    (w, begun directory (ReadBy reads) letters (path ++ w.more) tree h c.args.top (way_storage letters directory path c.args.above.now.items c.args.top w) e c.args.child found child_is here)

pub returns-in_default-clause-found : goal.returns-in_default-clause-found
returns-in_default-clause-found c = λ letters reads tree path e h w found child_is here.
    let directory = map entry_in c.args.entries.now in
    let d = c.down.invariant letters reads tree path e h w found child_is here in
    absurd (there directory (ReadBy reads) letters (path ++ d.0.more) c.down.parent c.down.at c.down._step d.1 (lost_in c.args.entries.now c.down.at c.in_default.ensures.lookup.3))

pub returns-then-is_stream-clause-found : goal.returns-then-is_stream-clause-found
returns-then-is_stream-clause-found c = λ letters reads tree path e h w found child_is here.
    let directory = map entry_in c.args.entries.now in
    let d = c.down.invariant letters reads tree path e h w found child_is here in
    let f = entry_in c.in-Some.entry.now in
    let got = c.in-Some.ensures.lookup in
    let at = found_in c.args.entries.now c.down.at c.in-Some.entry.now got.3.0 got.1 in
    let kind : f.kind ≡ kind_stream = c.is_stream.ensures.0 c.if-is_stream.true in
    record {
      way = d.0;
      name = name_of (mid directory (ReadBy reads) letters (path ++ d.0.more) c.down.parent c.down.at c.down._step d.1 f at).object;
      leaf = leaf directory (ReadBy reads) letters (path ++ d.0.more) c.down.parent c.down.at c.down._step d.1 f at (λ never. absurd (never kind));
      apart = apart directory (ReadBy reads) letters (path ++ d.0.more) c.down.parent c.down.at c.down._step d.1 f at (λ never. absurd (never kind));
    }

pub returns-then-entry-clause-found : goal.returns-then-entry-clause-found
returns-then-entry-clause-found c = λ letters reads tree path e h w found child_is here.
    let directory = map entry_in c.args.entries.now in
    let d = c.down.invariant letters reads tree path e h w found child_is here in
    let f = entry_in c.in-Some.entry.now in
    let got = c.in-Some.ensures.lookup in
    let at = found_in c.args.entries.now c.down.at c.in-Some.entry.now got.3.0 got.1 in
    record {
      way = d.0;
      name = name_of (mid directory (ReadBy reads) letters (path ++ d.0.more) c.down.parent c.down.at c.down._step d.1 f at).object;
      leaf = leaf directory (ReadBy reads) letters (path ++ d.0.more) c.down.parent c.down.at c.down._step d.1 f at (λ never. c.if-entry.true);
      apart = apart directory (ReadBy reads) letters (path ++ d.0.more) c.down.parent c.down.at c.down._step d.1 f at (λ never. c.if-entry.true);
    }

pub down-preserved : goal.down-preserved
down-preserved c = λ letters reads tree path e h w found child_is here.
    let directory = map entry_in c.args.entries.now in
    let d = c.down.invariant letters reads tree path e h w found child_is here in
    let f = entry_in c.in-Some.entry.now in
    let got = c.in-Some.ensures.lookup in
    let at = found_in c.args.entries.now c.down.at c.in-Some.entry.now got.3.0 got.1 in
    let never : f.kind ≡ kind_stream → ⊥ = λ kind. let wrong = c.is_stream.ensures.1 kind in absurd (cc) in
    let more : f.child ≡ no_entry → ⊥ = λ none. let wrong = c.if-entry.false in grind (arith, none, wrong) in
    let name = name_of (mid directory (ReadBy reads) letters (path ++ d.0.more) c.down.parent c.down.at c.down._step d.1 f at).object in
    let down = deeper directory (ReadBy reads) letters (path ++ d.0.more) c.down.parent c.down.at c.down._step d.1 f at never more in
    let way = way_longer letters directory path c.down.above.items c.down.parent d.0 name c.down.at
    (child directory (ReadBy reads) letters (path ++ d.0.more) c.down.parent c.down.at c.down._step d.1 f at) (record { entry = f; found = at; holds = never }) in
    subst (λ xs. (way : IsWayTo letters directory path xs c.down.at) × Down directory (ReadBy reads) letters (path ++ way.more) c.down.at f.child (c.down._step + 1)) (sym c.in_ok-push.ensures.items)
    (way.0, subst (λ p. Down directory (ReadBy reads) letters p c.down.at f.child (c.down._step + 1)) way.1 down)

pub returns-clause-found : goal.returns-clause-found
returns-clause-found c = λ letters reads tree path e h w found child_is here.
    let directory = map entry_in c.args.entries.now in
    let d = c.down.invariant letters reads tree path e h w found child_is here in
    absurd (ends directory (ReadBy reads) letters (path ++ d.0.more) c.down.parent c.down.at c.down._step d.1 (simp length-map c.down-test.false))
