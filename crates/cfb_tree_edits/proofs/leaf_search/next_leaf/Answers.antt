use Rattle.std.proofs.Common.{◌≡◌, ◌-◌, [], append-nil, arith, map, take, refl, ap, ◌∙◌}
use Rattle.cfb_siblings.proofs.Entries.{found_in, lost_in}
use Rattle.cfb_tree.specs.Directory.{no_entry}
use Rattle.cfb_tree.specs.EntryViews.{entry_in}
use Rattle.cfb_tree_edits.proofs.Descent.{storage_empty}
use Rattle.cfb_tree_edits.proofs.Ways.{owner_there, parent_full, way_ends, way_shorter}
use Rattle.cfb_tree_edits.proofs.leaf_search.next_leaf.Goals as goal

pub returns-in_default-clause-found : goal.returns-in_default-clause-found
returns-in_default-clause-found c = λ letters reads tree path h w.
    absurd (owner_there (map entry_in c.args.entries.now) c.args.top w.owner (lost_in c.args.entries.now c.args.top c.in_default.ensures.lookup.3))

pub returns-in-Ok-clause-found : goal.returns-in-Ok-clause-found
returns-in-Ok-clause-found c = λ letters reads tree path h w.
    let e = c.in-Some.storage.now in
    let got = c.in-Some.ensures.lookup in
    let found = found_in c.args.entries.now c.args.top e got.3.0 got.1 in
    let here : (entry_in e).child ≡ no_entry → ⊥ = λ none. let wrong = c.if-storage.true in grind (arith, none, wrong) in
    c.in-Ok.ensures.found letters reads tree path (entry_in e) h w found refl here

pub returns-in-Err-clause-found : goal.returns-in-Err-clause-found
returns-in-Err-clause-found c = λ letters reads tree path h w.
    let e = c.in-Some.storage.now in
    let got = c.in-Some.ensures.lookup in
    let found = found_in c.args.entries.now c.args.top e got.3.0 got.1 in
    let here : (entry_in e).child ≡ no_entry → ⊥ = λ none. let wrong = c.if-storage.true in grind (arith, none, wrong) in
    c.in-Err.ensures.found letters reads tree path (entry_in e) h w found refl here

pub returns-in_default-pop-clause-found : goal.returns-in_default-pop-clause-found
returns-in_default-pop-clause-found c = λ letters reads tree path h w.
    let directory = map entry_in c.args.entries.now in
    let e = c.in-Some.storage.now in
    let got = c.in-Some.ensures.lookup in
    let found = found_in c.args.entries.now c.args.top e got.3.0 got.1 in
    let items = c.args.above.now.items in
    let gone = c.in_default-pop.ensures.cases.0 in
    let none : items ≡ [] =
    c.in_default-pop.ensures.items ∙ append-nil c.pop.new.self.items ∙ c.in_default-pop.ensures.rest ∙ ap (λ n. take (n - 1) items) gone ∙ ap (λ n. take n items) (let zero : 0 - 1 ≡ 0 = omega arith in zero) in
    storage_empty directory reads letters tree h path c.args.top (way_ends letters directory path c.args.above.now.items c.args.top w none) (entry_in e) found c.if-storage.false

pub returns-in_default-get-clause-found : goal.returns-in_default-get-clause-found
returns-in_default-get-clause-found c = λ letters reads tree path h w.
    let directory = map entry_in c.args.entries.now in
    let up = way_shorter letters directory path c.args.above.now.items c.args.top w c.pop.new.self.items c.in-Some-pop.parent c.in-Some-pop.ensures.items in
    absurd (owner_there directory c.in-Some-pop.parent up.1.owner (lost_in c.args.entries.now c.in-Some-pop.parent c.in_default-get.ensures.lookup.3))

pub returns-in-Ok-go_down-clause-found : goal.returns-in-Ok-go_down-clause-found
returns-in-Ok-go_down-clause-found c = λ letters reads tree path h w.
    let directory = map entry_in c.args.entries.now in
    let up = way_shorter letters directory path c.args.above.now.items c.args.top w c.pop.new.self.items c.in-Some-pop.parent c.in-Some-pop.ensures.items in
    let e = c.in-Some-get.storage.now in
    let got = c.in-Some-get.ensures.lookup in
    let found = found_in c.args.entries.now c.in-Some-pop.parent e got.3.0 got.1 in
    c.in-Ok-go_down.ensures.found letters reads tree path (entry_in e) h up.1 found refl (parent_full letters directory c.in-Some-pop.parent up.0 c.args.top up.2 (entry_in e) found)

pub returns-in-Err-go_down-clause-found : goal.returns-in-Err-go_down-clause-found
returns-in-Err-go_down-clause-found c = λ letters reads tree path h w.
    let directory = map entry_in c.args.entries.now in
    let up = way_shorter letters directory path c.args.above.now.items c.args.top w c.pop.new.self.items c.in-Some-pop.parent c.in-Some-pop.ensures.items in
    let e = c.in-Some-get.storage.now in
    let got = c.in-Some-get.ensures.lookup in
    let found = found_in c.args.entries.now c.in-Some-pop.parent e got.3.0 got.1 in
    c.in-Err-go_down.ensures.found letters reads tree path (entry_in e) h up.1 found refl (parent_full letters directory c.in-Some-pop.parent up.0 c.args.top up.2 (entry_in e) found)
