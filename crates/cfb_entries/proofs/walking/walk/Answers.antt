use Rattle.std.proofs.Common.{map, ◌≡◌, ◌≤◌, ◌++◌, ◌∷◌, [], None, Some, arith, length, reverse, refl, subst, sym, ap, ◌∙◌, inl, inr}
use Rattle.std.proofs.lemmas.List.{length-map}
use Rattle.cfb_spec.specs.TreeRules.{all_shown}
use Rattle.cfb_siblings.proofs.Entries.{found_in, lost_in}
use Rattle.cfb_tree.specs.Directory.{Siblings}
use Rattle.cfb_tree.specs.EntryViews.{entry_in}
use Rattle.cfb_tree.proofs.OneContent.{Some_same}
use Rattle.cfb_entries.specs.Listed.{listed, listed_at, listed_in, prefix_of_listed}
use Rattle.cfb_entries.specs.Walk.{pending_at}
use Rattle.cfb_entries.proofs.Items.{listed_found, listed_lost, listed_more, listed_one}
use Rattle.cfb_entries.proofs.Preorder.{Walked, held_few, walked_first, walked_room, walked_few, popped, walked_more, object_there, object_named, inside_held}
use Rattle.cfb_entries.proofs.walking.walk.Goals as goal

pub returns-in-Err-clause-answer : goal.returns-in-Err-clause-answer
returns-in-Err-clause-answer c = λ front content held prefix.
    (tt, (c.in-Err.ensures.answer held.children held.siblings (held_few c.args.entries.now c.args.link content held)).1)

pub walk-init : goal.walk-init
walk-init c = λ front content held prefix.
    let directory = map entry_in c.args.entries.now in
    let ids = (c.in-Ok.ensures.answer held.children held.siblings (held_few c.args.entries.now c.args.link content held)).0 in
    walked_first directory c.args.link content held (listed_in c.args.top) (map listed_in c.push.new.self.items) [] c.push_entries.new.pending.items front
    (listed_one c.new-list.result.items c.push.new.self.items c.args.top c.new-list.ensures.items c.in_ok-push.ensures.items) refl
    (c.in_ok-push_entries-in-Ok.ensures.added ∙ ap (λ qs. qs ++ pending_at 0 (reverse c.in-Ok.ids.items)) c.new-pending.ensures.items ∙ ap (λ ks. pending_at 0 (reverse ks)) ids) prefix

pub returns-then-at-entries-clause-answer : goal.returns-then-at-entries-clause-answer
returns-then-at-entries-clause-answer c = λ front content held prefix.
    let directory = map entry_in c.args.entries.now in
    let p = c.in-Some.next in
    let ps = c.pop.new.self.items in
    let L = map listed_in c.walk.list.items in
    let whole = listed_in c.args.top ∷ map listed (all_shown front content) in
    let it = subst (λ qs. Walked directory L qs whole) c.in-Some.ensures.items (c.walk.invariant front content held prefix) in
    let room = walked_room directory L ps p whole it in
    let fits : length c.walk.list.items ≤ length c.args.entries.now = simp length-map at room in
    absurd (omega (arith, fits, c.if-at-entries.true, c.len-at.ensures, c.walk.list.ok.0))

pub returns-in_default-get-clause-answer : goal.returns-in_default-get-clause-answer
returns-in_default-get-clause-answer c = λ front content held prefix.
    let directory = map entry_in c.args.entries.now in
    let p = c.in-Some.next in
    let ps = c.pop.new.self.items in
    let L = map listed_in c.walk.list.items in
    let whole = listed_in c.args.top ∷ map listed (all_shown front content) in
    let it = subst (λ qs. Walked directory L qs whole) c.in-Some.ensures.items (c.walk.invariant front content held prefix) in
    let next = popped directory L ps p whole it in
    let never : Some next.holder ≡ None = sym next.got ∙ listed_lost c.walk.list.items c.deref.result.now p.parent c.deref.ensures.value c.in_default-get.ensures.lookup.3 in
    absurd (cc)

pub returns-in_default-get-2-clause-answer : goal.returns-in_default-get-2-clause-answer
returns-in_default-get-2-clause-answer c = λ front content held prefix.
    let directory = map entry_in c.args.entries.now in
    let p = c.in-Some.next in
    let ps = c.pop.new.self.items in
    let L = map listed_in c.walk.list.items in
    let whole = listed_in c.args.top ∷ map listed (all_shown front content) in
    let it = subst (λ qs. Walked directory L qs whole) c.in-Some.ensures.items (c.walk.invariant front content held prefix) in
    let next = popped directory L ps p whole it in
    absurd (object_there directory p.id next.object next.own next.is_object (lost_in c.args.entries.now p.id c.in_default-get-2.ensures.lookup.3))

pub returns-in-Err-below-clause-answer : goal.returns-in-Err-below-clause-answer
returns-in-Err-below-clause-answer c = λ front content held prefix.
    let directory = map entry_in c.args.entries.now in
    let p = c.in-Some.next in
    let ps = c.pop.new.self.items in
    let L = map listed_in c.walk.list.items in
    let whole = listed_in c.args.top ∷ map listed (all_shown front content) in
    let it = subst (λ qs. Walked directory L qs whole) c.in-Some.ensures.items (c.walk.invariant front content held prefix) in
    let next = popped directory L ps p whole it in
    let at = c.in-Some-get-2.ensures.lookup in
    let e = c.in-Some-get-2.entry.now in
    let named = object_named directory p.id next.object next.own (entry_in e) next.is_object (found_in c.args.entries.now p.id e at.3.0 at.1) in
    (tt, elim c.in-Err-below.ensures.errors [ inl memory ↦ memory | inr (wrong, none_there) ↦ absurd (none_there _ named) ])

pub walk-preserved : goal.walk-preserved
walk-preserved c = λ front content held prefix.
    let directory = map entry_in c.args.entries.now in
    let p = c.in-Some.next in
    let ps = c.pop.new.self.items in
    let L = map listed_in c.walk.list.items in
    let whole = listed_in c.args.top ∷ map listed (all_shown front content) in
    let it = subst (λ qs. Walked directory L qs whole) c.in-Some.ensures.items (c.walk.invariant front content held prefix) in
    let next = popped directory L ps p whole it in
    let got = c.in-Some-get.ensures.lookup in
    let at = c.in-Some-get-2.ensures.lookup in
    let e = c.in-Some-get-2.entry.now in
    let found = found_in c.args.entries.now p.id e at.3.0 at.1 in
    let holder : next.holder ≡ listed_in c.in-Some-get.parent.now =
    Some_same (sym next.got ∙ listed_found c.walk.list.items c.deref.result.now p.parent c.in-Some-get.parent.now c.deref.ensures.value got.3.0 got.1) in
    let (name, named, is) = c.in-Ok-below.ensures.listed in
    let inside = inside_held directory p.id next.object next.own (entry_in e) next.is_object found in
    let few : length inside.0 ≤ length c.args.entries.now = simp length-map at (walked_few directory L ps p whole it (entry_in e) found) in
    let ids = (c.in-Ok-siblings.ensures.answer inside.0 (subst (λ k. Siblings directory k inside.0) (sym c.children_link.ensures) inside.1) few).0 in
    walked_more directory L ps p whole it (entry_in e) found name (listed_in c.in-Ok-below.shown) (map listed_in c.push-in-Ok-below.new.self.items) c.len-at.result c.push_entries-in-Ok-siblings.new.pending.items
    named (is ∙ ap (λ text. listed_at (entry_in e) (text ++ 47 ∷ name) name) (c.prefix.ensures ∙ ap prefix_of_listed (sym holder)))
    (listed_more c.walk.list.items c.push-in-Ok-below.new.self.items c.in-Ok-below.shown c.in_ok-push-in-Ok-below.ensures.items)
    (simp length-map (omega (arith, c.len-at.ensures, c.walk.list.ok.0)))
    (c.in_ok-push_entries-in-Ok-siblings.ensures.added ∙ ap (λ ks. ps ++ pending_at c.len-at.result (reverse ks)) ids)

pub returns-in-Err-siblings-clause-answer : goal.returns-in-Err-siblings-clause-answer
returns-in-Err-siblings-clause-answer c = λ front content held prefix.
    let directory = map entry_in c.args.entries.now in
    let p = c.in-Some.next in
    let ps = c.pop.new.self.items in
    let L = map listed_in c.walk.list.items in
    let whole = listed_in c.args.top ∷ map listed (all_shown front content) in
    let it = subst (λ qs. Walked directory L qs whole) c.in-Some.ensures.items (c.walk.invariant front content held prefix) in
    let next = popped directory L ps p whole it in
    let at = c.in-Some-get-2.ensures.lookup in
    let e = c.in-Some-get-2.entry.now in
    let found = found_in c.args.entries.now p.id e at.3.0 at.1 in
    let inside = inside_held directory p.id next.object next.own (entry_in e) next.is_object found in
    let few : length inside.0 ≤ length c.args.entries.now = simp length-map at (walked_few directory L ps p whole it (entry_in e) found) in
    (tt, (c.in-Err-siblings.ensures.answer inside.0 (subst (λ k. Siblings directory k inside.0) (sym c.children_link.ensures) inside.1) few).1)
