use Rattle.std.proofs.Common.{map, ◌+◌, ◌++◌, ◌∷◌, [], arith, drop, get_or, subst, sym, ap, ◌∙◌, inl, inr}
use Rattle.std.proofs.lemmas.List.{drop_more, drop_all}
use Rattle.cfb_spec.specs.TreeRules.{children_shown}
use Rattle.cfb_siblings.proofs.Entries.{found_in, lost_in}
use Rattle.cfb_tree.specs.EntryViews.{entry_in}
use Rattle.cfb_entries.specs.Listed.{listed, listed_at, listed_in}
use Rattle.cfb_entries.proofs.Items.{listed_more}
use Rattle.cfb_entries.proofs.Preorder.{Told, held_few, told_first, told_next, told_all, object_there, object_named, listed_object}
use Rattle.cfb_entries.proofs.walking.children.Goals as goal

pub returns-in-Err-clause-answer : goal.returns-in-Err-clause-answer
returns-in-Err-clause-answer c = λ front content held prefix.
    (tt, (c.in-Err.ensures.answer held.children held.siblings (held_few c.args.entries.now c.args.link content held)).1)

pub loop-id-init : goal.loop-id-init
loop-id-init c = λ front content held prefix.
    let directory = map entry_in c.args.entries.now in
    let ids = (c.in-Ok.ensures.answer held.children held.siblings (held_few c.args.entries.now c.args.link content held)).0 in
    told_first directory c.args.link content held front (map listed_in c.new-list.result.items) c.deref-id-items.result.now
    (ap (map listed_in) c.new-list.ensures.items) (c.deref-id-items.ensures.value ∙ ids)

pub returns-in_default-clause-answer : goal.returns-in_default-clause-answer
returns-in_default-clause-answer c = λ front content held prefix.
    let directory = map entry_in c.args.entries.now in
    let items = c.deref-id-items.result.now in
    let i = c.loop-id.id-index in
    let id = get_or items i 0 in
    let L = map listed_in c.loop-id.list.items in
    let whole = map listed (children_shown front content) in
    let it = subst (λ ks. Told directory front L ks whole) (drop_more items i 0 c.loop-id-test.true) (c.loop-id.invariant front content held prefix) in
    let next = told_next directory front L id (drop (i + 1) items) whole it in
    absurd (object_there directory id next.object next.own next.is_object (lost_in c.args.entries.now id c.in_default.ensures.lookup.3))

pub returns-in-Err-below-clause-answer : goal.returns-in-Err-below-clause-answer
returns-in-Err-below-clause-answer c = λ front content held prefix.
    let directory = map entry_in c.args.entries.now in
    let items = c.deref-id-items.result.now in
    let i = c.loop-id.id-index in
    let id = get_or items i 0 in
    let L = map listed_in c.loop-id.list.items in
    let whole = map listed (children_shown front content) in
    let it = subst (λ ks. Told directory front L ks whole) (drop_more items i 0 c.loop-id-test.true) (c.loop-id.invariant front content held prefix) in
    let next = told_next directory front L id (drop (i + 1) items) whole it in
    let at = c.in-Some.ensures.lookup in
    let e = c.in-Some.entry.now in
    let named = object_named directory id next.object next.own (entry_in e) next.is_object (found_in c.args.entries.now id e at.3.0 at.1) in
    (tt, elim c.in-Err-below.ensures.errors [ inl memory ↦ memory | inr (wrong, none_there) ↦ absurd (none_there _ named) ])

pub loop-id-preserved : goal.loop-id-preserved
loop-id-preserved c = λ front content held prefix.
    let directory = map entry_in c.args.entries.now in
    let items = c.deref-id-items.result.now in
    let i = c.loop-id.id-index in
    let id = get_or items i 0 in
    let L = map listed_in c.loop-id.list.items in
    let whole = map listed (children_shown front content) in
    let it = subst (λ ks. Told directory front L ks whole) (drop_more items i 0 c.loop-id-test.true) (c.loop-id.invariant front content held prefix) in
    let next = told_next directory front L id (drop (i + 1) items) whole it in
    let at = c.in-Some.ensures.lookup in
    let e = c.in-Some.entry.now in
    let (name, named, is) = c.in-Ok-below.ensures.listed in
    let is_shown = is ∙ ap (λ text. listed_at (entry_in e) (text ++ 47 ∷ name) name) prefix
    ∙ listed_object directory id next.object next.own (entry_in e) name front next.is_object (found_in c.args.entries.now id e at.3.0 at.1) named in
    subst (λ K. Told directory front K (drop (i + 1) items) whole)
    (sym (listed_more c.loop-id.list.items c.push.new.self.items c.in-Ok-below.shown c.in_ok-push-in-Ok-below.ensures.items ∙ ap (λ y. L ++ y ∷ []) is_shown)) next.told

pub returns-clause-answer : goal.returns-clause-answer
returns-clause-answer c = λ front content held prefix.
    let directory = map entry_in c.args.entries.now in
    let items = c.deref-id-items.result.now in
    let L = map listed_in c.loop-id.list.items in
    let whole = map listed (children_shown front content) in
    (told_all directory front L whole (subst (λ ks. Told directory front L ks whole) (drop_all c.loop-id.id-index items (omega (arith, c.loop-id-test.false))) (c.loop-id.invariant front content held prefix)), tt)
