use Rattle.std.proofs.Common.{map, ◌≡◌, [], None, Some, arith, refl, subst, sym, ◌∙◌}
use Rattle.cfb_siblings.proofs.Entries.{found_in, lost_in}
use Rattle.cfb_tree.specs.EntryViews.{entry_in}
use Rattle.cfb_tree.specs.Directory.{Siblings}
use Rattle.cfb_tree.proofs.OneContent.{Some_same}
use Rattle.cfb_entries.specs.Pending.{Above}
use Rattle.cfb_entries.proofs.Sides.{Gone, gone_first, gone_fits, gone_more, next_of}
use Rattle.cfb_entries.proofs.siblings.siblings.Goals as goal

pub walk-init : goal.walk-init
walk-init c = λ all siblings fits.
    let directory = map entry_in c.args.entries.now in
    let none_above = subst (λ xs. Above directory xs []) (sym c.new-above.ensures.items) refl in
    gone_first directory c.new-ids.result.items c.descend.new.above.items all c.new-ids.ensures.items
    (c.in_default.ensures.answer all [] siblings none_above (omega (arith, fits))).0

pub returns-in_default-get-clause-answer : goal.returns-in_default-get-clause-answer
returns-in_default-get-clause-answer c = λ all siblings fits.
    let directory = map entry_in c.args.entries.now in
    let id = c.in-Some.id in
    let it = subst (λ xs. Gone directory c.walk.ids.items xs all) c.in-Some.ensures.items (c.walk.invariant all siblings fits) in
    let next = next_of directory c.walk.ids.items c.pop.new.self.items id all it in
    let never : Some next.entry ≡ None = sym next.found ∙ lost_in c.args.entries.now id c.in_default-get.ensures.lookup.3 in absurd (cc)

pub walk-preserved : goal.walk-preserved
walk-preserved c = λ all siblings fits.
    let directory = map entry_in c.args.entries.now in
    let id = c.in-Some.id in
    let at = c.in-Some-get.ensures.lookup in
    let e = c.in-Some-get.entry.now in
    let it = subst (λ xs. Gone directory c.walk.ids.items xs all) c.in-Some.ensures.items (c.walk.invariant all siblings fits) in
    let next = next_of directory c.walk.ids.items c.pop.new.self.items id all it in
    let same : next.entry ≡ entry_in e = Some_same (sym next.found ∙ found_in c.args.entries.now id e at.3.0 at.1) in
    let rights : Siblings directory e.right_sibling next.rights = subst (λ y. Siblings directory y.right next.rights) same next.siblings in
    let room = gone_fits directory c.walk.ids.items c.pop.new.self.items id all it in
    subst (λ xs. Gone directory xs c.descend-in-Some.new.above.items all) (sym c.in_ok-push.ensures.items)
    (gone_more directory c.walk.ids.items c.pop.new.self.items c.descend-in-Some.new.above.items id all it
    (c.in_default-descend.ensures.answer next.rights next.later rights next.kept (omega (arith, room, fits))).0)

pub returns-in-Err-descend-clause-answer : goal.returns-in-Err-descend-clause-answer
returns-in-Err-descend-clause-answer c = λ all siblings fits.
    let directory = map entry_in c.args.entries.now in
    let id = c.in-Some.id in
    let at = c.in-Some-get.ensures.lookup in
    let e = c.in-Some-get.entry.now in
    let it = subst (λ xs. Gone directory c.walk.ids.items xs all) c.in-Some.ensures.items (c.walk.invariant all siblings fits) in
    let next = next_of directory c.walk.ids.items c.pop.new.self.items id all it in
    let same : next.entry ≡ entry_in e = Some_same (sym next.found ∙ found_in c.args.entries.now id e at.3.0 at.1) in
    let rights : Siblings directory e.right_sibling next.rights = subst (λ y. Siblings directory y.right next.rights) same next.siblings in
    let room = gone_fits directory c.walk.ids.items c.pop.new.self.items id all it in
    let told = c.in-Err-descend.ensures.answer next.rights next.later rights next.kept (omega (arith, room, fits)) in
    (tt, told.1)
