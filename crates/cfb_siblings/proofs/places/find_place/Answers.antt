use Rattle.std.proofs.Common.{chars, map, sym, subst, ◌+◌, ◌∙◌}
use Rattle.std.proofs.lemmas.List.{length-map}
use Rattle.cfb_siblings.specs.Reading.{ReadBy}
use Rattle.cfb_siblings.proofs.Entries.{found_in, lost_in}
use Rattle.cfb_siblings.proofs.Finding.{Came, came_first, never_ended, on_free, some_there, some_name, on_left, on_right, on_level}
use Rattle.cfb_tree.specs.EntryViews.{entry_in}
use Rattle.cfb_tree.specs.CaseTableViews.{case_table_of}
use Rattle.cfb_siblings.proofs.places.find_place.Goals as goal
use Rattle.cfb_siblings.proofs.places.find_place.Goals.{in-Less, in-Greater}

pub loop-step-init : goal.loop-step-init
loop-step-init c = λ reads tree path h s.
    let at = c.in-Some.ensures.lookup in
    came_first (case_table_of c.args.letters.now) (map entry_in c.args.entries.now) (ReadBy reads) (chars c.args.name.now) tree path c.args.parent h s
    (entry_in c.in-Some.storage.now) (found_in c.args.entries.now c.args.parent c.in-Some.storage.now at.3.0 at.1)

pub returns-then-at : goal.returns-then-at
returns-then-at c = λ reads tree path h s.
    on_free (case_table_of c.args.letters.now) (map entry_in c.args.entries.now) (ReadBy reads) (chars c.args.name.now) tree path c.args.parent h s
    c.loop-step.link c.loop-step.at c.loop-step._step (c.loop-step.invariant reads tree path h s) c.if-at.true

pub returns-in_default-get : goal.returns-in_default-get
returns-in_default-get c = λ reads tree path h s.
    some_there (case_table_of c.args.letters.now) (map entry_in c.args.entries.now) (ReadBy reads) (chars c.args.name.now) tree path c.args.parent h s
    c.loop-step.link c.loop-step.at c.loop-step._step (c.loop-step.invariant reads tree path h s) c.if-at.false
    (lost_in c.args.entries.now c.loop-step.at c.in_default-get.ensures.lookup.3)

pub returns-in_default-compare_name : goal.returns-in_default-compare_name
returns-in_default-compare_name c = λ reads tree path h s.
    let at = c.in-Some-get.ensures.lookup in
    let e = c.in-Some-get.entry.now in
    some_name (case_table_of c.args.letters.now) (map entry_in c.args.entries.now) (ReadBy reads) (chars c.args.name.now) tree path c.args.parent h s
    c.loop-step.link c.loop-step.at c.loop-step._step (c.loop-step.invariant reads tree path h s) c.if-at.false
    (entry_in e) (found_in c.args.entries.now c.loop-step.at e at.3.0 at.1) c.in_default-compare_name.ensures

pub returns-in-Equal : goal.returns-in-Equal
returns-in-Equal c = λ reads tree path h s.
    let at = c.in-Some-get.ensures.lookup in
    let e = c.in-Some-get.entry.now in
    let own = c.in-Some-compare_name.ensures in
    on_level (case_table_of c.args.letters.now) (map entry_in c.args.entries.now) (ReadBy reads) (chars c.args.name.now) tree path c.args.parent h s
    c.loop-step.link c.loop-step.at c.loop-step._step (c.loop-step.invariant reads tree path h s) c.if-at.false
    (entry_in e) (found_in c.args.entries.now c.loop-step.at e at.3.0 at.1) own.0 own.1 (sym own.2 ∙ c.in-Equal.is)

pub loop-step-preserved : goal.loop-step-preserved
loop-step-preserved c = λ reads tree path h s.
    let at = c.in-Some-get.ensures.lookup in
    let e = c.in-Some-get.entry.now in
    let own = c.in-Some-compare_name.ensures in
    let Came' = Came (case_table_of c.args.letters.now) (map entry_in c.args.entries.now) (ReadBy reads) (chars c.args.name.now) tree path c.args.parent h s in
    elim c.match-order.branch [
      | in-Less w ↦
          subst (λ k. Came' c.match-order.link k (c.loop-step._step + 1)) (sym w.at-is) (subst (λ k. Came' k (entry_in e).left (c.loop-step._step + 1)) (sym w.link-is)
          (on_left (case_table_of c.args.letters.now) (map entry_in c.args.entries.now) (ReadBy reads) (chars c.args.name.now) tree path c.args.parent h s
          c.loop-step.link c.loop-step.at c.loop-step._step (c.loop-step.invariant reads tree path h s) c.if-at.false
          (entry_in e) (found_in c.args.entries.now c.loop-step.at e at.3.0 at.1) own.0 own.1 (sym own.2 ∙ w.in-Less.is)))
      | in-Greater w ↦
          subst (λ k. Came' c.match-order.link k (c.loop-step._step + 1)) (sym w.at-is) (subst (λ k. Came' k (entry_in e).right (c.loop-step._step + 1)) (sym w.link-is)
          (on_right (case_table_of c.args.letters.now) (map entry_in c.args.entries.now) (ReadBy reads) (chars c.args.name.now) tree path c.args.parent h s
          c.loop-step.link c.loop-step.at c.loop-step._step (c.loop-step.invariant reads tree path h s) c.if-at.false
          (entry_in e) (found_in c.args.entries.now c.loop-step.at e at.3.0 at.1) own.0 own.1 (sym own.2 ∙ w.in-Greater.is)))
    ]

pub returns : goal.returns
returns c = λ reads tree path h s.
    never_ended (case_table_of c.args.letters.now) (map entry_in c.args.entries.now) (ReadBy reads) (chars c.args.name.now) tree path c.args.parent h s
    c.loop-step.link c.loop-step.at c.loop-step._step (c.loop-step.invariant reads tree path h s) (simp length-map c.loop-step-test.false)
