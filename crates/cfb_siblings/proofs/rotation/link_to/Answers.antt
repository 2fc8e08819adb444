use Rattle.std.proofs.Common.{chars, map, sym, subst, ◌+◌, ◌∙◌}
use Rattle.cfb_siblings.specs.Links.{holder}
use Rattle.cfb_siblings.specs.Places.{HasEntry}
use Rattle.cfb_siblings.specs.Reading.{ReadBy}
use Rattle.cfb_siblings.specs.Rotations.{IsReached}
use Rattle.cfb_siblings.proofs.Entries.{found_in}
use Rattle.cfb_siblings.proofs.Finding.{Came, came_first, on_left, on_right, on_way}
use Rattle.cfb_tree.specs.EntryViews.{entry_in}
use Rattle.cfb_tree.specs.CaseTableViews.{case_table_of}
use Rattle.cfb_siblings.proofs.rotation.link_to.Goals as goal
use Rattle.cfb_siblings.proofs.rotation.link_to.Goals.{in-Less, in-Greater}

pub loop-step-init : goal.loop-step-init
loop-step-init c =
    let at = c.in-Some.ensures.lookup in
    let found = found_in c.args.entries.now c.args.parent c.in-Some.storage.now at.3.0 at.1 in (
      (entry_in c.in-Some.storage.now, found),
      λ reads tree path h s.
          came_first (case_table_of c.args.letters.now) (map entry_in c.args.entries.now) (ReadBy reads) (chars c.args.name.now) tree path c.args.parent h s
          (entry_in c.in-Some.storage.now) found,
    )

pub returns-then-at-id : goal.returns-then-at-id
returns-then-at-id c = (
  c.loop-step.invariant.0,
  λ reads tree path h s.
      subst (IsReached (map entry_in c.args.entries.now) c.args.parent c.loop-step.link) c.if-at-id.true
      (on_way (case_table_of c.args.letters.now) (map entry_in c.args.entries.now) (ReadBy reads) (chars c.args.name.now) tree path c.args.parent h s
      c.loop-step.link c.loop-step.at c.loop-step._step (c.loop-step.invariant.1 reads tree path h s) c.if-at.false),
)

pub loop-step-preserved : goal.loop-step-preserved
loop-step-preserved c =
    let at = c.in-Some-get.ensures.lookup in
    let e = c.in-Some-get.entry.now in
    let found = found_in c.args.entries.now c.loop-step.at e at.3.0 at.1 in
    let own = c.in-Some-compare_name.ensures in
    let D = map entry_in c.args.entries.now in (
      elim c.match-order.branch as (λ x. HasEntry D (holder c.match-order.link)) [
        | in-Less w ↦ subst (λ l. HasEntry D (holder l)) (sym w.link-is) (entry_in e, found)
        | in-Greater w ↦ subst (λ l. HasEntry D (holder l)) (sym w.link-is) (entry_in e, found)
      ],
      λ reads tree path h s.
          let Came' = Came (case_table_of c.args.letters.now) D (ReadBy reads) (chars c.args.name.now) tree path c.args.parent h s in
          elim c.match-order.branch [
            | in-Less w ↦
                subst (λ k. Came' c.match-order.link k (c.loop-step._step + 1)) (sym w.at-is) (subst (λ k. Came' k (entry_in e).left (c.loop-step._step + 1)) (sym w.link-is)
                (on_left (case_table_of c.args.letters.now) D (ReadBy reads) (chars c.args.name.now) tree path c.args.parent h s
                c.loop-step.link c.loop-step.at c.loop-step._step (c.loop-step.invariant.1 reads tree path h s) c.if-at.false
                (entry_in e) found own.0 own.1 (sym own.2 ∙ w.in-Less.is)))
            | in-Greater w ↦
                subst (λ k. Came' c.match-order.link k (c.loop-step._step + 1)) (sym w.at-is) (subst (λ k. Came' k (entry_in e).right (c.loop-step._step + 1)) (sym w.link-is)
                (on_right (case_table_of c.args.letters.now) D (ReadBy reads) (chars c.args.name.now) tree path c.args.parent h s
                c.loop-step.link c.loop-step.at c.loop-step._step (c.loop-step.invariant.1 reads tree path h s) c.if-at.false
                (entry_in e) found own.0 own.1 (sym own.2 ∙ w.in-Greater.is)))
          ],
    )
