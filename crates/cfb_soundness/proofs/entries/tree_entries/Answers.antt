use Rattle.std.proofs.Common.{◌≡◌, ◌+◌, [], ◌∷◌, ◌++◌, refl, ap, sym, subst, ◌∙◌, arith}
use Rattle.std.proofs.lemmas.List.{nil_from_length}
use Rattle.cfb_tree.specs.EntryViews.{entry_in}
use Rattle.cfb_directory.specs.Views.{entries_held}
use Rattle.cfb_soundness.specs.declared.entries.Step.TheVariants.{Hanging, Met}
use Rattle.cfb_soundness.proofs.EntrySteps.{walk_begins, walk_ends, walk_meets, walk_passes, walk_tells, Walked}
use Rattle.cfb_soundness.proofs.entries.tree_entries.Goals as goal

pub walk-init : goal.walk-init
walk-init g c =
    let d = entries_held c.args.directory.now in
    let root = entry_in c.root_dir_entry.result.now in
    let pending = c.in_ok-push.ensures.items ∙ ap (λ xs. xs ++ Hanging root.child ∷ []) c.new-pending.ensures.items in (
      root,
      c.root_dir_entry.ensures,
      subst (λ ids. Walked d root.child ids c.push.new.self.items 0) (sym c.new-ids.ensures.items)
          (subst (λ steps. Walked d root.child [] steps 0) (sym pending) (walk_begins d root.child)),
    )

pub walk-preserved-in-Continue-branch-2 : goal.walk-preserved-in-Continue-branch-2
walk-preserved-in-Continue-branch-2 g c =
    let d = entries_held c.args.directory.now in
    let (root, found, walked) = c.walk.invariant in
    let links = c.pop.new.self.items in
    let steps : c.walk.pending.items ≡ links ++ Met c.in-Met.id ∷ [] = c.in-Some.ensures.items ∙ ap (λ s. links ++ s ∷ []) c.in-Met.is in (
      root,
      found,
      subst (λ ids. Walked d root.child ids links c.walk.met) (sym c.in_ok-push-in-Met.ensures.items)
          (walk_tells d root.child c.walk.ids.items links c.in-Met.id c.walk.met (subst (λ ss. Walked d root.child c.walk.ids.items ss c.walk.met) steps walked)),
    )

pub walk-preserved-then-not-may_be_there : goal.walk-preserved-then-not-may_be_there
walk-preserved-then-not-may_be_there g c =
    let d = entries_held c.args.directory.now in
    let (root, found, walked) = c.walk.invariant in
    let links = c.pop.new.self.items in
    let steps : c.walk.pending.items ≡ links ++ Hanging c.in-Hanging.id ∷ [] = c.in-Some.ensures.items ∙ ap (λ s. links ++ s ∷ []) c.in-Hanging.is in (
      root,
      found,
      walk_passes d root.child c.walk.ids.items links c.in-Hanging.id c.walk.met
          (λ fits. let wrong = c.if-not-may_be_there.ensures.1 fits in absurd (cc))
          (subst (λ ss. Walked d root.child c.walk.ids.items ss c.walk.met) steps walked),
    )

pub walk-preserved : goal.walk-preserved
walk-preserved g c =
    let d = entries_held c.args.directory.now in
    let (root, found, walked) = c.walk.invariant in
    let links = c.pop.new.self.items in
    let e = entry_in c.dir_entry.result.now in
    let fits = c.if-not-may_be_there.ensures.0 refl in
    let steps : c.walk.pending.items ≡ links ++ Hanging c.in-Hanging.id ∷ [] = c.in-Some.ensures.items ∙ ap (λ s. links ++ s ∷ []) c.in-Hanging.is in (
      root,
      found,
      subst (λ ss. Walked d root.child c.walk.ids.items ss (c.walk.met + 1)) (sym c.in_ok-push_steps-in-Hanging.ensures.added)
          (walk_meets d root.child c.walk.ids.items links c.in-Hanging.id c.walk.met e fits.0 c.dir_entry.ensures
          (subst (λ ss. Walked d root.child c.walk.ids.items ss c.walk.met) steps walked)),
    )

pub returns-clause-all : goal.returns-clause-all
returns-clause-all g c =
    let d = entries_held c.args.directory.now in
    let (root, found, walked) = c.walk.invariant in
    let empty : c.walk.pending.items ≡ [] = nil_from_length c.walk.pending.items (omega (arith, c.walk.pending.ok.0, c.in_default.ensures.cases.0)) in
    walk_ends d root.child root c.walk.ids.items c.walk.met found refl (subst (λ ss. Walked d root.child c.walk.ids.items ss c.walk.met) empty walked)
