use Rattle.std.proofs.Common.{rules, ◌≡◌, ◌<◌, ◌^◌, length, ap, arith, inl, subst, sym, ◌∙◌, IsTrue}
use Rattle.cfb_medium.specs.Bytes.{overwritten}
use Rattle.cfb_medium.specs.Calls.{IsFaultOrInvalidInputIf}
use Rattle.cfb_medium.specs.declared.error.Error.TheVariants.{Full}
use Rattle.cfb_fat.proofs.GrowthSteps.{err_map}
use Rattle.cfb_tree_edits.specs.LiveTreeRules.{IsFaultOrFull}
use Rattle.cfb_sectors.proofs.Counts.{faults_only}
use Rattle.cfb_tree.specs.Tree.{Tree}
use Rattle.cfb.specs.FollowedRules.{CopiesFile, FileMeansTree}
use Rattle.cfb.specs.Views.{file_case_table}
use Rattle.cfb.proofs.Copies.{if_done, over_nothing}
use Rattle.cfb.proofs.compound_file.CompoundFile.copy_to.Goals as goal

pub returns-in-Err-clause-refused_only_if : goal.returns-in-Err-clause-refused_only_if
returns-in-Err-clause-refused_only_if g c = λ tree means. inl (c.in-Err.ensures.refused_only_if (file_case_table c.args.self.now) tree means.live)

pub returns-in-Err-clause-numbered : goal.returns-in-Err-clause-numbered
returns-in-Err-clause-numbered g c = λ full tree means. let error : c.in-Err.error ≡ Full = cc in subst (IsFaultOrInvalidInputIf ⊥) error (c.in-Err.ensures.refused_only_if (file_case_table c.args.self.now) tree means.live)

pub returns-clause-refused_only_if : goal.returns-clause-refused_only_if
returns-clause-refused_only_if g c =
    let few : length c.deref.result.now < 2 ^ 63 = search rules in
    err_map c.write_at.result (IsFaultOrInvalidInputIf ⊥) (λ e. (tree : Tree) → FileMeansTree c.args.self.now tree → IsFaultOrFull e)
    (faults_only _ c.write_at.result (λ past. omega (arith, past, few)) c.write_at.ensures.errors) (λ e fault tree means. inl fault)

pub returns-clause-copied : goal.returns-clause-copied
returns-clause-copied g c =
    let it = c.args.self.now in
    let made = c.in-Ok.ensures in
    if_done c.write_at.result (IsTrue (g.T.ReadMedium.honest c.args.target.now)) _ ((tree : Tree) → FileMeansTree it tree → CopiesFile it tree (g.T.ReadMedium.bytes c.write_at.new.self))
    (λ honest are tree means. subst (CopiesFile it tree)
    (sym (are ∙ ap (λ l. overwritten l 0 c.deref.result.now) (c.requires honest) ∙ over_nothing c.deref.result.now ∙ c.deref.ensures.value))
    (record { holds = made.copied (file_case_table it) tree means.live; strict = made.strict (file_case_table it) tree means.live }))
    c.write_at.ensures.written
