use Rattle.std.proofs.Common.{ap, sym, subst, not, true, ◌∙◌}
use Rattle.std.specs.Prelude.{unwrap_or}
use Rattle.cfb_entries.specs.Rules.{names_in, EntriesHoldSizes}
use Rattle.cfb_spec.specs.TreeRules.{yes}
use Rattle.cfb_tree.specs.CaseTableViews.{case_table_of}
use Rattle.cfb.proofs.Saying.{storage_said}
use Rattle.cfb.proofs.compound_file.CompoundFile.is_storage.Goals as goal

pub returns : goal.returns
returns g c = λ tree h.
    let letters = case_table_of c.args.self.now.letters in
    let kind = c.is_stream_at-kind.ensures tree (subst (λ directory. EntriesHoldSizes letters directory tree) (sym c.entries.ensures) h) in
    ap (λ b. yes (not b)) (c.unwrap_or.ensures ∙ ap (λ k. unwrap_or k true) kind) ∙ storage_said letters tree (names_in c.args.path.now)
