use Rattle.std.proofs.Common.{◌≡◌, ◌∙◌, List, ℕ, subst}
use Rattle.std.specs.Prelude.{IfOk}
use Rattle.cfb_directory.specs.Views.{entries_held}
use Rattle.cfb_findings.specs.Findings.{is_long, starts_where}
use Rattle.cfb_findings.proofs.Listed.{tree_is}
use Rattle.cfb_findings.proofs.starts.long_starts.Goals as goal

pub returns-clause-starts : goal.returns-clause-starts
returns-clause-starts g c = λ ids tree.
    let entries = entries_held c.args.directory.now in
    subst (λ (l : List ℕ). IfOk c.long_starts_of.result (λ starts. starts.items ≡ starts_where is_long entries l))
    (c.deref.ensures.value ∙ tree_is entries c.in_ok-ids.ids.items ids c.in_ok-ids.ensures.all tree) c.long_starts_of.ensures.starts
