use Rattle.std.proofs.Common.{◌∙◌, List, ℕ, subst}
use Rattle.std.specs.Prelude.{IfOk}
use Rattle.cfb_directory.specs.Views.{entries_held}
use Rattle.cfb_mini.specs.Views.{directory_of}
use Rattle.cfb_soundness.specs.Entries.{AreTreeEntries}
use Rattle.cfb_findings.specs.Seen.{tables_seen}
use Rattle.cfb_findings.specs.Broken.{AreBroken}
use Rattle.cfb_findings.specs.Held.{TellsTables}
use Rattle.cfb_findings.proofs.Listed.{tree_is}
use Rattle.cfb_findings.proofs.streams.broken_streams.Goals as goal

pub returns-clause-found : goal.returns-clause-found
returns-clause-found g c = λ ids tree.
    let file = c.args.file.now in
    let t = tables_seen file c.args.file_len in
    let found = c.in_ok-ids.ids.items in
    let tells : TellsTables t c.in_ok-fat.fat c.in_ok-minis.minis = record { of_fat = c.in_ok-fat.ensures.tells; of_minis = c.in_ok-minis.ensures.tells } in
    let all : AreTreeEntries (entries_held (directory_of file)) found = subst (λ d. AreTreeEntries (entries_held d) found) c.directory-2.ensures c.in_ok-ids.ensures.all in
    subst (λ (l : List ℕ). IfOk c.broken_of.result (λ broken. AreBroken t l broken.items)) (c.deref.ensures.value ∙ tree_is (entries_held (directory_of file)) found ids all tree)
    (c.broken_of.ensures.found c.args.file_len tells)
