use Rattle.std.proofs.Common.{rules, ◌≡◌, ◌∙◌, ◌+◌, [], length, min, sym, subst}
use Rattle.cfb_sectors.specs.Sectors.{greatest_regular}
use Rattle.cfb_directory.specs.Views.{entries_held}
use Rattle.cfb_mini.specs.Views.{directory_of, mini_fat_of}
use Rattle.cfb_findings.specs.Findings.{is_short, starts_where, HasTree}
use Rattle.cfb_findings.proofs.Listed.{found_among}
use Rattle.cfb_findings.proofs.sharing.shared_mini_sectors.Goals as goal

pub returns-clause-found : goal.returns-clause-found
returns-clause-found g c = λ ids tree.
    let file = c.args.file.now in
    let (all, chains, counted) = c.in_ok-counts.ensures.counted in
    let entries = entries_held (directory_of file) in
    let same : entries_held c.directory-2.result.now ≡ entries = search rules in
    let told : c.in_ok-starts.starts.items ≡ starts_where is_short entries ids =
    subst (λ es. c.in_ok-starts.starts.items ≡ starts_where is_short es ids) same (c.in_ok-starts.ensures.starts ids (subst (λ es. HasTree es ids) (sym same) tree)) in
    found_among c.shared.result _ (min (length (mini_fat_of file)) (greatest_regular + 1)) c.mini_fat-links.result.now (mini_fat_of file) c.deref.result.now (starts_where is_short entries ids)
    [] all (search rules) (c.deref.ensures.value ∙ told) (search rules) chains
    (c.shared.ensures.found all counted)
