use Rattle.std.proofs.Common.{rules, ◌≡◌, ◌∙◌, ◌++◌, sym, subst}
use Rattle.cfb_sectors.specs.Held.{count_of}
use Rattle.cfb_fat.specs.Tables.{fat_of, sectors_of}
use Rattle.cfb_directory.specs.Views.{entries_held}
use Rattle.cfb_mini.specs.Views.{allocator_of, directory_of}
use Rattle.cfb_soundness.specs.Views.{table_sectors}
use Rattle.cfb_findings.specs.Findings.{is_long, starts_where, HasTree}
use Rattle.cfb_findings.proofs.Listed.{found_among}
use Rattle.cfb_findings.proofs.sharing.shared_sectors.Goals as goal

pub returns-clause-found : goal.returns-clause-found
returns-clause-found g c = λ ids tree.
    let file = c.args.file.now in
    let (all, chains, counted) = c.in_ok-counts.ensures.counted in
    let entries = entries_held (directory_of file) in
    let same : entries_held c.directory-2.result.now ≡ entries = search rules in
    let told : c.in_ok-starts.starts.items ≡ starts_where is_long entries ids =
    subst (λ es. c.in_ok-starts.starts.items ≡ starts_where is_long es ids) same (c.in_ok-starts.ensures.starts ids (subst (λ es. HasTree es ids) (sym same) tree)) in
    found_among c.shared.result _ (count_of (sectors_of (allocator_of file))) c.deref.result.now (fat_of (allocator_of file)) c.deref-2.result.now (starts_where is_long entries ids)
    (table_sectors file) all (search rules) (c.deref-2.ensures.value ∙ told) (search rules) chains
    (c.shared.ensures.found (table_sectors file ++ all) (c.count_tables.ensures.counted all counted))
