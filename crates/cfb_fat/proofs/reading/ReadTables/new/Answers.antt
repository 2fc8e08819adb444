use Rattle.std.proofs.Common.{sym, subst, ◌++◌, ◌∙◌}
use Rattle.cfb_chains.specs.Changes.{IsNotIn}
use Rattle.cfb_chains.proofs.Beside.{none_both, none_first, none_second}
use Rattle.std.proofs.lemmas.List.Sorted.{IsPermutation-sym}
use Rattle.cfb_fat.proofs.Rising.{all_read, none_shuffled, rise_sorted}
use Rattle.cfb_fat.proofs.reading.ReadTables.new.Goals as goal

pub invariant_of-result : goal.invariant_of-result
invariant_of-result c = record { rise = rise_sorted _ c.sort_unstable.ensures.sorted }

pub returns-clause-difat : goal.returns-clause-difat
returns-clause-difat c =
    let ds = c.args.difat_sectors.now in
    let fs = c.args.fat_sectors.now in
    let ids = c.sort_unstable.new.self.items in
    all_read ids ds (λ n none. none_first ds fs n (subst (λ l. IsNotIn l n) c.in_ok-ids.ensures (none_shuffled ids _ (IsPermutation-sym _ ids c.sort_unstable.ensures.permutation) n none)))

pub returns-clause-fat : goal.returns-clause-fat
returns-clause-fat c =
    let ds = c.args.difat_sectors.now in
    let fs = c.args.fat_sectors.now in
    let ids = c.sort_unstable.new.self.items in
    all_read ids fs (λ n none. none_second ds fs n (subst (λ l. IsNotIn l n) c.in_ok-ids.ensures (none_shuffled ids _ (IsPermutation-sym _ ids c.sort_unstable.ensures.permutation) n none)))

pub returns-clause-alone : goal.returns-clause-alone
returns-clause-alone c = λ n no_ds no_fs.
    let ds = c.args.difat_sectors.now in
    let fs = c.args.fat_sectors.now in
    none_shuffled _ _ c.sort_unstable.ensures.permutation n (subst (λ l. IsNotIn l n) (sym c.in_ok-ids.ensures) (none_both ds fs n no_ds no_fs))
