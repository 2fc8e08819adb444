use Rattle.std.proofs.Common.{◌≡◌, ◌<◌, ◌≤◌, ap, sym, ◌∙◌, arith}
use Rattle.std.specs.Prelude.{slice_get, Some}
use Rattle.cfb_directory.specs.Views.{entries_held}
use Rattle.cfb_mini.specs.Views.{directory_of}
use Rattle.cfb_ownership.specs.Owners.{stream_owner}
use Rattle.cfb_sectors.specs.Header.{mini_cutoff}
use Rattle.cfb_tree.specs.Directory.{Entry}
use Rattle.cfb_tree.specs.EntryViews.{entry_in}
use Rattle.cfb_tree.proofs.OneContent.{Some_same}
use Rattle.cfb_tree_edits.proofs.Freed.{freed_long, freed_short, is_long, is_short, own_minis}
use Rattle.cfb_tree_edits.proofs.freeing.free_stream.Goals as goal
use Rattle.cfb_directory.proofs.Results.{two_ok}

pub returns-then-entry-from-clause-freed : goal.returns-then-entry-from-clause-freed
returns-then-entry-from-clause-freed g c =
    let it = c.args.mini.now in
    let id = c.args.id in
    let new = c.free_short.new.mini in
    two_ok c.free_short.result _ _ _
    (λ did live who e content m found has.
    let told : slice_get (entries_held (directory_of it)) id ≡ Some (entry_in c.dir_entry-entry.result.now) = ap (λ d. slice_get (entries_held d) id) (sym c.directory.ensures) ∙ c.dir_entry-entry.ensures in
    let same : entry_in c.dir_entry-entry.result.now ≡ e = Some_same (sym told ∙ found) in
    let size = ap (λ (x : Entry). x.size) same in
    let below : e.size < mini_cutoff = let few = c.if-entry-from.true in let from = c.from.ensures in omega (arith, few, from, size) in
    let at = is_short it who m id e content has below in
    freed_short it new who id m c.free_short.ensures.invariants live.1 at.0 (did who.sectors (who.minis (stream_owner id)) m.owners (own_minis it who m (stream_owner id)) (ap (λ (x : Entry). x.start) same ∙ at.1)))
    c.free_short.ensures.freed c.free_short.ensures.error_contract.live

pub returns-then-entry-from-clause-refused_only_if : goal.returns-then-entry-from-clause-refused_only_if
returns-then-entry-from-clause-refused_only_if g c = λ wrong who e content m found has.
    let it = c.args.mini.now in
    let id = c.args.id in
    let told : slice_get (entries_held (directory_of it)) id ≡ Some (entry_in c.dir_entry-entry.result.now) = ap (λ d. slice_get (entries_held d) id) (sym c.directory.ensures) ∙ c.dir_entry-entry.ensures in
    let same : entry_in c.dir_entry-entry.result.now ≡ e = Some_same (sym told ∙ found) in
    let size = ap (λ (x : Entry). x.size) same in
    let below : e.size < mini_cutoff = let few = c.if-entry-from.true in let from = c.from.ensures in omega (arith, few, from, size) in
    let at = is_short it who m id e content has below in
    c.free_short.ensures.refused_only_if wrong who.sectors (who.minis (stream_owner id)) m.owners (own_minis it who m (stream_owner id)) (ap (λ (x : Entry). x.start) same ∙ at.1)

pub returns-clause-freed : goal.returns-clause-freed
returns-clause-freed g c =
    let it = c.args.mini.now in
    let id = c.args.id in
    let new = c.free_long.new.mini in
    two_ok c.free_long.result _ _ _
    (λ did live who e content m found has.
    let told : slice_get (entries_held (directory_of it)) id ≡ Some (entry_in c.dir_entry-entry.result.now) = ap (λ d. slice_get (entries_held d) id) (sym c.directory.ensures) ∙ c.dir_entry-entry.ensures in
    let same : entry_in c.dir_entry-entry.result.now ≡ e = Some_same (sym told ∙ found) in
    let size = ap (λ (x : Entry). x.size) same in
    let up : mini_cutoff ≤ e.size = let most = c.if-entry-from.false in let from = c.from.ensures in omega (arith, most, from, size) in
    let at = is_long it who m id e content has up in
    freed_long it new who id m c.free_long.ensures.invariants live.1 at.0 (did who.sectors (stream_owner id) m.owners (omega arith) (ap (λ (x : Entry). x.start) same ∙ at.1)))
    c.free_long.ensures.freed c.free_long.ensures.error_contract.live

pub returns-clause-refused_only_if : goal.returns-clause-refused_only_if
returns-clause-refused_only_if g c = λ wrong who e content m found has.
    let it = c.args.mini.now in
    let id = c.args.id in
    let told : slice_get (entries_held (directory_of it)) id ≡ Some (entry_in c.dir_entry-entry.result.now) = ap (λ d. slice_get (entries_held d) id) (sym c.directory.ensures) ∙ c.dir_entry-entry.ensures in
    let same : entry_in c.dir_entry-entry.result.now ≡ e = Some_same (sym told ∙ found) in
    let size = ap (λ (x : Entry). x.size) same in
    let up : mini_cutoff ≤ e.size = let most = c.if-entry-from.false in let from = c.from.ensures in omega (arith, most, from, size) in
    let at = is_long it who m id e content has up in
    c.free_long.ensures.refused_only_if wrong who.sectors (stream_owner id) m.owners (ap (λ (x : Entry). x.start) same ∙ at.1) m.orderly
