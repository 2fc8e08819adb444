use Rattle.std.proofs.Common.{◌≡◌, ap, subst, sym, ◌∙◌}
use Rattle.cfb_directory.specs.Entries.{entries_in}
use Rattle.cfb_directory.specs.Views.{entries_held}
use Rattle.cfb_tree_edits.specs.Live.{live_of}
use Rattle.cfb_mini.specs.Views.{allocator_of}
use Rattle.cfb_soundness.specs.Entries.{AreTreeEntries}
use Rattle.cfb_copying.specs.Steps.{HasCopy, IsOriginal}
use Rattle.cfb_copying.proofs.CopiesHeld.{copy_holds, copy_taken, held_entries, mini_fat_first, original, size_fits}
use Rattle.cfb_copying.proofs.copying.copy_of.Goals as goal

pub returns-in-Ok-clause-copied : goal.returns-in-Ok-clause-copied
returns-in-Ok-clause-copied g c = λ letters tree m.
    let mini = c.args.mini.now in
    let ids = c.in_ok-ids.ids.items in
    let all = subst (λ d. AreTreeEntries (entries_held d) ids) c.directory-2.ensures c.in_ok-ids.ensures.all in
    let entries : (live_of mini).entries ≡ entries_in c.deref_mut.result.now =
    held_entries mini letters tree m ∙ ap entries_held (sym c.directory-3.ensures) ∙ sym c.dir_entries.ensures ∙ ap entries_in (sym (c.deref_mut.ensures.value ∙ c.in_ok-entries.ensures)) in
    copy_holds mini letters tree m ids c.in-Ok.bytes.items c.root_len-root_len.result all
    (subst (λ l. HasCopy (live_of mini) m.who l c.root_len-root_len.result c.in-Ok.bytes.items) c.deref.ensures.value
    (c.in-Ok.ensures.copied (live_of mini) m.who (subst (IsOriginal (allocator_of mini) (live_of mini) m.who) (sym c.deref.ensures.value) (original mini letters tree m ids all)) entries
    (c.mini_fat_start-mini_fat_at.ensures ∙ mini_fat_first mini letters tree m) (size_fits mini letters tree m c.root_len-root_len.result c.root_len-root_len.ensures.fits)))
    c.root_len-root_len.ensures.sized

pub returns-in-Ok-clause-strict : goal.returns-in-Ok-clause-strict
returns-in-Ok-clause-strict g c = λ letters tree m.
    let mini = c.args.mini.now in
    let ids = c.in_ok-ids.ids.items in
    let all = subst (λ d. AreTreeEntries (entries_held d) ids) c.directory-2.ensures c.in_ok-ids.ensures.all in
    let entries : (live_of mini).entries ≡ entries_in c.deref_mut.result.now =
    held_entries mini letters tree m ∙ ap entries_held (sym c.directory-3.ensures) ∙ sym c.dir_entries.ensures ∙ ap entries_in (sym (c.deref_mut.ensures.value ∙ c.in_ok-entries.ensures)) in
    copy_taken mini letters tree m ids c.in-Ok.bytes.items c.root_len-root_len.result all
    (subst (λ l. HasCopy (live_of mini) m.who l c.root_len-root_len.result c.in-Ok.bytes.items) c.deref.ensures.value
    (c.in-Ok.ensures.copied (live_of mini) m.who (subst (IsOriginal (allocator_of mini) (live_of mini) m.who) (sym c.deref.ensures.value) (original mini letters tree m ids all)) entries
    (c.mini_fat_start-mini_fat_at.ensures ∙ mini_fat_first mini letters tree m) (size_fits mini letters tree m c.root_len-root_len.result c.root_len-root_len.ensures.fits)))

pub returns-clause-refused_only_if : goal.returns-clause-refused_only_if
returns-clause-refused_only_if g c = λ letters tree m.
    let mini = c.args.mini.now in
    let ids = c.in_ok-ids.ids.items in
    let all = subst (λ d. AreTreeEntries (entries_held d) ids) c.directory-2.ensures c.in_ok-ids.ensures.all in
    let entries : (live_of mini).entries ≡ entries_in c.deref_mut.result.now =
    held_entries mini letters tree m ∙ ap entries_held (sym c.directory-3.ensures) ∙ sym c.dir_entries.ensures ∙ ap entries_in (sym (c.deref_mut.ensures.value ∙ c.in_ok-entries.ensures)) in
    c.in-Err.ensures.refused_only_if (live_of mini) m.who (subst (IsOriginal (allocator_of mini) (live_of mini) m.who) (sym c.deref.ensures.value) (original mini letters tree m ids all)) entries
    (c.mini_fat_start-mini_fat_at.ensures ∙ mini_fat_first mini letters tree m) (size_fits mini letters tree m c.root_len-root_len.result c.root_len-root_len.ensures.fits)
