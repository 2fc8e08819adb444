use Rattle.std.proofs.Common.{rules, ◌≡◌, ◌≤◌, false, length, replicate, refl, ap, sym, subst, ◌∙◌, true}
use Rattle.cfb_sectors.specs.Held.{count_of}
use Rattle.cfb_fat.specs.Tables.{bytes_of, difat_sectors_of, fat_of, fat_sectors_of, sectors_of}
use Rattle.cfb_directory.specs.Views.{entries_held}
use Rattle.cfb_mini.specs.Views.{allocator_of, directory_of, mini_fat_of}
use Rattle.cfb_spec.specs.Sound.{IsSoundContainer}
use Rattle.cfb_soundness.specs.Entries.{AreTreeEntries}
use Rattle.cfb_soundness.specs.Uses.{AreInUse}
use Rattle.cfb_soundness.specs.Views.{marks_of}
use Rattle.cfb_soundness.proofs.InMemory.{by_test, if_ok_both, judged_so, sound_where_taken, unsound_tables, unsound_where_refused}
use Rattle.cfb_soundness.proofs.soundness.is_sound.Goals as goal

no : false ≡ true → ⊥
no wrong = cc

pub returns-then-not-covers_the_file-clause-sound : goal.returns-then-not-covers_the_file-clause-sound
returns-then-not-covers_the_file-clause-sound g c = λ letters l tree so len m.
    let same : c.allocator-allocator.result.now ≡ allocator_of c.args.file.now = search rules in (
      (λ wrong. absurd (no wrong)),
      λ sound.
          let j = judged_so c.args.file.now c.args.file_len letters l tree so len m sound in
          absurd (no (c.if-not-covers_the_file.ensures.1 (subst (λ a. count_of (sectors_of a) ≤ length (fat_of a)) (sym same) j.covers))),
    )

pub returns-then-not-are_in_use-clause-sound : goal.returns-then-not-are_in_use-clause-sound
returns-then-not-are_in_use-clause-sound g c = λ letters l tree so len m.
    let same : c.allocator-allocator.result.now ≡ allocator_of c.args.file.now = search rules in
    let list : c.fat_sectors.result.now ≡ fat_sectors_of (allocator_of c.args.file.now) = search rules in (
      (λ wrong. absurd (no wrong)),
      λ sound.
          let j = judged_so c.args.file.now c.args.file_len letters l tree so len m sound in
          absurd (no (c.if-not-are_in_use.ensures.1 (subst (λ a. AreInUse (fat_of a) c.fat_sectors.result.now) (sym same) (subst (AreInUse (fat_of (allocator_of c.args.file.now))) (sym list) j.fat_used)))),
    )

pub returns-then-not-are_in_use-2-clause-sound : goal.returns-then-not-are_in_use-2-clause-sound
returns-then-not-are_in_use-2-clause-sound g c = λ letters l tree so len m.
    let same : c.allocator-allocator.result.now ≡ allocator_of c.args.file.now = search rules in
    let list : c.difat_sectors.result.now ≡ difat_sectors_of (allocator_of c.args.file.now) = search rules in (
      (λ wrong. absurd (no wrong)),
      λ sound.
          let j = judged_so c.args.file.now c.args.file_len letters l tree so len m sound in
          absurd (no (c.if-not-are_in_use-2.ensures.1 (subst (λ a. AreInUse (fat_of a) c.difat_sectors.result.now) (sym same) (subst (AreInUse (fat_of (allocator_of c.args.file.now))) (sym list) j.difat_used)))),
    )

pub returns-then-not-take_tables-clause-sound : goal.returns-then-not-take_tables-clause-sound
returns-then-not-take_tables-clause-sound g c = λ letters l tree so len m.
    let same : c.allocator-allocator.result.now ≡ allocator_of c.args.file.now = search rules in
    let starts : marks_of c.in_ok-new.field-0 ≡ replicate (count_of (sectors_of (allocator_of c.args.file.now))) false =
    c.in_ok-new.ensures.none ∙ ap (λ n. replicate n false) (c.num_sectors.ensures ∙ ap (λ a. count_of (sectors_of a)) same) in (
      (λ wrong. absurd (no wrong)),
      λ sound. absurd (unsound_tables c.args.file.now c.args.file_len letters l tree so len m (marks_of c.in_ok-new.field-0) starts (c.if-not-take_tables.ensures.refused_only_if refl) sound),
    )

pub returns-clause-sound : goal.returns-clause-sound
returns-clause-sound g c =
    let file = c.args.file.now in
    let same : c.allocator-allocator.result.now ≡ allocator_of file = search rules in
    let fat_list : c.fat_sectors.result.now ≡ fat_sectors_of (allocator_of file) = search rules in
    let difat_list : c.difat_sectors.result.now ≡ difat_sectors_of (allocator_of file) = search rules in
    let starts : marks_of c.in_ok-new.field-0 ≡ replicate (count_of (sectors_of (allocator_of file))) false =
    c.in_ok-new.ensures.none ∙ ap (λ n. replicate n false) (c.num_sectors.ensures ∙ ap (λ a. count_of (sectors_of a)) same) in
    let mini_starts : marks_of c.in_ok-new-2.field-0 ≡ replicate (length (mini_fat_of file)) false =
    c.in_ok-new-2.ensures.none ∙ ap (λ xs. replicate (length xs) false) c.mini_fat.ensures in
    let all : AreTreeEntries (entries_held (directory_of file)) c.deref.result.now =
    subst (AreTreeEntries (entries_held (directory_of file))) (sym c.deref.ensures.value) (subst (λ d. AreTreeEntries (entries_held d) c.in_ok-ids.ids.items) c.directory-2.ensures c.in_ok-ids.ensures.all) in
    let tables = c.if-not-take_tables.ensures.took refl in
    let covers : count_of (sectors_of (allocator_of file)) ≤ length (fat_of (allocator_of file)) =
    subst (λ a. count_of (sectors_of a) ≤ length (fat_of a)) same (c.if-not-covers_the_file.ensures.0 refl) in
    let fat_used : AreInUse (fat_of (allocator_of file)) (fat_sectors_of (allocator_of file)) =
    subst (AreInUse (fat_of (allocator_of file))) fat_list (subst (λ a. AreInUse (fat_of a) c.fat_sectors.result.now) same (c.if-not-are_in_use.ensures.0 refl)) in
    let difat_used : AreInUse (fat_of (allocator_of file)) (difat_sectors_of (allocator_of file)) =
    subst (AreInUse (fat_of (allocator_of file))) difat_list (subst (λ a. AreInUse (fat_of a) c.difat_sectors.result.now) same (c.if-not-are_in_use-2.ensures.0 refl)) in
    if_ok_both c.take_entries.result _ _ _
    (λ ok took refused letters l tree so len m. by_test (IsSoundContainer letters (bytes_of (allocator_of file))) ok
    (λ yes. let (sectors, minis, have, takes) = took yes in
    sound_where_taken file c.args.file_len letters l tree so len m (marks_of c.in_ok-new.field-0) (record { sectors = c.take_tables.new.sectors; minis = c.in_ok-new-2.field-0 }) c.deref.result.now starts all mini_starts tables
    covers fat_used difat_used sectors minis c.take_entries.new.self have takes)
    (λ no. unsound_where_refused file c.args.file_len letters l tree so len m (marks_of c.in_ok-new.field-0) (record { sectors = c.take_tables.new.sectors; minis = c.in_ok-new-2.field-0 }) c.deref.result.now starts all mini_starts tables
    (refused no)))
    c.take_entries.ensures.took c.take_entries.ensures.refused_only_if
