use Rattle.std.proofs.Common.{rules, ◌≡◌, [], refl, sym, subst}
use Rattle.cfb_fat.specs.Tables.{difat_sectors_of, fat_sectors_of}
use Rattle.cfb_directory.specs.Views.{directory_ids}
use Rattle.cfb_mini.specs.Views.{allocator_of, directory_of, mini_fat_ids, mini_stream_ids}
use Rattle.cfb_soundness.specs.Marks.{CanTake, MarksEachOnce}
use Rattle.cfb_soundness.specs.Views.{marks_of}
use Rattle.cfb_soundness.proofs.UsesFound.{can_fifth, can_first, can_fourth, can_second, can_third, take_five}
use Rattle.cfb_soundness.proofs.soundness.take_tables.Goals as goal

pub returns-then-not-take_all-clause-refused_only_if : goal.returns-then-not-take_all-clause-refused_only_if
returns-then-not-take_all-clause-refused_only_if g c = λ no can.
    let a : c.fat_sectors.result.now ≡ fat_sectors_of (allocator_of c.args.file.now) = search rules in
    c.if-not-take_all.ensures.refused_only_if refl (subst (λ xs. CanTake xs (marks_of c.args.sectors.now)) (sym a)
    (can_first (fat_sectors_of (allocator_of c.args.file.now)) (difat_sectors_of (allocator_of c.args.file.now)) (directory_ids (directory_of c.args.file.now)) (mini_fat_ids c.args.file.now) (mini_stream_ids c.args.file.now) (marks_of c.args.sectors.now) [] [] [] [] []
    can))

pub returns-then-not-take_all-2-clause-refused_only_if : goal.returns-then-not-take_all-2-clause-refused_only_if
returns-then-not-take_all-2-clause-refused_only_if g c = λ no can.
    let a : c.fat_sectors.result.now ≡ fat_sectors_of (allocator_of c.args.file.now) = search rules in
    let b : c.difat_sectors.result.now ≡ difat_sectors_of (allocator_of c.args.file.now) = search rules in
    c.if-not-take_all-2.ensures.refused_only_if refl (subst (λ xs. CanTake xs (marks_of c.take_all.new.self)) (sym b)
    (can_second (fat_sectors_of (allocator_of c.args.file.now)) (difat_sectors_of (allocator_of c.args.file.now)) (directory_ids (directory_of c.args.file.now)) (mini_fat_ids c.args.file.now) (mini_stream_ids c.args.file.now) (marks_of c.args.sectors.now) (marks_of c.take_all.new.self) [] [] [] []
    (subst (λ xs. MarksEachOnce xs (marks_of c.args.sectors.now) (marks_of c.take_all.new.self)) a (c.if-not-take_all.ensures.took refl))
    can))

pub returns-then-not-take_all-3-clause-refused_only_if : goal.returns-then-not-take_all-3-clause-refused_only_if
returns-then-not-take_all-3-clause-refused_only_if g c = λ no can.
    let a : c.fat_sectors.result.now ≡ fat_sectors_of (allocator_of c.args.file.now) = search rules in
    let b : c.difat_sectors.result.now ≡ difat_sectors_of (allocator_of c.args.file.now) = search rules in
    let d : c.sectors.result.now ≡ directory_ids (directory_of c.args.file.now) = search rules in
    c.if-not-take_all-3.ensures.refused_only_if refl (subst (λ xs. CanTake xs (marks_of c.take_all-2.new.self)) (sym d)
    (can_third (fat_sectors_of (allocator_of c.args.file.now)) (difat_sectors_of (allocator_of c.args.file.now)) (directory_ids (directory_of c.args.file.now)) (mini_fat_ids c.args.file.now) (mini_stream_ids c.args.file.now) (marks_of c.args.sectors.now) (marks_of c.take_all.new.self) (marks_of c.take_all-2.new.self) [] [] []
    (subst (λ xs. MarksEachOnce xs (marks_of c.args.sectors.now) (marks_of c.take_all.new.self)) a (c.if-not-take_all.ensures.took refl))
    (subst (λ xs. MarksEachOnce xs (marks_of c.take_all.new.self) (marks_of c.take_all-2.new.self)) b (c.if-not-take_all-2.ensures.took refl))
    can))

pub returns-then-not-take_all-4-clause-refused_only_if : goal.returns-then-not-take_all-4-clause-refused_only_if
returns-then-not-take_all-4-clause-refused_only_if g c = λ no can.
    let a : c.fat_sectors.result.now ≡ fat_sectors_of (allocator_of c.args.file.now) = search rules in
    let b : c.difat_sectors.result.now ≡ difat_sectors_of (allocator_of c.args.file.now) = search rules in
    let d : c.sectors.result.now ≡ directory_ids (directory_of c.args.file.now) = search rules in
    let e : c.mini_fat_sectors.result.now ≡ mini_fat_ids c.args.file.now = search rules in
    c.if-not-take_all-4.ensures.refused_only_if refl (subst (λ xs. CanTake xs (marks_of c.take_all-3.new.self)) (sym e)
    (can_fourth (fat_sectors_of (allocator_of c.args.file.now)) (difat_sectors_of (allocator_of c.args.file.now)) (directory_ids (directory_of c.args.file.now)) (mini_fat_ids c.args.file.now) (mini_stream_ids c.args.file.now) (marks_of c.args.sectors.now) (marks_of c.take_all.new.self) (marks_of c.take_all-2.new.self) (marks_of c.take_all-3.new.self) [] []
    (subst (λ xs. MarksEachOnce xs (marks_of c.args.sectors.now) (marks_of c.take_all.new.self)) a (c.if-not-take_all.ensures.took refl))
    (subst (λ xs. MarksEachOnce xs (marks_of c.take_all.new.self) (marks_of c.take_all-2.new.self)) b (c.if-not-take_all-2.ensures.took refl))
    (subst (λ xs. MarksEachOnce xs (marks_of c.take_all-2.new.self) (marks_of c.take_all-3.new.self)) d (c.if-not-take_all-3.ensures.took refl))
    can))

pub returns-clause-refused_only_if : goal.returns-clause-refused_only_if
returns-clause-refused_only_if g c = λ no can.
    let a : c.fat_sectors.result.now ≡ fat_sectors_of (allocator_of c.args.file.now) = search rules in
    let b : c.difat_sectors.result.now ≡ difat_sectors_of (allocator_of c.args.file.now) = search rules in
    let d : c.sectors.result.now ≡ directory_ids (directory_of c.args.file.now) = search rules in
    let e : c.mini_fat_sectors.result.now ≡ mini_fat_ids c.args.file.now = search rules in
    let f : c.mini_stream_sectors.result.now ≡ mini_stream_ids c.args.file.now = search rules in
    c.take_all-5.ensures.refused_only_if no (subst (λ xs. CanTake xs (marks_of c.take_all-4.new.self)) (sym f)
    (can_fifth (fat_sectors_of (allocator_of c.args.file.now)) (difat_sectors_of (allocator_of c.args.file.now)) (directory_ids (directory_of c.args.file.now)) (mini_fat_ids c.args.file.now) (mini_stream_ids c.args.file.now) (marks_of c.args.sectors.now) (marks_of c.take_all.new.self) (marks_of c.take_all-2.new.self) (marks_of c.take_all-3.new.self) (marks_of c.take_all-4.new.self) []
    (subst (λ xs. MarksEachOnce xs (marks_of c.args.sectors.now) (marks_of c.take_all.new.self)) a (c.if-not-take_all.ensures.took refl))
    (subst (λ xs. MarksEachOnce xs (marks_of c.take_all.new.self) (marks_of c.take_all-2.new.self)) b (c.if-not-take_all-2.ensures.took refl))
    (subst (λ xs. MarksEachOnce xs (marks_of c.take_all-2.new.self) (marks_of c.take_all-3.new.self)) d (c.if-not-take_all-3.ensures.took refl))
    (subst (λ xs. MarksEachOnce xs (marks_of c.take_all-3.new.self) (marks_of c.take_all-4.new.self)) e (c.if-not-take_all-4.ensures.took refl))
    can))

pub returns-clause-took : goal.returns-clause-took
returns-clause-took g c = λ yes.
    let a : c.fat_sectors.result.now ≡ fat_sectors_of (allocator_of c.args.file.now) = search rules in
    let b : c.difat_sectors.result.now ≡ difat_sectors_of (allocator_of c.args.file.now) = search rules in
    let d : c.sectors.result.now ≡ directory_ids (directory_of c.args.file.now) = search rules in
    let e : c.mini_fat_sectors.result.now ≡ mini_fat_ids c.args.file.now = search rules in
    let f : c.mini_stream_sectors.result.now ≡ mini_stream_ids c.args.file.now = search rules in
    take_five (fat_sectors_of (allocator_of c.args.file.now)) (difat_sectors_of (allocator_of c.args.file.now)) (directory_ids (directory_of c.args.file.now)) (mini_fat_ids c.args.file.now) (mini_stream_ids c.args.file.now) (marks_of c.args.sectors.now) (marks_of c.take_all.new.self) (marks_of c.take_all-2.new.self) (marks_of c.take_all-3.new.self) (marks_of c.take_all-4.new.self) (marks_of c.take_all-5.new.self)
    (subst (λ xs. MarksEachOnce xs (marks_of c.args.sectors.now) (marks_of c.take_all.new.self)) a (c.if-not-take_all.ensures.took refl))
    (subst (λ xs. MarksEachOnce xs (marks_of c.take_all.new.self) (marks_of c.take_all-2.new.self)) b (c.if-not-take_all-2.ensures.took refl))
    (subst (λ xs. MarksEachOnce xs (marks_of c.take_all-2.new.self) (marks_of c.take_all-3.new.self)) d (c.if-not-take_all-3.ensures.took refl))
    (subst (λ xs. MarksEachOnce xs (marks_of c.take_all-3.new.self) (marks_of c.take_all-4.new.self)) e (c.if-not-take_all-4.ensures.took refl))
    (subst (λ xs. MarksEachOnce xs (marks_of c.take_all-4.new.self) (marks_of c.take_all-5.new.self)) f (c.take_all-5.ensures.took yes))
