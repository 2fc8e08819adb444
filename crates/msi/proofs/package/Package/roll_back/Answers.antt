use Rattle.std.proofs.Common.{◌≡◌, ◌∙◌, false, inl, inr, refl, ⊎_elim}
use Rattle.msi.proofs.RolledBack.{cause_last, continues_back, continues_last, goes_back, honest_back, honest_last, lost_all, differ, no_way_by_file, no_way_by_judgement, no_way_by_parts}
use Rattle.msi.specs.Opened.{file_in, sound_in}
use Rattle.msi.proofs.package.Package.roll_back.Goals as goal

pub returns-in-Err-clause-left : goal.returns-in-Err-clause-left
returns-in-Err-clause-left g c =
    ⊎_elim (λ rests. inl (record { file = rests; tables = refl; kind = refl; pool = refl; summary = refl; sound = refl; written = refl })) (λ lost. inr lost) c.in-Err.ensures.left

pub returns-in-Err-clause-refused_only_if : goal.returns-in-Err-clause-refused_only_if
returns-in-Err-clause-refused_only_if g c = no_way_by_file g.F.Medium.has_published (g.F.Medium.survives ≡ false) c.args.self.now c.in-Err.error c.in-Err.ensures.errors (λ is. c.in-Err.ensures.refused_only_if (rw is refl))

pub returns-in-Err-clause-errors : goal.returns-in-Err-clause-errors
returns-in-Err-clause-errors g c = ⊎_elim (λ fault. inl fault) (λ is. inr (inr (inl is))) c.in-Err.ensures.errors

pub returns-in-Err-clause-letters : goal.returns-in-Err-clause-letters
returns-in-Err-clause-letters g c = c.roll_back_as.ensures.reader.letters

pub returns-in-Err-read_again-clause-left : goal.returns-in-Err-read_again-clause-left
returns-in-Err-read_again-clause-left g c =
    inr (lost_all g.F.Medium.has_published (g.F.Medium.survives ≡ false) c.args.self.now c.roll_back_as.new.self c.in_default.ensures.rolled c.roll_back_as.ensures.reader.letters c.roll_back_as.ensures.honest
    c.in-Err-read_again.ensures.after_error.new c.fail.new.self c.in-Err-read_again.ensures.after_error.rests (c.fail.ensures.fails.sectors.medium ∙ c.in-Err-read_again.ensures.after_error.medium_is) c.fail.ensures.fails.sectors.failed)

pub returns-in-Err-read_again-clause-refused_only_if : goal.returns-in-Err-read_again-clause-refused_only_if
returns-in-Err-read_again-clause-refused_only_if g c =
    no_way_by_parts g.F.Medium.has_published (g.F.Medium.survives ≡ false) c.args.self.now c.roll_back_as.new.self c.in_default.ensures.rolled c.roll_back_as.ensures.reader.letters c.roll_back_as.ensures.honest
    _ c.in-Err-read_again.error c.in-Err-read_again.ensures.after_error

pub returns-in-Err-read_again-clause-errors : goal.returns-in-Err-read_again-clause-errors
returns-in-Err-read_again-clause-errors g c = inr c.in-Err-read_again.ensures.errors

pub returns-in-Err-read_again-clause-letters : goal.returns-in-Err-read_again-clause-letters
returns-in-Err-read_again-clause-letters g c = c.fail.ensures.seen.0 ∙ c.read_again.ensures.letters ∙ c.roll_back_as.ensures.reader.letters

pub returns-in-Err-read_again-clause-honest : goal.returns-in-Err-read_again-clause-honest
returns-in-Err-read_again-clause-honest g c =
    honest_last g.F.Medium.has_published (g.F.Medium.survives ≡ false) c.args.self.now c.roll_back_as.new.self c.in_default.ensures.rolled c.roll_back_as.ensures.reader.letters c.roll_back_as.ensures.honest
    c.in-Err-read_again.ensures.after_error.new c.fail.new.self c.in-Err-read_again.ensures.after_error.rests (c.fail.ensures.fails.sectors.medium ∙ c.in-Err-read_again.ensures.after_error.medium_is) c.fail.ensures.fails.sectors.failed

pub returns-in-Err-read_again-clause-continues : goal.returns-in-Err-read_again-clause-continues
returns-in-Err-read_again-clause-continues g c =
    continues_last g.F.Medium.has_published (g.F.Medium.survives ≡ false) c.args.self.now c.roll_back_as.new.self c.in_default.ensures.rolled c.roll_back_as.ensures.reader.letters c.roll_back_as.ensures.honest
    c.in-Err-read_again.ensures.after_error.new c.fail.new.self c.in-Err-read_again.ensures.after_error.rests (c.fail.ensures.fails.sectors.medium ∙ c.in-Err-read_again.ensures.after_error.medium_is) c.fail.ensures.fails.sectors.failed c.roll_back_as.ensures.continues

pub returns-in-Err-read_again-clause-cause : goal.returns-in-Err-read_again-clause-cause
returns-in-Err-read_again-clause-cause g c =
    cause_last g.F.Medium.has_published (g.F.Medium.survives ≡ false) c.args.self.now c.roll_back_as.new.self c.in_default.ensures.rolled c.roll_back_as.ensures.reader.letters c.roll_back_as.ensures.honest
    c.in-Err-read_again.ensures.after_error.new c.fail.new.self c.in-Err-read_again.ensures.after_error.rests (c.fail.ensures.fails.sectors.medium ∙ c.in-Err-read_again.ensures.after_error.medium_is) c.fail.ensures.fails.sectors.failed c.roll_back_as.ensures.continues c.in-Err-read_again.error c.in-Err-read_again.ensures.after_error.cause

pub returns-clause-back : goal.returns-clause-back
returns-clause-back g c =
    let G = g.met.F.ReadMedium in
    goes_back g.F.Medium.has_published (g.F.Medium.survives ≡ false) c.args.self.now c.roll_back_as.new.self c.in_default.ensures.rolled c.roll_back_as.ensures.reader.letters c.roll_back_as.ensures.honest
    G.continues_refl G.continues_keeps c.read_again.new.self c.in_default-read_again.ensures.ok

pub returns-clause-letters : goal.returns-clause-letters
returns-clause-letters g c = c.read_again.ensures.letters ∙ c.roll_back_as.ensures.reader.letters

pub returns-clause-honest : goal.returns-clause-honest
returns-clause-honest g c =
    honest_back g.F.Medium.has_published (g.F.Medium.survives ≡ false) c.args.self.now c.roll_back_as.new.self c.in_default.ensures.rolled c.roll_back_as.ensures.reader.letters c.roll_back_as.ensures.honest c.read_again.new.self c.in_default-read_again.ensures.ok

pub returns-clause-continues : goal.returns-clause-continues
returns-clause-continues g c =
    continues_back g.F.Medium.has_published (g.F.Medium.survives ≡ false) c.args.self.now c.roll_back_as.new.self c.in_default.ensures.rolled c.roll_back_as.ensures.reader.letters c.roll_back_as.ensures.honest c.read_again.new.self c.in_default-read_again.ensures.ok
    c.roll_back_as.ensures.continues

pub returns-then-self-was_sound-clause-left : goal.returns-then-self-was_sound-clause-left
returns-then-self-was_sound-clause-left g c =
    let found = c.in_default-read_again.ensures.ok in
    let fails = c.fail-then-self-was_sound.ensures.fails in
    inr (lost_all g.F.Medium.has_published (g.F.Medium.survives ≡ false) c.args.self.now c.roll_back_as.new.self c.in_default.ensures.rolled c.roll_back_as.ensures.reader.letters c.roll_back_as.ensures.honest
    (file_in c.read_again.new.self) c.fail-then-self-was_sound.new.self found.rests fails.sectors.medium fails.sectors.failed)

pub returns-then-self-was_sound-clause-refused_only_if : goal.returns-then-self-was_sound-clause-refused_only_if
returns-then-self-was_sound-clause-refused_only_if g c =
    no_way_by_judgement g.F.Medium.has_published (g.F.Medium.survives ≡ false) c.args.self.now c.roll_back_as.new.self c.in_default.ensures.rolled c.roll_back_as.ensures.reader.letters c.roll_back_as.ensures.honest
    c.read_again.new.self c.in_default-read_again.ensures.ok (differ (sound_in c.read_again.new.self) (sound_in c.args.self.now) c.if-self-was_sound.true)
