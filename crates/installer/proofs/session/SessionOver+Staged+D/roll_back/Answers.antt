use Rattle.std.proofs.Common.{◌≡◌, ◌∙◌, false, refl, sym, true}
use Rattle.std.proofs.lemmas.Result.{IfErr-weaker}
use Rattle.cfb.specs.Publishing.{medium_in}
use Rattle.installer.proofs.Back.{back_follows, follows_baseless, follows_over, follows_unchanged}
use Rattle.installer.specs.Sessions.{package_in}
use Rattle.msi.specs.Opened.{file_in}
use Rattle.installer.proofs.session.SessionOver+Staged+D.roll_back.Goals as goal

pub returns-then-has_failed : goal.returns-then-has_failed
returns-then-has_failed g c =
    let d = g.met.D.Device in
    follows_over d.counts_now d.rests_keeps d.rests_leaves d.only_now c.args.self.now (sym c.has_failed.ensures ∙ c.if-has_failed.true) (λ sound. (let never : false ≡ true = sym (sym c.is_sound.ensures ∙ c.if-not-is_sound.true) ∙ sound in absurd (cc)))

pub returns-then-not-is_sound : goal.returns-then-not-is_sound
returns-then-not-is_sound g c =
    let d = g.met.D.Device in
    follows_unchanged d.counts_now d.rests_keeps d.rests_leaves d.only_now c.args.self.now (sym c.has_failed.ensures ∙ c.if-has_failed.false) (sym c.is_sound.ensures ∙ c.if-not-is_sound.true)

pub returns-then-has_failed-2 : goal.returns-then-has_failed-2
returns-then-has_failed-2 g c =
    let d = g.met.D.Device in
    follows_over d.counts_now d.rests_keeps d.rests_leaves d.only_now c.args.self.now (sym c.has_failed-then-not-self.ensures ∙ c.if-has_failed-2.true) (λ _. c.if-not-self.true)

pub returns-then-not-self : goal.returns-then-not-self
returns-then-not-self g c =
    let d = g.met.D.Device in
    follows_baseless d.counts_now d.rests_keeps d.rests_leaves d.only_now c.args.self.now (sym c.has_failed-then-not-self.ensures ∙ c.if-has_failed-2.false) (sym c.is_sound.ensures ∙ c.if-not-is_sound.false) c.if-not-self.true

pub returns : goal.returns
returns g c =
    let d = g.met.D.Device in
    let it = c.args.self.now in
    let told = c.roll_back.ensures in
    let was = medium_in (file_in (package_in it)) in
    let on = told.continues was (record { device = d.rests_refl _; failed = refl }) in
    let kept = d.rests_keeps _ _ on.device in
    back_follows d.counts_now d.rests_keeps d.rests_leaves it (record it { «package» = c.roll_back.new.self }) (sym c.is_sound.ensures ∙ c.if-not-is_sound.false) c.if-not-self.false refl on.device
    (record { as_honest = kept.as_honest; as_failed = on.failed; counted = kept.counted }) refl told.letters told.sound
    c.roll_back.result told.back told.left told.refused_only_if (IfErr-weaker c.roll_back.result _ _ (λ e cause. cause was (record { device = d.rests_refl _; failed = refl })) told.cause)
