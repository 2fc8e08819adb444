use Rattle.std.proofs.Common.{◌∷◌, [], ℕ, take, drop, refl}
use Rattle.staged.specs.Steps.{AtPage}
use Rattle.staged.specs.declared.device.Which.TheVariants.{Home}
use Rattle.staged.proofs.Numbered.{page}
use Rattle.staged.proofs.Reaching.{write_steps, steps_then, rest_steps, page_alone}
use Rattle.staged.proofs.recovery.apply_page.Goals as goal

pub returns-in_err-read_at-clause-steps : goal.returns-in_err-read_at-clause-steps
returns-in_err-read_at-clause-steps g c =
    rest_steps Home _ g.D.Device g.met.D.Device.counts_now _ _ c.read_at.ensures.honest (g.met.D.Device.rests_leaves _ _ (c.read_at.ensures.only_reads _ (g.met.D.Device.rests_refl _)))

pub returns-clause-steps : goal.returns-clause-steps
returns-clause-steps g c =
    let counts = g.met.D.Device.counts_now in
    let one = page c.args.number (take 512 (drop c.args.place (g.D.Device.content c.args.device.now).log)) in
    let W : ℕ → ℕ → Type 0 = AtPage (one ∷ []) c.args.len in
    steps_then Home W g.D.Device counts _ _ _
    (rest_steps Home W g.D.Device counts _ _ c.read_at.ensures.honest (g.met.D.Device.rests_leaves _ _ (c.read_at.ensures.only_reads _ (g.met.D.Device.rests_refl _))))
    (write_steps Home W g.D.Device counts _ _ _ _ (c.args.number, page_alone one, refl, refl) c.write_page.ensures.honest c.write_page.ensures.crash)
