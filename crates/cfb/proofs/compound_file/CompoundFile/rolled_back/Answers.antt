use Rattle.std.proofs.Common.{◌≡◌, ◌⊎◌, inr, sym, subst, ⊎_elim}
use Rattle.cfb_medium.specs.Calls.{IsJustifiedError, IsFaultOrInvalidInputIf}
use Rattle.cfb_medium.specs.declared.error.Error.TheVariants.{InvalidData, InvalidInput}
use Rattle.cfb_fat.specs.Tables.{medium_of}
use Rattle.cfb_mini.specs.Views.{allocator_of}
use Rattle.cfb.specs.Views.{mini_of}
use Rattle.cfb.proofs.RolledBack.{cannot_open, has_lost_all, rolls_back}
use Rattle.cfb.proofs.compound_file.CompoundFile.rolled_back.Goals as goal

pub returns-in-Ok-open_by-clause-rolled : goal.returns-in-Ok-open_by-clause-rolled
returns-in-Ok-open_by-clause-rolled g c =
    let G = g.met.F.ReadMedium in
    let it = c.args.self in
    let new = c.in-Ok-open_by.file in
    let was = medium_of (allocator_of (mini_of it)) in
    let rolled = c.in-Ok.ensures.rolled in
    let opens = c.in-Ok-open_by.ensures.opens in
    let keeps = G.continues_keeps was (medium_of (allocator_of (mini_of new))) (opens.continues was (rolled.extends was (G.continues_refl was))) in
    rolls_back g.F.Medium.has_published c.args.validation it c.in-Ok.parts.0 new rolled opens (sym keeps.as_failed) c.in-Ok-open_by.ensures.opened

pub returns-clause-left : goal.returns-clause-left
returns-clause-left g c = inr (has_lost_all g.F.Medium.has_published c.args.validation c.args.self c.in-Ok.parts.0 c.in-Err-open_by.medium c.husk_of.result c.in-Ok.ensures.rolled c.in-Err-open_by.ensures.left c.husk_of.ensures.medium c.husk_of.ensures.when_failed)

pub returns-clause-unable : goal.returns-clause-unable
returns-clause-unable g c = λ wrong.
    let is : c.in-Err-open_by.error ≡ InvalidInput = cc in
    absurd (⊎_elim (λ no. no) (λ other. let never : InvalidInput ≡ InvalidData = other in cc) (subst (λ e. IsFaultOrInvalidInputIf ⊥ e ⊎ (e ≡ InvalidData)) is c.in-Err-open_by.ensures.errors))

pub returns-clause-refused_only_if : goal.returns-clause-refused_only_if
returns-clause-refused_only_if g c = λ wrong.
    let is : c.in-Err-open_by.error ≡ InvalidData = cc in
    cannot_open g.F.Medium.has_published c.args.validation c.args.self c.in-Ok.parts.0 c.in-Ok.ensures.rolled (c.in-Err-open_by.ensures.refused_only_if is)

pub returns-clause-continues : goal.returns-clause-continues
returns-clause-continues g c = λ start from.
    subst (g.F.ReadMedium.continues start) (sym c.husk_of.ensures.medium) (c.in-Err-open_by.ensures.left.extends start (c.in-Ok.ensures.rolled.extends start from))

pub returns-clause-cause : goal.returns-clause-cause
returns-clause-cause g c = λ start from.
    subst (λ m. IsJustifiedError g.F.ReadMedium.failures g.F.ReadMedium.failed start m c.in-Err-open_by.error) (sym c.husk_of.ensures.medium) (c.in-Err-open_by.ensures.cause start (c.in-Ok.ensures.rolled.extends start from))
