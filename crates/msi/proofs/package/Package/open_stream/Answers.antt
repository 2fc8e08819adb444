use mathlib.Core.Option.{some}
use Rattle.std.proofs.Common.{◌≡◌, Ok, Err, ap, refl, subst, sym}
use Rattle.cfb.proofs.StreamsFound.{carried}
use Rattle.cfb.specs.Streams.{FileHasStream}
use Rattle.cfb_medium.specs.declared.error.Error.TheVariants.{Failed, InvalidInput}
use Rattle.msi.specs.Opened.{OnlyReadsPackage, file_in}
use Rattle.msi.proofs.package.Package.open_stream.Goals as goal

pub returns-in-Ok : goal.returns-in-Ok
returns-in-Ok g c =
    let it = c.args.self.now in
    let (over, len, position) = c.new.ensures.stream in
    let told = c.in-Ok.ensures in (
      (ap (λ n. some n) (sym c.new.ensures.same_reference), λ w. refl, tt),
      (
        c.new.ensures.same_reference,
        (
          subst (OnlyReadsPackage it) (sym over) told.only_reads,
          (
            position,
            (
              λ P h.
                  let (bytes, expected, has) = told.answer P h in
                  (bytes, expected, carried (λ p n. FileHasStream (file_in p) n bytes) _ _ _ _ over len has),
              (
                λ failed. let never : Ok c.in-Ok.len ≡ Err Failed = told.when_failed failed in absurd (cc),
                (λ live bad. let never : Ok c.in-Ok.len ≡ Err InvalidInput = told.refused_only_if live bad in absurd (cc), tt),
              ),
            ),
          ),
        ),
      ),
    )
