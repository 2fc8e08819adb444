use mathlib.Core.Option.{some}
use Rattle.std.proofs.Common.{◌≡◌, ◌∙◌, Ok, Err, ap, refl, subst, sym}
use Rattle.cfb_medium.specs.declared.error.Error.TheVariants.{Failed}
use Rattle.cfb.specs.Streams.{bytes_found, FindsStream, FileHasStream}
use Rattle.cfb.specs.Views.{OnlyReadsFile}
use Rattle.cfb.proofs.StreamsFound.{carried}
use Rattle.cfb.proofs.compound_file.CompoundFile.open_read_stream.Goals as goal

pub returns-in-Ok : goal.returns-in-Ok
returns-in-Ok g c =
    let it = c.args.self.now in
    let (file, len, position) = c.new.ensures.stream in
    let told = c.in-Ok.ensures in (
      (ap (λ n. some n) (sym c.new.ensures.same_reference), λ w. refl, tt),
      (
        c.new.ensures.same_reference,
        (
          subst (OnlyReadsFile it) (sym file) told.only_reads,
          (
            position,
            (
              λ tree h.
                  let ((finds, bytes, answer, size), done) = told.answer tree h in
                  ((carried (λ f n. FindsStream it f c.args.path.now n) _ _ _ _ file len finds, bytes, answer, len ∙ size), tt),
              (
                λ tree h.
                    let ((bytes, answer, has), done) = told.bytes tree h in
                    ((bytes, answer, carried (λ f n. FileHasStream f n bytes) _ _ _ _ file len has), tt),
                (
                  λ true. carried (λ f n. FileHasStream f n (bytes_found f n)) _ _ _ _ file len (told.found true),
                  (λ failed. let never : Ok c.in-Ok.len ≡ Err Failed = told.when_failed failed in absurd (cc), tt),
                ),
              ),
            ),
          ),
        ),
      ),
    )
