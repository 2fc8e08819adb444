use mathlib.Core.Option.{some}
use Rattle.std.proofs.Common.{◌≡◌, ◌∙◌, ap, refl, subst, sym}
use Rattle.cfb.specs.Views.{OnlyReadsFile}
use Rattle.cfb.specs.Writing.{StreamIsWritten}
use Rattle.cfb.proofs.compound_file.CompoundFile.open_stream.Goals as goal

pub returns-in-Ok : goal.returns-in-Ok
returns-in-Ok g c =
    let it = c.args.self.now in
    let (file, len, position, id) = c.new.ensures.stream in
    let told = c.in-Ok.ensures in (
      (ap (λ n. some n) (sym c.new.ensures.same_reference), λ w. refl, tt),
      (
        c.new.ensures.same_reference,
        (
          subst (OnlyReadsFile it) (sym file) told.only_reads,
          (
            position,
            (
              λ tree m.
                  let f = told.found tree m in
                  let w =
                  subst (λ x. (then : StreamIsWritten x f.names tree c.new.result.id f.content) × (then.at.means.who ≡ m.live.who)) (sym file)
                  (subst (λ n. (then : StreamIsWritten c.find_written.new.self f.names tree n f.content) × (then.at.means.who ≡ m.live.who)) (sym id) (f.written, f.owners)) in
                  record {
                    names = f.names;
                    at_path = f.at_path;
                    content = f.content;
                    answer = f.answer;
                    stands = record { written = w.0; len = len ∙ f.len_is };
                    owners = w.1;
                  },
              (
                λ tree m. tt,
                (
                  λ failed. let never = told.when_failed failed in absurd (cc),
                  λ live unsound. let never = told.unsound live unsound in absurd (cc),
                ),
              ),
            ),
          ),
        ),
      ),
    )
