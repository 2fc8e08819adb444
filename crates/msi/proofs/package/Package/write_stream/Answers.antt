use mathlib.Core.Option.{some}
use Rattle.std.proofs.Common.{[], Ok, ap, refl, subst, sym}
use Rattle.msi.specs.Writers.{ReplacesStream}
use Rattle.msi.proofs.package.Package.write_stream.Goals as goal

pub returns-in-Ok : goal.returns-in-Ok
returns-in-Ok g c =
    let told = c.in-Ok.ensures in
    let made = c.new.ensures in (
      (ap (λ n. some n) (sym made.same_reference), λ w. refl, tt),
      (
        made.same_reference,
        record {
          of_name = made.name;
          nothing = made.nothing;
          at_start = made.at_start;
          puts = subst (λ p. ReplacesStream c.args.name.now [] (Ok tt) c.args.self.now p) (sym made.package_is)
              (record { changes = told.changes; full = told.full_only_if; goes_on = told.invariants; cause = told.cause; kinds = told.errors });
        },
      ),
    )
