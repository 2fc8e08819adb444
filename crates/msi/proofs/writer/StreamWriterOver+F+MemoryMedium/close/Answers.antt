use Rattle.std.proofs.Common.{subst}
use Rattle.msi.specs.Writers.{name_in, package_under, ReplacesStream}
use Rattle.msi.proofs.writer.StreamWriterOver+F+MemoryMedium.close.Goals as goal

pub returns : goal.returns
returns g c =
    let told = c.put_stream.ensures in record {
      puts = subst (λ content. ReplacesStream (name_in c.args.self) content c.put_stream.result (package_under c.args.self) c.put_stream.new.self) c.bytes.ensures
          (record { changes = told.changes; full = told.full_only_if; goes_on = told.invariants; cause = told.cause; kinds = told.errors });
    }
