use Rattle.std.proofs.Common.{subst}
use Rattle.msi.specs.Writers.{name_in, package_under, ReplacesStream}
use Rattle.msi.proofs.writer.StreamWriterOver+F+MemoryMedium.flush.Goals as goal

pub returns-clause-puts : goal.returns-clause-puts
returns-clause-puts g c =
    let told = c.put_stream.ensures in
    subst (λ content. ReplacesStream (name_in c.args.self.now) content c.put_stream.result (package_under c.args.self.now) c.put_stream.new.self) c.bytes.ensures
    (record { changes = told.changes; full = told.full_only_if; goes_on = told.invariants; cause = told.cause; kinds = told.errors })
