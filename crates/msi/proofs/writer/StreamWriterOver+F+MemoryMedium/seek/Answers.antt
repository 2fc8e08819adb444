use Rattle.std.proofs.Common.{ℕ, refl, subst}
use Rattle.cfb_sectors.specs.Seeking.{Finds}
use Rattle.msi.specs.Writers.{place_in}
use Rattle.msi.proofs.writer.StreamWriterOver+F+MemoryMedium.seek.Goals as goal

pub returns-in_default-clause-refused_only_if : goal.returns-in_default-clause-refused_only_if
returns-in_default-clause-refused_only_if g c = (refl, subst (λ len. (n : ℕ) → Finds c.args.from len (place_in c.args.self.now) n → ⊥) c.len.ensures c.in_default.ensures)
