use Rattle.std.proofs.Common.{inl, inr, refl}
use Rattle.cfb_medium.specs.declared.error.Error.TheVariants.{NotFound}
use Rattle.msi_query.proofs.Sourced.{found_none}
use Rattle.msi_query.proofs.stored.stored_table.Goals as goal

pub returns-in-None-clause-answer : goal.returns-in-None-clause-answer
returns-in-None-clause-answer g c = inr (inr (inl refl, λ tables has. found_none (tables c.args.name.now) NotFound (λ t. t.name) (c.in-None.ensures.names tables has)))
