use Rattle.cfb.proofs.options.OpenOptions.create.Goals as goal

pub returns-in-Ok-create_with-clause-made : goal.returns-in-Ok-create_with-clause-made
returns-in-Ok-create_with-clause-made g c = (c.in-Ok.medium, c.in-Ok.ensures.failures, c.in-Ok-create_with.ensures.created)
