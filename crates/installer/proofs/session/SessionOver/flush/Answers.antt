use Rattle.installer.proofs.session.SessionOver.flush.Goals as goal

pub returns : goal.returns
returns g c = rw c.answer_of.ensures c.write_out.ensures.quiet
