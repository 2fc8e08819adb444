use Rattle.installer_runs.proofs.adopting.commit_adopted.Goals as goal

pub returns : goal.returns
returns g c = record {
  last = c.commit-committed.new.self;
  given = c.into_device.ensures.device;
  published = c.commit-committed.ensures.published;
  crash = c.commit-committed.ensures.crash;
  honest = c.commit-committed.ensures.honest;
  counted = c.commit-committed.ensures.failures;
  cause = c.commit-committed.ensures.cause;
  errors = c.commit-committed.ensures.errors;
}
