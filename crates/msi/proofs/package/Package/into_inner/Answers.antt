use Rattle.msi.proofs.package.Package.into_inner.Goals as goal

pub returns-in-Ok-clause-ok : goal.returns-in-Ok-clause-ok
returns-in-Ok-clause-ok g c = record {
  new = c.flush.new.self;
  writes = c.in-Ok.ensures.writes;
  goes_on = c.flush.ensures.invariants;
  cause = tt;
  medium_is = c.into_medium.ensures;
}

pub returns-in-Err-clause-after_error : goal.returns-in-Err-clause-after_error
returns-in-Err-clause-after_error g c = record {
  new = c.flush.new.self;
  writes = c.in-Err.ensures.writes;
  goes_on = c.flush.ensures.invariants;
  cause = c.in-Err.ensures.cause;
  medium_is = c.into_medium-in-Err.ensures;
}
