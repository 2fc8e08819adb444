use Rattle.std.specs.Prelude.{IsTrue}
use Rattle.staged.proofs.fuse.FuseDeviceDevice.read_at.Goals as goal

pub returns-in-Ok-clause-fuse : goal.returns-in-Ok-clause-fuse
returns-in-Ok-clause-fuse g c = record {
  burns = c.blows.ensures.burns;
  blown = λ is. let blows : IsTrue c.blows.result = c.blows.ensures.blown.1 is in absurd (cc (blows, c.if-blows.false));
  alone = λ _. record { unwritten = (g.met.D.Device.rests_keeps _ _ (c.read_at.ensures.only_reads _ (g.met.D.Device.rests_refl _))).unwritten; unsynced = c.read_at.ensures.unsynced };
  passed = λ _ failed. absurd (cc failed);
}

pub returns-in-Err-clause-fuse : goal.returns-in-Err-clause-fuse
returns-in-Err-clause-fuse g c = record {
  burns = c.blows.ensures.burns;
  blown = λ is. let blows : IsTrue c.blows.result = c.blows.ensures.blown.1 is in absurd (cc (blows, c.if-blows.false));
  alone = λ _. record { unwritten = (g.met.D.Device.rests_keeps _ _ (c.read_at.ensures.only_reads _ (g.met.D.Device.rests_refl _))).unwritten; unsynced = c.read_at.ensures.unsynced };
  passed = λ _ _. c.in-Err.ensures.errors.counted;
}
