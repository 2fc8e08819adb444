use Rattle.std.proofs.Common.{inl, inr, refl}
use Rattle.installer_runs.proofs.putting.put_last.Goals as goal

pub returns-in-Ok : goal.returns-in-Ok
returns-in-Ok g c = record { mid = c.put_stream_from.new.self; either = inl (c.in-Ok.ensures.done, c.commit_last.ensures) }

pub returns-in-Err : goal.returns-in-Err
returns-in-Err g c =
    let told = c.in-Err.ensures in
    record { mid = c.put_stream_from.new.self; either = inr (c.in-Err.error, refl, told.puts, told.survives, c.into_device.ensures.device) }
