use Rattle.std.proofs.Common.{refl}
use Rattle.cfb_directory.proofs.Setting.{kept_over}
use Rattle.cfb_directory.proofs.directory.Directory.allocator_mut.Goals as goal

pub returns : goal.returns
returns g c = ((refl, λ w. refl), record { lends = tt; value = refl; kept = kept_over c.args.self.now })
