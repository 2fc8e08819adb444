use Rattle.std.proofs.Common.{refl}
use Rattle.cfb_mini.proofs.Keeping.{kept_over}
use Rattle.cfb_mini.proofs.mini_allocator.MiniAllocator.allocator_mut.Goals as goal

pub returns : goal.returns
returns g c = ((refl, λ w. refl), record { lends = tt; value = c.allocator_mut.ensures.value; kept = kept_over c.args.self.now c.allocator_mut.ensures.kept })
