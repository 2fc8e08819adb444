use Rattle.std.proofs.Common.{refl}
use Rattle.cfb_fat.specs.Tables.{medium_of}
use Rattle.cfb_mini.specs.Views.{allocator_of}
use Rattle.cfb.specs.Views.{mini_of}
use Rattle.cfb.proofs.Published.{left_before, published_so}
use Rattle.cfb.proofs.Standing.{on_ok}
use Rattle.cfb.proofs.compound_file.CompoundFile.commit.Goals as goal

pub returns-then-is_failed-clause-crash : goal.returns-then-is_failed-clause-crash
returns-then-is_failed-clause-crash g c = λ honest.
    let G = g.met.F.ReadMedium in
    let m = medium_of (allocator_of (mini_of c.args.self.now)) in
    left_before (G.continues_leaves m m (G.continues_refl m))

pub returns-clause-publishes : goal.returns-clause-publishes
returns-clause-publishes g c =
    let did = c.commit.ensures in
    on_ok c.commit.result (λ published sound. published) (published_so g.F.Medium.has_published c.args.self.now _ c.commit.result did.memory refl refl tt did.published did.bytes did.not_failed)
