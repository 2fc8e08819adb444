use Rattle.std.proofs.Common.{arith}
use Rattle.cfb_chain_io.proofs.GoingOn.{rests_go_on}
use Rattle.cfb_fat.specs.OnlyReads.{all_rest_refl}
use Rattle.cfb_mini.specs.Views.{allocator_of}
use Rattle.cfb.specs.Views.{mini_of}
use Rattle.cfb.proofs.compound_file.CompoundFile.write_piece.Goals as goal

pub returns-in-Err-clause-invariants : goal.returns-in-Err-clause-invariants
returns-in-Err-clause-invariants g c = let a = allocator_of (mini_of c.args.self.now) in rests_go_on a a (all_rest_refl a)

pub returns-in-Err-overwrite_bytes-clause-past : goal.returns-in-Err-overwrite_bytes-clause-past
returns-in-Err-overwrite_bytes-clause-past g c = λ wrong path tree content w.
    let past = c.in-Err-overwrite_bytes.ensures.past wrong path tree content w in
    let size = c.read_piece.auto.piece in
    omega (arith, past, size)
