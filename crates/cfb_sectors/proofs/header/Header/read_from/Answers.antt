use Rattle.std.proofs.Common.{drop, refl, arith, length-drop}
use Rattle.std.proofs.lemmas.List.{take_all}
use Rattle.cfb_sectors.proofs.header.Header.read_from.Goals as goal

pub returns-clause-whole : goal.returns-clause-whole
returns-clause-whole c =
    let taken = c.is_taken.ensures.0 c.if-not-is_taken.false in
    (λ _. (c.in-Some.version, (c.in-Some.ensures, rw c.u32_at-num_dir_sectors.ensures at taken)), λ _. refl)

pub returns-clause-rest : goal.returns-clause-rest
returns-clause-rest c = let bytes = c.args.reader.now.now in take_all _ (drop 512 bytes) (omega (arith, length-drop 512 bytes))
