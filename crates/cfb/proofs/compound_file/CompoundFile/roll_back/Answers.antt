use Rattle.std.proofs.Common.{⊎_elim}
use Rattle.cfb.proofs.compound_file.CompoundFile.roll_back.Goals as goal

pub returns-clause-reader : goal.returns-clause-reader
returns-clause-reader g c =
    let r = c.roll_back_as.ensures.reader in
    record { letters = r.letters; validation = ⊎_elim (λ same. same) (λ same. same) r.validation; most = r.most }
