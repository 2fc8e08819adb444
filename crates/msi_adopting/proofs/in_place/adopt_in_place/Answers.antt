use Rattle.std.proofs.Common.{inl, inr, ⊎_elim, ◌⊎◌}
use Rattle.std.specs.Prelude.{Err, Ok}
use Rattle.cfb_tree.specs.CaseTableViews.{case_table_of}
use Rattle.msi_adopting.proofs.InPlace.{held_told, some_told}
use Rattle.msi_adopting.proofs.JudgedCopies.{goes_from, since_opened}
use Rattle.msi_adopting.proofs.Refusals.{can_open}
use Rattle.msi_adopting.proofs.in_place.adopt_in_place.Goals as goal

pub returns-in-Err-clause-refused_only_if : goal.returns-in-Err-clause-refused_only_if
returns-in-Err-clause-refused_only_if g c tree P honest held =
    ⊎_elim (λ fault. inl (inl fault))
    (λ broken. absurd (c.in-Err.ensures.refused_only_if broken honest (can_open (case_table_of c.args.letters) (g.T.ReadMedium.bytes c.args.medium) tree held.means)))
    c.in-Err.ensures.errors

pub returns-in-Ok-adopt_file-clause-adopted : goal.returns-in-Ok-adopt_file-clause-adopted
returns-in-Ok-adopt_file-clause-adopted g c tree P honest held =
    rw c.into_inner.ensures (held_told c.args.medium c.in-Ok.file c.in-Ok.ensures.opens (case_table_of c.args.letters) c.in-Ok.ensures.letters honest (c.in-Ok.ensures.opened honest) tree P held c.adopt_file.new.file (Ok tt)
    c.in-Ok-adopt_file.ensures.answer)

pub returns-in-Ok-adopt_file-clause-sound : goal.returns-in-Ok-adopt_file-clause-sound
returns-in-Ok-adopt_file-clause-sound g c honest may =
    rw c.into_inner.ensures (some_told c.args.medium c.in-Ok.file c.in-Ok.ensures.opens (case_table_of c.args.letters) c.in-Ok.ensures.letters honest (c.in-Ok.ensures.opened honest) c.in-Ok-adopt_file.ensures.unsound may c.adopt_file.new.file
    c.in-Ok-adopt_file.ensures.sound)

pub returns-in-Err-adopt_file-clause-refused_only_if : goal.returns-in-Err-adopt_file-clause-refused_only_if
returns-in-Err-adopt_file-clause-refused_only_if g c tree P honest held =
    held_told c.args.medium c.in-Ok.file c.in-Ok.ensures.opens (case_table_of c.args.letters) c.in-Ok.ensures.letters honest (c.in-Ok.ensures.opened honest) tree P held c.adopt_file.new.file (Err c.in-Err-adopt_file.error)
    c.in-Err-adopt_file.ensures.answer

pub returns-in-Err-adopt_file-clause-cause : goal.returns-in-Err-adopt_file-clause-cause
returns-in-Err-adopt_file-clause-cause g c =
    rw c.into_inner-in-Err-adopt_file.ensures (since_opened c.args.medium c.in-Ok.file c.in-Ok.ensures.opens c.adopt_file.new.file c.in-Err-adopt_file.error c.in-Err-adopt_file.ensures.cause)

pub returns-in-Ok-adopt_file-clause-left : goal.returns-in-Ok-adopt_file-clause-left
returns-in-Ok-adopt_file-clause-left g c = rw c.into_inner.ensures (goes_from c.args.medium c.in-Ok.file c.in-Ok.ensures.opens c.adopt_file.new.file c.adopt_file.ensures.invariants)

pub returns-in-Err-adopt_file-clause-left : goal.returns-in-Err-adopt_file-clause-left
returns-in-Err-adopt_file-clause-left g c = rw c.into_inner-in-Err-adopt_file.ensures (goes_from c.args.medium c.in-Ok.file c.in-Ok.ensures.opens c.adopt_file.new.file c.adopt_file.ensures.invariants)
