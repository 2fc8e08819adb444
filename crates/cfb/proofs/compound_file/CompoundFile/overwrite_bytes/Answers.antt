use Rattle.std.proofs.Common.{refl, inl, inr, ⊎_elim}
use Rattle.cfb_medium.specs.Bytes.{overwritten}
use Rattle.cfb.specs.Views.{file_case_table}
use Rattle.cfb.proofs.Written.{alike_same, written_kept, written_so}
use Rattle.cfb.proofs.compound_file.CompoundFile.overwrite_bytes.Goals as goal

pub returns-in-Err-clause-past : goal.returns-in-Err-clause-past
returns-in-Err-clause-past g c = λ wrong path tree content w. c.in-Err.ensures.past wrong (file_case_table c.args.self.now) tree path content w.at w.links

pub returns-in-Err-clause-refused_only_if : goal.returns-in-Err-clause-refused_only_if
returns-in-Err-clause-refused_only_if g c = λ wrong path tree content w. c.in-Err.ensures.refused_only_if wrong (file_case_table c.args.self.now) tree path content w.at w.links

pub returns-in-Err-clause-kept : goal.returns-in-Err-clause-kept
returns-in-Err-clause-kept g c =
    ⊎_elim
    (λ failed. inl failed)
    (λ k. inr (λ path tree content w. written_kept c.args.self.now _ path tree c.args.id content w k refl refl refl (λ _. alike_same _ _ refl) w.ahead))
    c.in-Err.ensures.after_error

pub returns-clause-written : goal.returns-clause-written
returns-clause-written g c = λ path tree content w.
    written_so c.args.self.now _ path tree c.args.id content w (λ l. overwritten l c.args.at c.args.bytes.now) c.in_default.ensures.written refl refl refl c.clear.ensures.none
