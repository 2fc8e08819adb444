use Rattle.std.proofs.Common.{refl, inl, inr, ⊎_elim}
use Rattle.cfb_stream_writes.specs.Streams.{resized}
use Rattle.cfb.specs.Views.{file_case_table}
use Rattle.cfb.proofs.Written.{written_kept, written_so}
use Rattle.cfb.proofs.compound_file.CompoundFile.resize_bytes.Goals as goal

pub returns-in-Err-clause-refused_only_if : goal.returns-in-Err-clause-refused_only_if
returns-in-Err-clause-refused_only_if g c = λ wrong path tree content w. c.in-Err.ensures.refused_only_if wrong (file_case_table c.args.self.now) tree path content w.at w.links

pub returns-in-Err-clause-kept : goal.returns-in-Err-clause-kept
returns-in-Err-clause-kept g c =
    ⊎_elim
    (λ failed. inl failed)
    (λ k. inr (λ path tree content w. written_kept c.args.self.now _ path tree c.args.id content w k refl refl refl c.in-Err.ensures.kept w.ahead))
    c.in-Err.ensures.after_error

pub returns-clause-resized : goal.returns-clause-resized
returns-clause-resized g c = λ path tree content w. written_so c.args.self.now _ path tree c.args.id content w (resized c.args.len) c.in_default.ensures.resized refl refl refl c.clear.ensures.none

pub returns-in-Err-clause-full_only_if : goal.returns-in-Err-clause-full_only_if
returns-in-Err-clause-full_only_if g c = λ wrong live path tree content w. c.in-Err.ensures.full_only_if wrong live (file_case_table c.args.self.now) tree path content w.at w.links

pub returns-in-Err-clause-spared : goal.returns-in-Err-clause-spared
returns-in-Err-clause-spared g c = λ past. (tt, λ path tree content w. written_kept c.args.self.now _ path tree c.args.id content w (c.in-Err.ensures.spared past).1 refl refl refl c.in-Err.ensures.kept w.ahead)

pub returns-clause-spared : goal.returns-clause-spared
returns-clause-spared g c = λ past. absurd (c.in_default.ensures.spared past).0
