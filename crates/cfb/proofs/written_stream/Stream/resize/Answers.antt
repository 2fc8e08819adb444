use Rattle.std.proofs.Common.{refl, subst, sym, inl, inr, ⊎_elim}
use Rattle.cfb_stream_writes.specs.Streams.{resized, LacksRoom}
use Rattle.cfb_stream_writes.proofs.LongBytes.{length-resized}
use Rattle.cfb.specs.Views.{mini_of}
use Rattle.cfb.specs.Writing.{file_under}
use Rattle.cfb.proofs.Standing.{keeps_so, lost_so, rewrites_so}
use Rattle.cfb.proofs.written_stream.Stream.resize.Goals as goal

pub returns-in-Err-clause-refused_only_if : goal.returns-in-Err-clause-refused_only_if
returns-in-Err-clause-refused_only_if g c = λ wrong. lost_so c.args.self.now (c.in-Err.ensures.refused_only_if wrong)

pub returns-in-Err-clause-kept : goal.returns-in-Err-clause-kept
returns-in-Err-clause-kept g c = ⊎_elim (λ failed. inl failed) (λ k. inr (keeps_so c.args.self.now _ k refl refl)) c.in-Err.ensures.kept

pub returns-clause-resized : goal.returns-clause-resized
returns-clause-resized g c = rewrites_so (resized c.args.len) c.args.self.now _ c.in_default.ensures.resized refl (λ path tree content s. sym (length-resized content c.args.len))

pub returns-in-Err-clause-full_only_if : goal.returns-in-Err-clause-full_only_if
returns-in-Err-clause-full_only_if g c = λ wrong live.
    let it = c.args.self.now in
    inr (λ path tree content s. subst (λ n. LacksRoom (mini_of (file_under it)) n c.args.len) (sym s.len) (c.in-Err.ensures.full_only_if wrong live path tree content s.written))

pub returns-in-Err-clause-spared : goal.returns-in-Err-clause-spared
returns-in-Err-clause-spared g c = λ past. (tt, keeps_so c.args.self.now _ (c.in-Err.ensures.spared past).1 refl refl)

pub returns-clause-spared : goal.returns-clause-spared
returns-clause-spared g c = λ past. absurd (c.in_default.ensures.spared past).0
