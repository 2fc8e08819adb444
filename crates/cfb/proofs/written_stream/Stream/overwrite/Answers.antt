use Rattle.std.proofs.Common.{◌∙◌, refl, sym, inl, inr, ⊎_elim, arith}
use Rattle.cfb_chains.proofs.ChainWriting.{length_within}
use Rattle.cfb_medium.specs.Bytes.{overwritten}
use Rattle.cfb_medium.specs.declared.error.Error.TheVariants.{InvalidData, InvalidInput}
use Rattle.cfb.proofs.Standing.{err_as, keeps_so, lost_so, rewrites_so}
use Rattle.cfb.proofs.written_stream.Stream.overwrite.Goals as goal

pub returns-in-Err-clause-large : goal.returns-in-Err-clause-large
returns-in-Err-clause-large g c = λ wrong path tree content s.
    let past = c.in-Err.ensures.past (err_as c.in-Err.error InvalidInput wrong) path tree content s.written in
    let inside = c.requires in
    let len = s.len in omega (arith, past, inside, len)

pub returns-in-Err-clause-refused_only_if : goal.returns-in-Err-clause-refused_only_if
returns-in-Err-clause-refused_only_if g c = λ wrong. lost_so c.args.self.now (c.in-Err.ensures.refused_only_if (err_as c.in-Err.error InvalidData wrong))

pub returns-in-Err-clause-kept : goal.returns-in-Err-clause-kept
returns-in-Err-clause-kept g c = ⊎_elim (λ failed. inl failed) (λ k. inr (keeps_so c.args.self.now _ k refl refl)) c.in-Err.ensures.kept

pub returns-clause-written : goal.returns-clause-written
returns-clause-written g c =
    let at = c.args.self.now.position in
    let bytes = c.args.bytes.now in
    rewrites_so (λ content. overwritten content at bytes) c.args.self.now _ c.in_default.ensures.written refl (λ path tree content s.
    let inside = c.requires in
    let len = s.len in
    s.len ∙ sym (length_within content bytes at (omega (arith, inside, len))))
