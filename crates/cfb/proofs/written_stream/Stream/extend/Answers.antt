use Rattle.std.proofs.Common.{length, ap, refl, subst, sym, ◌∙◌, inl, inr, ⊎_elim, arith}
use Rattle.cfb_chains.proofs.ChainWriting.{length_within}
use Rattle.cfb_tree_edits.specs.Orphans.{StaysTidy}
use Rattle.cfb_tree.specs.Changes.{changed, with_bytes}
use Rattle.cfb_stream_writes.specs.Streams.{resized, LacksRoom}
use Rattle.cfb_stream_writes.proofs.LongBytes.{length-resized}
use Rattle.cfb.specs.Views.{file_case_table, mini_of}
use Rattle.cfb.specs.Writing.{file_under, StreamIsWritten}
use Rattle.cfb.proofs.Again.{written_behind}
use Rattle.cfb_medium.specs.declared.error.Error.TheVariants.{Full, InvalidData, InvalidInput}
use Rattle.cfb.proofs.Standing.{err_as, keeps_so, lost_so}
use Rattle.cfb.proofs.written_stream.Stream.extend.Goals as goal

pub returns-in-Err-clause-large : goal.returns-in-Err-clause-large
returns-in-Err-clause-large g c = λ wrong path tree content s. c.in-Err.ensures.large (err_as c.in-Err.error InvalidInput wrong) path tree content s.written

pub returns-in-Err-clause-refused_only_if : goal.returns-in-Err-clause-refused_only_if
returns-in-Err-clause-refused_only_if g c = λ wrong. lost_so c.args.self.now (c.in-Err.ensures.refused_only_if (err_as c.in-Err.error InvalidData wrong))

pub returns-in-Err-clause-kept : goal.returns-in-Err-clause-kept
returns-in-Err-clause-kept g c = ⊎_elim (λ failed. inl failed) (λ k. inr (keeps_so c.args.self.now _ k refl refl)) c.in-Err.ensures.kept

pub returns-clause-written : goal.returns-clause-written
returns-clause-written g c = λ path tree content s.
    let it = c.args.self.now in
    let at = it.position in
    let end = c.args.end in
    let bytes = c.args.bytes.now in
    let len = s.len in
    let inside = it.inside in
    let is = c.requires.end in
    let behind = c.requires.behind in
    let same = written_behind content bytes at end (omega (arith, len, inside)) is (omega (arith, len, behind)) in
    let size = length_within (resized end content) bytes at (let long = length-resized content end in omega (arith, long, is)) ∙ length-resized content end in
    let it' =
    subst (λ b. (then : StreamIsWritten c.extend_bytes.new.self path (changed (file_case_table (file_under it)) (with_bytes b) path tree) it.id b) × StaysTidy (mini_of (file_under it)) (mini_of c.extend_bytes.new.self) s.written.at.means.who then.at.means.who) same
    (c.in_default.ensures.written path tree content s.written) in
    (record { written = it'.0; len = sym size ∙ ap length same }, it'.1)

pub returns-in-Err-clause-full_only_if : goal.returns-in-Err-clause-full_only_if
returns-in-Err-clause-full_only_if g c = λ wrong live.
    let it = c.args.self.now in
    inr (λ path tree content s. subst (λ n. LacksRoom (mini_of (file_under it)) n c.args.end) (sym s.len) (c.in-Err.ensures.full_only_if (err_as c.in-Err.error Full wrong) live path tree content s.written))
