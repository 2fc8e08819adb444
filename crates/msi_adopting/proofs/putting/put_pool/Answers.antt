use Rattle.std.proofs.Common.{◌∙◌, ap, inl}
use Rattle.cfb.specs.Putting.{rewriting}
use Rattle.cfb.specs.Views.{file_case_table}
use Rattle.cfb_entries.specs.Rules.{names_in}
use Rattle.msi_adopting.proofs.Put.{rewrite_fault, rewritten}
use Rattle.msi_adopting.proofs.putting.put_pool.Goals as goal

pub returns-in-Err-rewrite_stream-clause-refused_only_if : goal.returns-in-Err-rewrite_stream-clause-refused_only_if
returns-in-Err-rewrite_stream-clause-refused_only_if g c tree P m gets =
    inl (rewrite_fault (names_in c.deref.result.now) (ap names_in c.deref.ensures ∙ c.in-Ok.ensures.path) c.args.file.now tree P m c.args.pool.now gets c.rewrite_stream.new.self
    c.in-Err-rewrite_stream.error c.in-Err-rewrite_stream.ensures.puts)

pub returns-clause-got : goal.returns-clause-got
returns-clause-got g c tree P m gets =
    rewritten (names_in c.deref.result.now) (ap names_in c.deref.ensures ∙ c.in-Ok.ensures.path) c.args.file.now tree P m c.args.pool.now gets c.rewrite_stream.new.self _ c.in_default.ensures.puts

pub returns-clause-means : goal.returns-clause-means
returns-clause-means g c tree m = let done = c.in_default.ensures.puts.done tree m in ((rewriting c.args.pool.now (file_case_table c.args.file.now) tree done.names).0, done.means)
