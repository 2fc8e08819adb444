use Rattle.std.specs.Prelude.{Err, IfErr, Ok, OnOk, Result}
use Rattle.cfb_entries.specs.Rules.{names_in}
use Rattle.msi_spec.specs.Package.{summary_name}
use Rattle.msi_reread.proofs.Puts.{summary_done, summary_fault}
use Rattle.msi_reread.proofs.putting.put_summary.Goals as goal

pub returns-clause-done : goal.returns-clause-done
returns-clause-done g c = summary_done c.args.file.now c.rewrite_stream.new.self c.args.bytes.now c.rewrite_stream.result c.rewrite_stream.ensures.puts

pub returns-clause-refused_only_if : goal.returns-clause-refused_only_if
returns-clause-refused_only_if g c = summary_fault c.args.file.now c.rewrite_stream.new.self c.args.bytes.now c.rewrite_stream.result c.rewrite_stream.ensures.puts
