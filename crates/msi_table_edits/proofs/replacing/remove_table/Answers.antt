use Rattle.std.proofs.Common.{◌∙◌, ap, sym}
use Rattle.cfb.proofs.PutStreams.{means_shown}
use Rattle.cfb_spec.specs.TreeRules.{yes}
use Rattle.msi_table_edits.proofs.ReplacedStreams.{none_removed, one_removed, removal_kinds}
use Rattle.msi_table_edits.proofs.replacing.remove_table.Goals as goal

pub returns-then-not-is_stream-clause-removes : goal.returns-then-not-is_stream-clause-removes
returns-then-not-is_stream-clause-removes g c =
    none_removed c.args.name.now c.args.path.now c.requires c.utf8.name c.args.file.now
    (λ tree m. ap (λ b. yes b) (sym c.if-not-is_stream.true) ∙ c.is_stream.ensures tree (means_shown c.args.file.now tree m))

pub returns-clause-removes : goal.returns-clause-removes
returns-clause-removes g c =
    one_removed c.args.name.now c.args.path.now c.requires c.utf8.name c.args.file.now c.remove_stream.new.self
    (λ tree m. ap (λ b. yes b) (sym c.if-not-is_stream.false) ∙ c.is_stream.ensures tree (means_shown c.args.file.now tree m)) c.remove_stream.result c.remove_stream.ensures.tree_rule

pub returns-clause-errors : goal.returns-clause-errors
returns-clause-errors g c = removal_kinds c.remove_stream.result c.remove_stream.ensures.error_contract.fault
