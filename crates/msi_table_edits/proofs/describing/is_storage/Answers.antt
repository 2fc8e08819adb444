use Rattle.std.proofs.Common.{◌≡◌, ◌∙◌, ap, encode_utf8_all}
use Rattle.cfb.specs.Views.{file_case_table, said_at}
use Rattle.cfb.proofs.PutStreams.{means_shown}
use Rattle.cfb_entries.specs.Rules.{names_in}
use Rattle.cfb_spec.specs.TreeRules.{is_storage}
use Rattle.msi_row_edits.proofs.PutTable.{path_of}
use Rattle.msi_spec.specs.Package.{stream_name}
use Rattle.msi_table_edits.proofs.Storages.{storage_told}
use Rattle.msi_table_edits.proofs.describing.is_storage.Goals as goal

pub returns-clause-answer : goal.returns-clause-answer
returns-clause-answer g c = λ tree P m s free none.
    let name = c.args.name.now in
    let path : c.as_str.result.now ≡ encode_utf8_all (stream_name name) = c.as_str.ensures.value ∙ c.in-Ok.ensures.text in
    storage_told (file_case_table c.args.file.now) tree P s name free none c.is_storage.result
    (c.is_storage.ensures tree (means_shown c.args.file.now tree m) ∙ ap (said_at (file_case_table c.args.file.now) tree is_storage) (ap names_in path ∙ path_of name c.utf8.name free))
