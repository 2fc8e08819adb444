use Rattle.std.proofs.Common.{◌≡◌, ◌∙◌, [], ◌∷◌, ap, sym, true, false, Some}
use Rattle.std.specs.Prelude.{Ok, Err}
use Rattle.cfb.specs.Views.{file_case_table, said_at}
use Rattle.cfb.proofs.PutStreams.{means_shown}
use Rattle.cfb_entries.specs.Rules.{names_in}
use Rattle.cfb_spec.specs.TreeRules.{is_stream, remove_stream, tree_step, yes}
use Rattle.cfb_medium.specs.declared.error.Error.TheVariants.{NotFound}
use Rattle.msi_spec.specs.Package.{PackageContent}
use Rattle.msi_spec.specs.Streams.{may_name, plain_stream_name, stream_removed}
use Rattle.msi_streams.specs.Writing.{AppliesPackageRule}
use Rattle.msi_streams.proofs.Exits.{does_puts, first_refused, rule_done, rule_refused}
use Rattle.msi_streams.proofs.Streams.{makes_refused, removal_refused, remove_accepts, remove_missing, said_stream}
use Rattle.msi_streams.proofs.Taken.{taken_path}
use Rattle.msi_streams.proofs.writing.remove_stream.Goals as goal

pub returns-in-Err-clause-changes : goal.returns-in-Err-clause-changes
returns-in-Err-clause-changes g c =
    let old = c.args.file.now in
    first_refused (AppliesPackageRule (λ P. stream_removed (file_case_table old) P c.args.name.now)) old c.in-Err.error c.in-Err.ensures.refused_only_if

pub returns-in-Err-encoded_stream_name-clause-changes : goal.returns-in-Err-encoded_stream_name-clause-changes
returns-in-Err-encoded_stream_name-clause-changes g c =
    let old = c.args.file.now in
    let letters = file_case_table old in
    let name = c.args.name.now in
    let made = λ (P : PackageContent). stream_removed letters P name in
    let e = c.in-Err-encoded_stream_name.error in
    let bad : may_name letters name ≡ Err e = ap (λ l. may_name l name) (sym c.letters.ensures) ∙ c.in-Err-encoded_stream_name.ensures.answer in
    rule_refused (AppliesPackageRule made) old c.in_default.ensures.open e (λ tree P m s. makes_refused made P e (removal_refused letters name P e bad))

pub returns-then-not-is_stream-clause-changes : goal.returns-then-not-is_stream-clause-changes
returns-then-not-is_stream-clause-changes g c =
    let old = c.args.file.now in
    let letters = file_case_table old in
    let name = c.args.name.now in
    let plain = plain_stream_name name in
    let made = λ (P : PackageContent). stream_removed letters P name in
    let taken : may_name letters name ≡ Ok tt = ap (λ l. may_name l name) (sym c.letters.ensures) ∙ c.in-Ok.ensures.answer.0 in
    let path : names_in c.as_str.result.now ≡ Some (plain ∷ []) = ap names_in (c.as_str.ensures ∙ c.in-Ok.ensures.answer.1) ∙ taken_path letters name taken c.utf8.name in
    rule_refused (AppliesPackageRule made) old c.in_default.ensures.open NotFound (λ tree P m s.
    let shows = means_shown old tree m in
    let told : yes false ≡ said_at letters tree is_stream (Some (plain ∷ [])) =
    ap (λ b. yes b) (sym c.if-not-is_stream.true) ∙ c.is_stream.ensures tree shows ∙ ap (said_at letters tree is_stream) path in
    makes_refused made P NotFound (remove_missing letters name tree P s taken shows.ordered.0 (said_stream letters tree plain false told)))

pub returns-clause-changes : goal.returns-clause-changes
returns-clause-changes g c =
    let old = c.args.file.now in
    let letters = file_case_table old in
    let name = c.args.name.now in
    let plain = plain_stream_name name in
    let made = λ (P : PackageContent). stream_removed letters P name in
    let taken : may_name letters name ≡ Ok tt = ap (λ l. may_name l name) (sym c.letters.ensures) ∙ c.in-Ok.ensures.answer.0 in
    let path : names_in c.as_str-2.result.now ≡ Some (plain ∷ []) = ap names_in (c.as_str-2.ensures ∙ c.in-Ok.ensures.answer.1) ∙ taken_path letters name taken c.utf8.name in
    let asked : names_in c.as_str.result.now ≡ Some (plain ∷ []) = ap names_in (c.as_str.ensures ∙ c.in-Ok.ensures.answer.1) ∙ taken_path letters name taken c.utf8.name in
    rule_done (AppliesPackageRule made) old (λ letters tree path. tree_step letters tree (remove_stream path)) (names_in c.as_str-2.result.now) (plain ∷ []) path c.remove_stream.new.self c.remove_stream.result
    (does_puts (λ names. remove_stream names) (names_in c.as_str-2.result.now) (plain ∷ []) path old c.remove_stream.new.self c.remove_stream.result c.remove_stream.ensures.tree_rule) (λ tree P m s.
    let shows = means_shown old tree m in
    let told : yes true ≡ said_at letters tree is_stream (Some (plain ∷ [])) =
    ap (λ b. yes b) (sym c.if-not-is_stream.false) ∙ c.is_stream.ensures tree shows ∙ ap (said_at letters tree is_stream) asked in
    remove_accepts letters name tree P s taken shows.ordered.0 (said_stream letters tree plain true told))
