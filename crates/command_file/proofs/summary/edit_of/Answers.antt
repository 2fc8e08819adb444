use Rattle.std.proofs.Common.{codes, inr, refl}
use Rattle.command_file.specs.Commands.{edit_in}
use Rattle.command_file.proofs.Named.{unlike}
use Rattle.command_file.proofs.summary.edit_of.Goals as goal

pub returns-in_default : goal.returns-in_default
unfolding edit_in
returns-in_default c =
    inr (refl, rw (c.in_ok-field.ensures, c.in_ok-value.ensures, unlike (codes "title") _ c.in_default.not-title, unlike (codes "subject") _ c.in_default.not-subject, unlike (codes "author") _ c.in_default.not-author, unlike (codes "keywords") _ c.in_default.not-keywords, unlike (codes "comments") _ c.in_default.not-comments, unlike (codes "arch") _ c.in_default.not-arch, unlike (codes "languages") _ c.in_default.not-languages, unlike (codes "last_saved_by") _ c.in_default.not-last_saved_by, unlike (codes "uuid") _ c.in_default.not-uuid, unlike (codes "last_printed") _ c.in_default.not-last_printed, unlike (codes "creation_time") _ c.in_default.not-creation_time, unlike (codes "last_saved_time") _ c.in_default.not-last_saved_time, unlike (codes "page_count") _ c.in_default.not-page_count, unlike (codes "word_count") _ c.in_default.not-word_count, unlike (codes "character_count") _ c.in_default.not-character_count, unlike (codes "creating_application") _ c.in_default.not-creating_application, unlike (codes "doc_security") _ c.in_default.not-doc_security, unlike (codes "codepage") _ c.in_default.not-codepage) refl)
