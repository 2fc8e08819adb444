use Rattle.std.proofs.Common.{codes, inr, refl}
use Rattle.command_file.specs.Commands.{command_in}
use Rattle.command_file.proofs.Named.{unlike}
use Rattle.command_file.proofs.reading.command_of.Goals as goal

pub returns-in_default : goal.returns-in_default
unfolding command_in
returns-in_default c =
    inr (refl, rw (c.in_ok-text_at.ensures, unlike (codes "create_table") _ c.in_default.not-create_table, unlike (codes "drop_table") _ c.in_default.not-drop_table, unlike (codes "columns") _ c.in_default.not-columns, unlike (codes "insert") _ c.in_default.not-insert, unlike (codes "update") _ c.in_default.not-update, unlike (codes "delete") _ c.in_default.not-delete, unlike (codes "select") _ c.in_default.not-select, unlike (codes "read_stream") _ c.in_default.not-read_stream, unlike (codes "remove_stream") _ c.in_default.not-remove_stream, unlike (codes "write_stream") _ c.in_default.not-write_stream, unlike (codes "set_summary") _ c.in_default.not-set_summary, unlike (codes "set_codepage") _ c.in_default.not-set_codepage, unlike (codes "tables") _ c.in_default.not-tables, unlike (codes "streams") _ c.in_default.not-streams, unlike (codes "has_signature") _ c.in_default.not-has_signature, unlike (codes "remove_signature") _ c.in_default.not-remove_signature, unlike (codes "summary") _ c.in_default.not-summary, unlike (codes "codepage") _ c.in_default.not-codepage, unlike (codes "flush") _ c.in_default.not-flush, unlike (codes "commit") _ c.in_default.not-commit, unlike (codes "roll_back") _ c.in_default.not-roll_back) refl)
