-- The command line: a word for what is to be done, and its paths.
use Rattle.std.specs.Prelude.{true, codes, Some}
use Rattle.clap.specs.Lexer.{usize_max}
use Rattle.clap.specs.Words.{App, Rule, Text, new_app, new_rule, with_rule, with_subcommand}
use Rattle.clap.specs.declared.builder.action.ArgAction.TheVariants.{SetTrue}

-- a path, which must be there
abbrev pub path : Text → Rule
path id = record (new_rule id) { required = true }

-- one path or more
abbrev pub several : Text → Rule
several id = record (path id) { range = Some (record { start_inclusive = 1; end_inclusive = usize_max }) }

abbrev pub files : Rule
files = several (codes "FILE")

-- the log behind `--log`, of which no more than one is named
abbrev pub log_option : Rule
log_option = record (new_rule (codes "log")) { long = Some (codes "log"); value_names = 1 }

-- a word with the path of a package and with that of its log, which may be missing, or stand behind `--log`
abbrev pub on_package : Text → App
on_package name = with_rule (with_rule (with_rule (new_app name) (path (codes "PACKAGE"))) (new_rule (codes "LOG"))) log_option

-- the word that runs commands: the package, and one path or two behind it, of which the last is that of the commands
abbrev pub two_paths : App
two_paths = with_rule (with_rule (new_app (codes "run")) (path (codes "PACKAGE"))) (path (codes "COMMANDS"))

-- a word behind two hyphens, which nothing follows
abbrev pub flag : Text → Rule
flag id = record (new_rule id) { long = Some id; action = Some SetTrue }

abbrev pub run_logged : App
run_logged = with_rule (with_rule two_paths (new_rule (codes "LAST"))) log_option

abbrev pub run_quiet : App
run_quiet = with_rule run_logged (flag (codes "quiet"))

abbrev pub run : App
run = with_rule (with_rule run_quiet (flag (codes "stop"))) (flag (codes "all-or-nothing"))

-- a word with two paths or names
abbrev pub with_two : App → Text → Text → App
with_two app first second = with_rule (with_rule app (path first)) (path second)

-- the number of a code page behind an option
abbrev pub page_option : Text → Rule
page_option id = record (new_rule id) { long = Some id; value_names = 1 }

-- a word with the pages by which the texts of tables and those of the summary are read
abbrev pub by_pages : App → App
by_pages app = with_rule (with_rule app (page_option (codes "codepage"))) (page_option (codes "summary-codepage"))

-- the words on one property, or with a flag on one field of the summary, with the log
abbrev pub or_summary : App → App
or_summary app = with_rule (with_rule app (flag (codes "summary"))) log_option

abbrev pub property_got : App
property_got = by_pages (or_summary (with_two (new_app (codes "get")) (codes "FILE") (codes "NAME")))

abbrev pub value_set : App
value_set = with_rule (with_two (new_app (codes "set")) (codes "PACKAGE") (codes "NAME")) (path (codes "VALUE"))

-- further names with their values, which may be missing
abbrev pub more : Rule
more = record (new_rule (codes "MORE")) { range = Some (record { start_inclusive = 1; end_inclusive = usize_max }) }

abbrev pub property_set : App
property_set = or_summary (with_rule value_set more)

abbrev pub property_unset : App
property_unset = or_summary (with_two (new_app (codes "unset")) (codes "PACKAGE") (codes "NAME"))

-- the words that move a stream to a file, and a file to a stream, with the log
abbrev pub stream_moved : Text → Text → App
stream_moved name file = with_rule (with_rule (with_two (new_app name) file (codes "STREAM")) (path (codes "PATH"))) log_option

-- the word that gives tables the rows of files, with the log
abbrev pub imported : App
imported = with_rule (with_rule (with_rule (new_app (codes "import")) (path (codes "PACKAGE"))) (several (codes "PATH"))) log_option

-- the word that makes a package of a folder, with the log
abbrev pub built : App
built = with_rule (with_two (new_app (codes "build")) (codes "PACKAGE") (codes "FOLDER")) log_option

-- the word that adopts a package: its own path, and that of the package that is read, which may be missing, with its log behind `--log`, and two
-- flags
abbrev pub sourced : App
sourced = with_rule (with_rule (with_rule (new_app (codes "adopt")) (path (codes "PACKAGE"))) (new_rule (codes "SOURCE"))) log_option

-- the log of the package that is read, behind `--source-log`
abbrev pub source_log_option : Rule
source_log_option = record (new_rule (codes "source-log")) { long = Some (codes "source-log"); value_names = 1 }

abbrev pub source_logged : App
source_logged = with_rule sourced source_log_option

abbrev pub validated : App
validated = with_rule (with_rule source_logged (flag (codes "validation"))) (flag (codes "in-place"))

-- with a flag for UTF-8, and the pages of the package that is read
abbrev pub adopted : App
adopted = with_rule (with_rule (with_rule validated (flag (codes "to-utf8"))) (page_option (codes "from-codepage"))) (page_option (codes "from-summary-codepage"))

-- the word that shows a package: its path, a table's name, which may be missing, four flags, its log, and two pages
abbrev pub table_shown : App
table_shown = with_rule (with_rule (new_app (codes "show")) (path (codes "FILE"))) (new_rule (codes "TABLE"))

abbrev pub summary_shown : App
summary_shown = with_rule table_shown (flag (codes "summary"))

abbrev pub streams_shown : App
streams_shown = with_rule summary_shown (flag (codes "streams"))

abbrev pub tree_shown : App
tree_shown = with_rule streams_shown (flag (codes "tree"))

abbrev pub csv_shown : App
csv_shown = with_rule tree_shown (flag (codes "csv"))

abbrev pub shown : App
shown = by_pages (with_rule csv_shown log_option)

-- the word that writes a package to a folder: the paths of both, its log, and two pages
abbrev pub exported : App
exported = by_pages (with_rule (with_rule (with_rule (new_app (codes "export")) (path (codes "FILE"))) (path (codes "FOLDER"))) log_option)

-- the word that judges packages: their paths, a flag, the log of one, and two pages
abbrev pub checked : App
checked = by_pages (with_rule (with_rule (with_rule (new_app (codes "check")) files) (flag (codes "places"))) log_option)

-- the word that judges what packages hold: their paths, the log of one, the rules that are left out, and two pages
abbrev pub ignore_option : Rule
ignore_option = record (new_rule (codes "ignore")) { long = Some (codes "ignore"); value_names = 1 }

abbrev pub contents_read : App
contents_read = with_rule (with_rule (with_rule (new_app (codes "validate")) files) log_option) ignore_option

abbrev pub contents_judged : App
contents_judged = by_pages contents_read

-- no word yet: one must be there, or a wish for help or version, and the program's own name isn't among the words
abbrev pub bare : App
bare = let app = new_app (codes "msidb") in record app {
  top = record app.top {
    no_binary_name = true;
    subcommand_required = true;
    has_version = true;
  };
}

-- the words on a package and its log
abbrev pub without_run : App
without_run = with_subcommand (with_subcommand bare (on_package (codes "create")).top) (on_package (codes "recover")).top

abbrev pub with_log : App
with_log = with_subcommand (with_subcommand without_run run.top) (on_package (codes "list")).top

-- and those on one that is only read
abbrev pub with_looks : App
with_looks = with_subcommand (with_subcommand with_log shown.top) checked.top

abbrev pub with_files : App
with_files = with_subcommand with_looks exported.top

abbrev pub with_adopt : App
with_adopt = with_subcommand with_files adopted.top

-- and those on one property or field, and on one stream
abbrev pub with_get : App
with_get = with_subcommand (with_subcommand with_adopt property_got.top) property_set.top

abbrev pub with_unset : App
with_unset = with_subcommand (with_subcommand with_get property_unset.top) (stream_moved (codes "extract") (codes "FILE")).top

abbrev pub with_put : App
with_put = with_subcommand with_unset (stream_moved (codes "put") (codes "PACKAGE")).top

-- and the one on files of exported tables
abbrev pub with_imports : App
with_imports = with_subcommand with_put imported.top

-- and the one that judges what a package holds
abbrev pub with_contents : App
with_contents = with_subcommand with_imports contents_judged.top

-- and the one that makes a package of a folder
abbrev pub msidb : App
msidb = with_subcommand with_contents built.top
