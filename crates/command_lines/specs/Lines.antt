-- What a line says of the words.
use Rattle.std.specs.Prelude.{◌≡◌, ◌<◌, Bool, false, List, [], ◌∷◌, Option, Some, None, codes, length, map, option_map, unwrap_or}
use Rattle.std.specs.Borrow.{Bor}
use Rattle.std.specs.Str.{bytes_eq}
use Rattle.clap.specs.Words.{Row, Text, all_of, first_of, subcommand_of}
use Rattle.command_words.specs.Words.{msidb}
use Rattle.command_lines.specs.declared.line.Line.{Line}
use Rattle.command_lines.specs.declared.line.Line.TheVariants.{Adopt, Build, Check, Create, List as ListNames, Export, Extract, Get, Import, Put, Recover, Run, Set, Show, Unset, Validate}
use Rattle.command_options.specs.declared.Adoption.{Adoption}
use Rattle.command_options.specs.declared.Log.{Log}
use Rattle.command_options.specs.declared.Log.TheVariants.{At, Beside, Twice}
use Rattle.command_options.specs.declared.Pages.{Pages}
use Rattle.command_options.specs.declared.Parts.{Parts}
use Rattle.command_options.specs.declared.RunOptions.{RunOptions}

-- what a line says: the word, and each path that is one alone, with the name under which it is given
abbrev pub words_of_line : Line → Text × List (Text × Text)
words_of_line (Create home log) = (codes "create", (codes "PACKAGE", home.now) ∷ [])
words_of_line (Recover home log) = (codes "recover", (codes "PACKAGE", home.now) ∷ [])
words_of_line (Run home log commands options) = (codes "run", (codes "PACKAGE", home.now) ∷ [])
words_of_line (Adopt home log source beside adoption) = (codes "adopt", (codes "PACKAGE", home.now) ∷ [])
words_of_line (ListNames home log) = (codes "list", (codes "PACKAGE", home.now) ∷ [])
words_of_line (Show file log parts csv pages) = (codes "show", (codes "FILE", file.now) ∷ [])
words_of_line (Check files log places pages) = (codes "check", [])
words_of_line (Validate files log ignored pages) = (codes "validate", [])
words_of_line (Export file log folder pages) = (codes "export", (codes "FILE", file.now) ∷ (codes "FOLDER", folder.now) ∷ [])
words_of_line (Get file log name summary pages) = (codes "get", (codes "FILE", file.now) ∷ (codes "NAME", name.now) ∷ [])
words_of_line (Set home log name value more summary) = (codes "set", (codes "PACKAGE", home.now) ∷ (codes "NAME", name.now) ∷ (codes "VALUE", value.now) ∷ [])
words_of_line (Unset home log name summary) = (codes "unset", (codes "PACKAGE", home.now) ∷ (codes "NAME", name.now) ∷ [])
words_of_line (Extract file log stream to) = (codes "extract", (codes "FILE", file.now) ∷ (codes "STREAM", stream.now) ∷ (codes "PATH", to.now) ∷ [])
words_of_line (Put home log stream from) = (codes "put", (codes "PACKAGE", home.now) ∷ (codes "STREAM", stream.now) ∷ (codes "PATH", from.now) ∷ [])
words_of_line (Build home log folder) = (codes "build", (codes "PACKAGE", home.now) ∷ (codes "FOLDER", folder.now) ∷ [])
words_of_line (Import home log paths) = (codes "import", (codes "PACKAGE", home.now) ∷ [])

-- these paths were given under these names
abbrev pub AreIn : List (Text × Text) → List Row → Type 0
AreIn [] rows = Unit {0}
AreIn (path ∷ paths) rows = (first_of path.0 rows ≡ Some path.1) × AreIn paths rows

-- these are all the paths that were given under this name, one at least, in the order in which they were
abbrev pub ArePaths : Text → List (Bor Text) → List Row → Type 0
ArePaths name paths rows = (0 < length paths) × (Some (map (λ s. s.now) paths) ≡ all_of name rows)

abbrev pub AreFiles : List (Bor Text) → List Row → Type 0
AreFiles files rows = ArePaths (codes "FILE") files rows

-- these are all the further names and values, in the order in which they were given; none where none was
abbrev pub AreMore : List (Bor Text) → List Row → Type 0
AreMore more rows = map (λ s. s.now) more ≡ unwrap_or (all_of (codes "MORE") rows) []

-- whether a flag was given: its row then says so
abbrev pub is_set : Option Text → Bool
is_set None = false
is_set (Some text) = bytes_eq text (codes "true")

-- these parts were asked for
abbrev pub AreAsked : Parts → List Row → Type 0
AreAsked parts rows = (option_map (λ s. s.now) parts.table ≡ first_of (codes "TABLE") rows)
    × (parts.summary ≡ is_set (first_of (codes "summary") rows)) × (parts.streams ≡ is_set (first_of (codes "streams") rows))
    × (parts.tree ≡ is_set (first_of (codes "tree") rows))

-- these code pages were asked for, by options of these names
abbrev pub ArePages : Pages → Text → Text → List Row → Type 0
ArePages pages texts summary rows = (option_map (λ s. s.now) pages.texts ≡ first_of texts rows) × (option_map (λ s. s.now) pages.summary ≡ first_of summary rows)

-- and these, of a package that is only read
abbrev pub AreReadPages : Pages → List Row → Type 0
AreReadPages pages rows = ArePages pages (codes "codepage") (codes "summary-codepage") rows

-- so a package is adopted
abbrev pub IsAdoption : Adoption → List Row → Type 0
IsAdoption adoption rows = (adoption.validation ≡ is_set (first_of (codes "validation") rows)) × (adoption.in_place ≡ is_set (first_of (codes "in-place") rows))
    × (adoption.utf8 ≡ is_set (first_of (codes "to-utf8") rows))
    × ArePages adoption.pages (codes "from-codepage") (codes "from-summary-codepage") rows

-- so commands are run
abbrev pub AreOptions : RunOptions → List Row → Type 0
AreOptions options rows = (options.quiet ≡ is_set (first_of (codes "quiet") rows)) × (options.stop ≡ is_set (first_of (codes "stop") rows))
    × (options.all_or_nothing ≡ is_set (first_of (codes "all-or-nothing") rows))

-- which log is named: none, one, or two
pub data Named : Type 0 where
  unnamed : Named
  once : Text → Named
  twice : Text → Text → Named

abbrev pub named_by : Log → Named
named_by Beside = unnamed
named_by (At path) = once path.now
named_by (Twice among behind) = twice among.now behind.now

-- the log that is named by a path among the others, by the one behind `--log`, or by both
abbrev pub named : Option Text → Option Text → Named
named None None = unnamed
named None (Some behind) = once behind
named (Some among) None = once among
named (Some among) (Some behind) = twice among behind

-- of one path or two behind the package the last is that of the commands
abbrev pub commands_among : Option Text → Option Text → Option Text
commands_among first None = first
commands_among first (Some last) = Some last

-- and what stands in front of it that of the log
abbrev pub log_among : Option Text → Option Text → Option Text
log_among first None = None
log_among first (Some last) = first

abbrev pub IsNamedIn : Log → Option Text → List Row → Type 0
IsNamedIn log among rows = named_by log ≡ named among (first_of (codes "log") rows)

-- the path that is named under this name, where one is
abbrev pub IsReadLog : Option (Bor Text) → Text → List Row → Type 0
IsReadLog log name rows = option_map (λ s. s.now) log ≡ first_of name rows

-- what is asked for besides the paths that are one alone and must be there
abbrev pub AsksFor : Line → List Row → Type 0
AsksFor (Create home log) rows = IsNamedIn log (first_of (codes "LOG") rows) rows
AsksFor (Recover home log) rows = IsNamedIn log (first_of (codes "LOG") rows) rows
AsksFor (ListNames home log) rows = IsNamedIn log (first_of (codes "LOG") rows) rows
AsksFor (Adopt home log source beside adoption) rows = IsNamedIn log None rows × IsReadLog beside (codes "source-log") rows × IsReadLog source (codes "SOURCE") rows × IsAdoption adoption rows
AsksFor (Run home log commands options) rows = let first = first_of (codes "COMMANDS") rows in let last = first_of (codes "LAST") rows in
    (Some commands.now ≡ commands_among first last) × IsNamedIn log (log_among first last) rows × AreOptions options rows
AsksFor (Show file log parts csv pages) rows = IsReadLog log (codes "log") rows × AreAsked parts rows × (csv ≡ is_set (first_of (codes "csv") rows)) × AreReadPages pages rows
AsksFor (Check files log places pages) rows = AreFiles files.items rows × IsReadLog log (codes "log") rows × (places ≡ is_set (first_of (codes "places") rows)) × AreReadPages pages rows
AsksFor (Validate files log ignored pages) rows = AreFiles files.items rows × IsReadLog log (codes "log") rows × IsReadLog ignored (codes "ignore") rows × AreReadPages pages rows
AsksFor (Export file log folder pages) rows = IsReadLog log (codes "log") rows × AreReadPages pages rows
AsksFor (Get file log name summary pages) rows = IsReadLog log (codes "log") rows × (summary ≡ is_set (first_of (codes "summary") rows)) × AreReadPages pages rows
AsksFor (Set home log name value more summary) rows = IsNamedIn log None rows × AreMore more.items rows × (summary ≡ is_set (first_of (codes "summary") rows))
AsksFor (Unset home log name summary) rows = IsNamedIn log None rows × (summary ≡ is_set (first_of (codes "summary") rows))
AsksFor (Extract file log stream to) rows = IsReadLog log (codes "log") rows
AsksFor (Put home log stream from) rows = IsNamedIn log None rows
AsksFor (Build home log folder) rows = IsNamedIn log None rows
AsksFor (Import home log paths) rows = IsNamedIn log None rows × ArePaths (codes "PATH") paths.items rows

-- the word that was found, with its paths, is what the line says
abbrev pub SaidIn : Line → Option (Text × List Row) → Type 0
SaidIn line None = ⊥
SaidIn line (Some found) = ((words_of_line line).0 ≡ found.0) × AreIn (words_of_line line).1 found.1 × AsksFor line found.1

abbrev pub HasSaid : Line → List Text → Type 0
HasSaid line words = SaidIn line (subcommand_of msidb words)
