-- What two packages that hold the same content answer to the same call: over whichever media, and with whichever buffers.
use Rattle.std.specs.Prelude.{◌≡◌, ◌⊎◌, ◌≤◌, ℕ, Bool, false, true, IfErr, IfOk, IsErrOf, List, MatchResult, Ok, Option, Result, length, map, string_bytes}
use Rattle.cfb.specs.Views.{file_case_table, mini_of}
use Rattle.cfb_fat.specs.Tables.{has_failed_here}
use Rattle.cfb_medium.specs.Calls.{IsFaultOrInvalidInputIf}
use Rattle.cfb_medium.specs.declared.error.Error.{Error}
use Rattle.cfb_medium.specs.declared.error.Error.TheVariants.{Failed, Memory}
use Rattle.cfb_medium.specs.declared.medium.ReadMedium.{Ghosts}
use Rattle.cfb_mini.specs.Views.{allocator_of}
use Rattle.cfb_tree.specs.Names.{CaseTable}
use Rattle.cfb_tree_edits.specs.LiveTreeRules.{IsFaultOrFull}
use Rattle.msi_columns.specs.Column.{Column}
use Rattle.msi_expr.specs.Formula.{Formula}
use Rattle.msi_query.specs.Query.{Query}
use Rattle.msi_spec.specs.Calls.{Creates, Deletes, Drops, Inserts, Updates, selected_in, table_names}
use Rattle.msi_spec.specs.Package.{PackageContent}
use Rattle.msi_spec.specs.Streams.{has_stream, is_signed, stream_names, stream_read, stream_removed, unsigned}
use Rattle.msi_stored.specs.Changing.{PackageRule}
use Rattle.msi_stored.specs.Reading.{ReturnsOrFault}
use Rattle.msi_streams.specs.Writing.{AppliesPackageRule, most_bytes, written_within}
use Rattle.msi_table_edits.specs.Validating.{Validates}
use Rattle.msi_tables.specs.declared.rows.Rows.{Rows}
use Rattle.msi_texts.specs.Results.{◌>>=◌}
use Rattle.msi_texts.specs.declared.codepage.CodePage.{CodePage}
use Rattle.msi_values.specs.Datum.{Datum}
use Rattle.msi.specs.Changing.{PackageChanges, setting_page}
use Rattle.msi.specs.Lists.{streams_left, tables_left}
use Rattle.msi.specs.Opened.{file_in, kind_in, pool_in, sound_in, summary_in, tables_in, PackageHasContent}
use Rattle.msi.specs.Reading.{Reading}
use Rattle.msi.specs.Rows.{rows_shown}
use Rattle.msi.specs.declared.package.Package.{Package}
use Rattle.msi.specs.declared.streams.Streams.{Streams}
use Rattle.msi.specs.declared.tables.Tables.{Tables}

-- the answer is a fault, or want of a number for an entry or a sector
abbrev pub IsFaulty : {A : Type 0} → Result A Error → Type 0
IsFaulty answer = MatchResult answer (λ _. ⊥) IsFaultOrFull

-- an answer as its value is seen, or its refusal
abbrev pub seen_as : {A B : Type 0} → (A → B) → Result A Error → Result B Error
seen_as see answer = answer >>= λ value. Ok (see value)

-- two answers that are seen as one, unless one of them is a fault
abbrev pub AreAlike : {A B : Type 0} → (A → B) → Result A Error → Result A Error → Type 0
AreAlike see one other = IsFaulty one ⊎ IsFaulty other ⊎ (seen_as see one ≡ seen_as see other)

-- ---- what the calls that read say of their answers

module _ {F : Type 0} {g : Ghosts F} where
  -- `select_rows`
  abbrev pub AnswersSelect : Package F g → Query → Result Rows Error → Type 0
  AnswersSelect it asked answer = (P : PackageContent) → PackageHasContent it P → ReturnsOrFault rows_shown (selected_in P asked) answer

  -- `read_stream`
  abbrev pub AnswersStream : Package F g → List ℕ → Result Reading Error → Type 0
  AnswersStream it name answer = (P : PackageContent) → PackageHasContent it P → ReturnsOrFault (λ (stream : Reading). stream.bytes) (stream_read (file_case_table (file_in it)) P name) answer

  -- `streams`
  abbrev pub AnswersStreams : Package F g → Result Streams Error → Type 0
  AnswersStreams it answer = (P : PackageContent) → PackageHasContent it P
      → MatchResult answer (λ (left : Streams). map string_bytes (streams_left left) ≡ stream_names (file_case_table (file_in it)) P) (IsFaultOrInvalidInputIf ⊥)

  -- `has_stream`
  abbrev pub IsStreamThere : Package F g → List ℕ → Bool → Type 0
  IsStreamThere it name answer = (P : PackageContent) → PackageHasContent it P → answer ≡ has_stream (file_case_table (file_in it)) P name

  -- `has_digital_signature`
  abbrev pub IsSigned : Package F g → Bool → Type 0
  IsSigned it answer = (P : PackageContent) → PackageHasContent it P → answer ≡ is_signed (file_case_table (file_in it)) P

  -- by which names are told apart
  abbrev pub letters_in : Package F g → CaseTable
  letters_in it = file_case_table (file_in it)

  -- `tables`
  pub record AnswersTables (it : Package F g) (answer : Result Tables Error) : Type 0 where
    pub held : (P : PackageContent) → PackageHasContent it P → IfOk answer (λ (left : Tables). map string_bytes (tables_left left) ≡ table_names P)
    pub when_failed : has_failed_here (allocator_of (mini_of (file_in it))) ≡ true → IsErrOf answer Failed
    pub errors : has_failed_here (allocator_of (mini_of (file_in it))) ≡ false → IfErr answer (λ e. e ≡ Memory)

-- ---- two packages

module _ {F : Type 0} {g : Ghosts F} {G : Type 0} {h : Ghosts G} where
  -- BOTH HOLD THIS CONTENT, tell names apart alike, and are sound, or neither is
  pub record HoldTheSame (one : Package F g) (other : Package G h) (P : PackageContent) : Type 0 where
    pub first : PackageHasContent one P
    pub second : PackageHasContent other P
    pub letters : file_case_table (file_in other) ≡ file_case_table (file_in one)
    pub sound : sound_in other ≡ sound_in one

  -- each call that reads answers both alike, and memory has the same
  pub record AnswerAlike (one : Package F g) (other : Package G h) : Type 0 where
    pub rows : (asked : Query) (r s : Result Rows Error) → AnswersSelect one asked r → AnswersSelect other asked s → AreAlike rows_shown r s
    pub bytes : (name : List ℕ) (r s : Result Reading Error) → AnswersStream one name r → AnswersStream other name s → AreAlike (λ (stream : Reading). stream.bytes) r s
    pub streams : (r s : Result Streams Error) → AnswersStreams one r → AnswersStreams other s → AreAlike (λ (left : Streams). map string_bytes (streams_left left)) r s
    pub tables : (r s : Result Tables Error) → AnswersTables one r → AnswersTables other s → AreAlike (λ (left : Tables). map string_bytes (tables_left left)) r s
    pub there : (name : List ℕ) (x y : Bool) → IsStreamThere one name x → IsStreamThere other name y → x ≡ y
    pub signed : (x y : Bool) → IsSigned one x → IsSigned other y → x ≡ y
    pub memory : (kind_in one ≡ kind_in other) × ((summary_in one).props ≡ (summary_in other).props) × ((pool_in one).pool ≡ (pool_in other).pool) × (tables_in one ≡ tables_in other)

  -- two answers to the same change that are one, and packages that hold the same content after it, unless one of the answers is a fault
  abbrev pub ChangeAlike : Result (Unit {0}) Error → Result (Unit {0}) Error → Package F g → Package G h → Type 0
  ChangeAlike one_answer other_answer one other =
      IsFaulty one_answer ⊎ IsFaulty other_answer ⊎ ((one_answer ≡ other_answer) × ((Q : PackageContent) × HoldTheSame one other Q))

  -- so are the answers of these two rules, each of a call that changed one of the packages
  abbrev pub FollowAlike : PackageRule → PackageRule → Package F g → Package G h → Package F g → Package G h → Type 0
  FollowAlike one_rule other_rule one other one_after other_after =
      (r s : Result (Unit {0}) Error) → PackageChanges one_rule r one one_after → PackageChanges other_rule s other other_after → ChangeAlike r s one_after other_after

  -- each call that changes both does it alike; a stream where files of both versions can have so many bytes
  pub record ChangeTheSame (one : Package F g) (other : Package G h) (one_after : Package F g) (other_after : Package G h) : Type 0 where
    pub creates : (name : List ℕ) (columns : List Column) → FollowAlike (λ P Q a. Creates (letters_in one) P name columns Q a) (λ P Q a. Creates (letters_in other) P name columns Q a) one other one_after other_after
    pub validates : FollowAlike (λ P Q a. Validates (letters_in one) P Q a) (λ P Q a. Validates (letters_in other) P Q a) one other one_after other_after
    pub drops : (name : List ℕ) → FollowAlike (λ P Q a. Drops P name Q a) (λ P Q a. Drops P name Q a) one other one_after other_after
    pub inserts : (name : List ℕ) (rows : List (List Datum)) → FollowAlike (λ P Q a. Inserts P name rows Q a) (λ P Q a. Inserts P name rows Q a) one other one_after other_after
    pub updates : (name : List ℕ) (sets : List (List ℕ × Datum)) (condition : Option Formula)
        → FollowAlike (λ P Q a. Updates P name sets condition Q a) (λ P Q a. Updates P name sets condition Q a) one other one_after other_after
    pub deletes : (name : List ℕ) (condition : Option Formula) → FollowAlike (λ P Q a. Deletes P name condition Q a) (λ P Q a. Deletes P name condition Q a) one other one_after other_after
    pub puts : (name content : List ℕ) → length content ≤ most_bytes (file_in one) → length content ≤ most_bytes (file_in other)
        → FollowAlike (AppliesPackageRule (written_within (letters_in one) (most_bytes (file_in one)) name content))
        (AppliesPackageRule (written_within (letters_in other) (most_bytes (file_in other)) name content)) one other one_after other_after
    pub removes : (name : List ℕ) → FollowAlike (AppliesPackageRule (λ P. stream_removed (letters_in one) P name)) (AppliesPackageRule (λ P. stream_removed (letters_in other) P name)) one other one_after other_after
    pub unsigns : FollowAlike (AppliesPackageRule (λ P. Ok (unsigned (letters_in one) P))) (AppliesPackageRule (λ P. Ok (unsigned (letters_in other) P))) one other one_after other_after
    pub pages : (page : CodePage) → FollowAlike (setting_page page) (setting_page page) one other one_after other_after
