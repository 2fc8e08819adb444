-- Packages that hold the same content answer alike.
use Rattle.std.proofs.Common.{◌≡◌, ◌⊎◌, ◌≤◌, ◌∙◌, ap, ap₂, arith, false, inl, inr, length, refl, subst, sym, true, ⊎_elim, Bool, List, ℕ}
use Rattle.std.specs.Prelude.{Err, IsErrOf, IsTrue, MatchResult, Ok, Result, is_none, map, nat_le, string_bytes}
use Rattle.std.proofs.lemmas.Bool.Decides.{nat_tests}
use Rattle.cfb.specs.Views.{file_case_table, mini_of}
use Rattle.cfb_fat.specs.Tables.{has_failed_here}
use Rattle.cfb_medium.specs.Calls.{IsFaultOrInvalidInputIf}
use Rattle.cfb_medium.specs.declared.error.Error.{Error}
use Rattle.cfb_medium.specs.declared.error.Error.TheVariants.{Failed, InvalidData, InvalidInput, Memory}
use Rattle.cfb_medium.specs.declared.medium.ReadMedium.{Ghosts}
use Rattle.cfb_medium.specs.declared.version.Version.{Version}
use Rattle.cfb_mini.specs.Views.{allocator_of}
use Rattle.cfb_tree.specs.Names.{CaseTable}
use Rattle.msi_query.specs.Query.{Query}
use Rattle.msi_pool.specs.Pool.{Pool}
use Rattle.msi_spec.specs.Calls.{Creates, Deletes, Drops, EndsRefusedOrBy, Inserts, Updates, selected_in, table_names}
use Rattle.msi_spec.specs.Package.{PackageContent, at_name, stream_name}
use Rattle.msi_spec.specs.Streams.{has_stream, is_signed, stream_names, stream_read, stream_removed, stream_written, unsigned}
use Rattle.msi_spec.proofs.Once.{create_once, delete_once, drop_once, insert_once, update_once}
use Rattle.msi_stored.specs.Changing.{PackageRule}
use Rattle.msi_stored.specs.Reading.{ReturnsOrFault}
use Rattle.msi_streams.specs.Writing.{AppliesPackageRule, most_bytes, written_within}
use Rattle.msi_table_edits.specs.Validating.{Validates, validated, with_validation}
use Rattle.msi_tables.specs.Rows.{Row}
use Rattle.msi_tables.specs.Schema.{columns_columns, tables_columns, validation_name}
use Rattle.msi_parts.specs.Parts.{heading}
use Rattle.msi_tables.specs.Table.{IsStoredByKeys}
use Rattle.msi_tables.specs.declared.rows.Rows.{Rows}
use Rattle.msi_tables.proofs.Keys.{stored_by_keys_once}
use Rattle.msi_texts.specs.Results.{unless_not, ◌>>=◌}
use Rattle.msi_texts.specs.declared.codepage.CodePage.{CodePage}
use Rattle.msi.specs.Alike.{AnswerAlike, AnswersSelect, AnswersStream, AnswersStreams, AnswersTables, AreAlike, ChangeAlike, ChangeTheSame, FollowAlike, HoldTheSame, IsFaulty, letters_in, seen_as}
use Rattle.msi.specs.Changing.{PackageChanges, failed_in, setting_page}
use Rattle.msi.specs.Copying.{HoldsPackageCopy}
use Rattle.msi.specs.Lists.{streams_left, tables_left}
use Rattle.msi.specs.Opened.{file_in, sound_in, IsOpenedPackage, PackageHasContent}
use Rattle.msi.proofs.OpenAgain.{held_again}
use Rattle.msi.specs.Reading.{Reading}
use Rattle.msi.specs.Rows.{rows_shown}
use Rattle.msi.specs.declared.package.Package.{Package}
use Rattle.msi.specs.declared.streams.Streams.{Streams}
use Rattle.msi.specs.declared.tables.Tables.{Tables}

-- ---- answers

-- an answer is a fault, or seen as the definition's
told : {A B : Type 0} (see : A → B) (expected : Result B Error) (answer : Result A Error) → ReturnsOrFault see expected answer → IsFaulty answer ⊎ (expected ≡ seen_as see answer)
told see expected (Ok value) is = inr is
told see expected (Err e) (inl fault) = inl (inl fault)
told see expected (Err e) (inr refused) = inr refused

-- two that are seen as the same are alike
both : {A B : Type 0} (see : A → B) (expected : Result B Error) (one other : Result A Error) → IsFaulty one ⊎ (expected ≡ seen_as see one) → IsFaulty other ⊎ (expected ≡ seen_as see other) → AreAlike see one other
both see expected one other (inl fault) second = inl fault
both see expected one other (inr is) (inl fault) = inr (inl fault)
both see expected one other (inr is) (inr too) = inr (inr (sym is ∙ too))

alike : {A B : Type 0} (see : A → B) (expected : Result B Error) (one other : Result A Error) → ReturnsOrFault see expected one → ReturnsOrFault see expected other → AreAlike see one other
alike see expected one other is too = both see expected one other (told see expected one is) (told see expected other too)

-- an answer that has one value
valued : {A B : Type 0} (see : A → B) (value : B) (answer : Result A Error) → MatchResult answer (λ a. see a ≡ value) (IsFaultOrInvalidInputIf ⊥) → IsFaulty answer ⊎ (Ok value ≡ seen_as see answer)
valued see value (Ok a) is = inr (ap (λ b. Ok b) (sym is))
valued see value (Err e) fault = inl (inl fault)

-- names as they are seen
abbrev streams_seen : Streams → List (List ℕ)
streams_seen left = map string_bytes (streams_left left)

abbrev tables_seen : Tables → List (List ℕ)
tables_seen left = map string_bytes (tables_left left)

failed_is : (e : Error) → IsErrOf {T = Tables} (Err e) Failed → IsFaultOrInvalidInputIf ⊥ e
failed_is e same = let is : e ≡ Failed = cc in subst (λ x. IsFaultOrInvalidInputIf ⊥ x) (sym is) tt

-- names of tables, which a fault alone keeps from being told
named : {F : Type 0} {g : Ghosts F} (it : Package F g) (P : PackageContent) (answer : Result Tables Error) → PackageHasContent it P → AnswersTables it answer
    → MatchResult answer (λ left. map string_bytes (tables_left left) ≡ table_names P) (IsFaultOrInvalidInputIf ⊥)
named it P (Ok left) h a = a.held P h
named it P (Err e) h a = by (has_failed_here (allocator_of (mini_of (file_in it)))) refl
  where
    by : (b : Bool) → has_failed_here (allocator_of (mini_of (file_in it))) ≡ b → IsFaultOrInvalidInputIf ⊥ e
    by true is = failed_is e (a.when_failed is)
    by false is = subst (λ x. IsFaultOrInvalidInputIf ⊥ x) (sym (a.errors is)) tt

module _ {F : Type 0} {g : Ghosts F} {G : Type 0} {h : Ghosts G} (one : Package F g) (other : Package G h) (P : PackageContent) (same : HoldTheSame one other P) where
  rows_alike : (asked : Query) (r s : Result Rows Error) → AnswersSelect one asked r → AnswersSelect other asked s → AreAlike rows_shown r s
  rows_alike asked r s first second = alike rows_shown (selected_in P asked) r s (first P same.first) (second P same.second)

  bytes_alike : (name : List ℕ) (r s : Result Reading Error) → AnswersStream one name r → AnswersStream other name s → AreAlike (λ (stream : Reading). stream.bytes) r s
  bytes_alike name r s first second =
      alike (λ (stream : Reading). stream.bytes) (stream_read (file_case_table (file_in one)) P name) r s (first P same.first)
      (subst (λ letters. ReturnsOrFault (λ (stream : Reading). stream.bytes) (stream_read letters P name) s) same.letters (second P same.second))

  streams_alike : (r s : Result Streams Error) → AnswersStreams one r → AnswersStreams other s → AreAlike streams_seen r s
  streams_alike r s first second =
      let names = stream_names (file_case_table (file_in one)) P in
      let told_so = subst (λ letters. MatchResult s (λ left. map string_bytes (streams_left left) ≡ stream_names letters P) (IsFaultOrInvalidInputIf ⊥)) same.letters (second P same.second) in
      both streams_seen (Ok names) r s (valued streams_seen names r (first P same.first)) (valued streams_seen names s told_so)

  tables_alike : (r s : Result Tables Error) → AnswersTables one r → AnswersTables other s → AreAlike tables_seen r s
  tables_alike r s first second =
      both tables_seen (Ok (table_names P)) r s
      (valued tables_seen (table_names P) r (named one P r same.first first)) (valued tables_seen (table_names P) s (named other P s same.second second))

  pub answer_alike : AnswerAlike one other
  answer_alike = record {
    rows = rows_alike;
    bytes = bytes_alike;
    streams = streams_alike;
    tables = tables_alike;
    there = λ name x y first second. first P same.first ∙ ap (λ letters. has_stream letters P name) (sym same.letters) ∙ sym (second P same.second);
    signed = λ x y first second. first P same.first ∙ ap (λ letters. is_signed letters P) (sym same.letters) ∙ sym (second P same.second);
    memory = (
      same.first.memory.kind ∙ sym same.second.memory.kind,
      same.first.memory.summary ∙ sym same.second.memory.summary,
      same.first.memory.pool ∙ sym same.second.memory.pool,
      same.first.memory.tables ∙ ap (λ l. map (heading l) P.tables) (ap (λ (p : Pool). p.long) (same.first.memory.pool ∙ sym same.second.memory.pool)) ∙ sym same.second.memory.tables,
    );
  }

-- ---- changes

-- two rules that have one outcome; a rule that has one
abbrev pub SameOutcome : PackageRule → PackageRule → PackageContent → Type 0
SameOutcome rule other P = (Q R : PackageContent) (a b : Result (Unit {0}) Error) → rule P Q a → other P R b → (Q ≡ R) × (a ≡ b)

abbrev pub OneOutcome : PackageRule → PackageContent → Type 0
OneOutcome rule P = SameOutcome rule rule P

-- what a change comes to, of a package that is sound or not
abbrev Outcome : Bool → PackageRule → PackageContent → PackageContent → Result (Unit {0}) Error → Type 0
Outcome true rule P Q answer = rule P Q answer
Outcome false rule P Q answer = (Q ≡ P) × (answer ≡ Err InvalidData)

came : {F : Type 0} {g : Ghosts F} (rule : PackageRule) (old new : Package F g) (P : PackageContent) (answer : Result (Unit {0}) Error) (sound : Bool) → sound_in old ≡ sound → PackageHasContent old P
    → PackageChanges rule answer old new → IsFaulty answer ⊎ ((Q : PackageContent) × Outcome sound rule P Q answer × PackageHasContent new Q)
came rule old new P answer true sound h c = by answer c
  where
    by : (answer : Result (Unit {0}) Error) → PackageChanges rule answer old new → IsFaulty answer ⊎ ((Q : PackageContent) × rule P Q answer × PackageHasContent new Q)
    by (Ok u) c = inr (c.done P h)
    by (Err e) c = ⊎_elim (λ fault. inl fault) (λ refused. inr (P, refused.0, refused.1.holds P h)) (c.refused P h sound)
came rule old new P answer false unsound h c = by (failed_in old) refl
  where
    by : (b : Bool) → failed_in old ≡ b → IsFaulty answer ⊎ ((Q : PackageContent) × Outcome false rule P Q answer × PackageHasContent new Q)
    by true failed = inl (subst (λ (r : Result (Unit {0}) Error). IsFaulty r) (sym (c.failed failed)) (inl tt))
    by false live = let refused = c.unsound live unsound in inr (P, (refl, refused.0), refused.1.holds P h)

one_outcome : (sound : Bool) (rule other : PackageRule) (P : PackageContent) → SameOutcome rule other P → (Q R : PackageContent) (a b : Result (Unit {0}) Error) → Outcome sound rule P Q a → Outcome sound other P R b → (Q ≡ R) × (a ≡ b)
one_outcome true rule other P once Q R a b is too = once Q R a b is too
one_outcome false rule other P once Q R a b is too = (is.0 ∙ sym too.0, is.1 ∙ sym too.1)

-- the same change of two packages that hold the same
changes_alike : {F : Type 0} {g : Ghosts F} {G : Type 0} {h : Ghosts G} (rule rule_too : PackageRule) (one one_new : Package F g) (other other_new : Package G h) (P : PackageContent) (r s : Result (Unit {0}) Error)
    → SameOutcome rule rule_too P → HoldTheSame one other P → PackageChanges rule r one one_new → PackageChanges rule_too s other other_new → ChangeAlike r s one_new other_new
changes_alike rule rule_too one one_new other other_new P r s once same first second =
    join (came rule one one_new P r (sound_in one) refl same.first first) (came rule_too other other_new P s (sound_in one) same.sound same.second second)
  where
    join : IsFaulty r ⊎ ((Q : PackageContent) × Outcome (sound_in one) rule P Q r × PackageHasContent one_new Q) → IsFaulty s ⊎ ((Q : PackageContent) × Outcome (sound_in one) rule_too P Q s × PackageHasContent other_new Q)
        → ChangeAlike r s one_new other_new
    join (inl fault) too = inl fault
    join (inr it) (inl fault) = inr (inl fault)
    join (inr it) (inr too) =
        let settled = one_outcome (sound_in one) rule rule_too P once it.0 too.0 r s it.1 too.1 in
        inr (inr (
          settled.1,
          (
            it.0,
            record {
              first = it.2;
              second = subst (λ Q. PackageHasContent other_new Q) (sym settled.0) too.2;
              letters = second.seen.0 ∙ same.letters ∙ sym first.seen.0;
              sound = second.seen.1 ∙ same.sound ∙ sym first.seen.1;
            },
          ),
        ))

-- what a definition gives, it gives once
ends_once : (P Q R : PackageContent) (a b : Result (Unit {0}) Error) (r : Result PackageContent Error) → EndsRefusedOrBy r P Q a (λ S. Q ≡ S) → EndsRefusedOrBy r P R b (λ S. R ≡ S) → (Q ≡ R) × (a ≡ b)
ends_once P Q R a b (Ok S) is too = (is.1 ∙ sym too.1, is.0 ∙ sym too.0)
ends_once P Q R a b (Err e) is too = (is.0 ∙ sym too.0, is.1 ∙ sym too.1)

applied_once : (made other : PackageContent → Result PackageContent Error) (P : PackageContent) → other P ≡ made P → SameOutcome (AppliesPackageRule made) (AppliesPackageRule other) P
applied_once made other P same = λ Q R a b is too. ends_once P Q R a b (made P) is (subst (λ (r : Result PackageContent Error). EndsRefusedOrBy r P R b (λ S. R ≡ S)) same too)

set_once : (page : CodePage) (P : PackageContent) → OneOutcome (setting_page page) P
set_once page P = λ Q R a b is too. (is.0 ∙ sym too.0, is.1 ∙ sym too.1)

listed_once : (P Q R : PackageContent) (a b : Result (Unit {0}) Error) (r : Result ((List Row × List Row) × Pool) Error)
    → EndsRefusedOrBy r P Q a (λ x. (c : List Row) × (t : List Row) × IsStoredByKeys x.1 columns_columns x.0.0 c × IsStoredByKeys x.1 tables_columns x.0.1 t × (Q ≡ with_validation P x.1 c t))
    → EndsRefusedOrBy r P R b (λ x. (c : List Row) × (t : List Row) × IsStoredByKeys x.1 columns_columns x.0.0 c × IsStoredByKeys x.1 tables_columns x.0.1 t × (R ≡ with_validation P x.1 c t))
    → (Q ≡ R) × (a ≡ b)
listed_once P Q R a b (Ok x) is too =
    let columns = stored_by_keys_once x.1 columns_columns x.0.0 is.1.0 too.1.0 is.1.2 too.1.2 in
    let tables = stored_by_keys_once x.1 tables_columns x.0.1 is.1.1 too.1.1 is.1.3 too.1.3 in
    (is.1.4 ∙ ap₂ (λ c t. with_validation P x.1 c t) columns tables ∙ sym too.1.4, is.0 ∙ sym too.0)
listed_once P Q R a b (Err e) is too = (is.0 ∙ sym too.0, is.1 ∙ sym too.1)

validate_once : (letters : CaseTable) (P : PackageContent) → OneOutcome (λ P Q a. Validates letters P Q a) P
validate_once letters P = λ Q R a b is too. listed_once P Q R a b (validated (is_none (at_name letters P.storages (stream_name validation_name))) P) is too

-- of bytes that files of two versions can have one stream is made
within : (letters letters_too : CaseTable) (one other : ℕ) (name content : List ℕ) → letters_too ≡ letters → length content ≤ one → length content ≤ other → (P : PackageContent)
    → written_within letters_too other name content P ≡ written_within letters one name content P
within letters letters_too one other name content same less little P =
    let first : nat_le (length content) one ≡ true = grind (arith, nat_tests) in
    let second : nat_le (length content) other ≡ true = grind (arith, nat_tests) in
    ap (λ l. written_within l other name content P) same
    ∙ ap (λ b. stream_written letters P name content >>= λ Q. unless_not b InvalidInput >>= λ _. Ok Q) (second ∙ sym first)

module _ {F : Type 0} {g : Ghosts F} {G : Type 0} {h : Ghosts G} (one : Package F g) (other : Package G h) (one_after : Package F g) (other_after : Package G h) (P : PackageContent) (same : HoldTheSame one other P) where
  -- by two rules
  followed : (rule rule_too : PackageRule) → SameOutcome rule rule_too P → FollowAlike rule rule_too one other one_after other_after
  followed rule rule_too once = λ r s first second. changes_alike rule rule_too one one_after other other_after P r s once same first second

  -- by one rule
  follow : (rule : PackageRule) → OneOutcome rule P → FollowAlike rule rule one other one_after other_after
  follow rule once = followed rule rule once

  -- by a rule of the case table
  compared : (rule : CaseTable → PackageRule) → OneOutcome (rule (letters_in one)) P → FollowAlike (rule (letters_in one)) (rule (letters_in other)) one other one_after other_after
  compared rule once = subst (λ letters. FollowAlike (rule (letters_in one)) (rule letters) one other one_after other_after) (sym same.letters) (follow (rule (letters_in one)) once)

  pub change_the_same : ChangeTheSame one other one_after other_after
  change_the_same = record {
    creates = λ name columns. compared (λ letters R Q a. Creates letters R name columns Q a) (λ Q R a b is too. create_once P Q R a b name (letters_in one) columns is too);
    validates = compared (λ letters R Q a. Validates letters R Q a) (validate_once (letters_in one) P);
    drops = λ name. follow (λ R Q a. Drops R name Q a) (λ Q R a b is too. drop_once P Q R a b name is too);
    inserts = λ name rows. follow (λ R Q a. Inserts R name rows Q a) (λ Q R a b is too. insert_once P Q R a b name rows is too);
    updates = λ name sets condition. follow (λ R Q a. Updates R name sets condition Q a) (λ Q R a b is too. update_once P Q R a b name sets condition is too);
    deletes = λ name condition. follow (λ R Q a. Deletes R name condition Q a) (λ Q R a b is too. delete_once P Q R a b name condition is too);
    puts = λ name content less little.
        let made : PackageContent → Result PackageContent Error = written_within (letters_in one) (most_bytes (file_in one)) name content in
        let made_too : PackageContent → Result PackageContent Error = written_within (letters_in other) (most_bytes (file_in other)) name content in
        followed (AppliesPackageRule made) (AppliesPackageRule made_too)
        (applied_once made made_too P (within (letters_in one) (letters_in other) (most_bytes (file_in one)) (most_bytes (file_in other)) name content same.letters less little P));
    removes = λ name.
        let made : PackageContent → Result PackageContent Error = λ R. stream_removed (letters_in one) R name in
        compared (λ letters. AppliesPackageRule (λ R. stream_removed letters R name)) (applied_once made made P refl);
    unsigns =
        let made : PackageContent → Result PackageContent Error = λ R. Ok (unsigned (letters_in one) R) in
        compared (λ letters. AppliesPackageRule (λ R. Ok (unsigned letters R))) (applied_once made made P refl);
    pages = λ page. follow (setting_page page) (set_once page P);
  }

-- a copy holds what was copied, and answers so
pub copy_alike : {F : Type 0} {g : Ghosts F} {G : Type 0} {h : Ghosts G} (one : Package F g) (copy : Package G h) (version : Version) (bytes : List ℕ) (P : PackageContent)
    → PackageHasContent one P → IsTrue (sound_in one) → HoldsPackageCopy version (letters_in one) bytes P → IsOpenedPackage (letters_in one) bytes copy → HoldTheSame one copy P
copy_alike one copy version bytes P held sound made opened =
    let again = held_again (letters_in one) bytes P made.holds copy opened in
    record { first = held; second = again.0; letters = opened.compared; sound = again.1 ∙ sym sound }
