-- Runs that are settled by their commands.
use Rattle.std.proofs.Common.{◌≡◌, ◌⊎◌, ◌<◌, ◌||◌, ◌∙◌, ◌++◌, arith, length, Bool, List, None, Some, [], ◌∷◌, ap, ap₂, false, inl, inr, not, refl, subst, sym, true, ⊎_elim}
use Rattle.std.proofs.lemmas.Bool.{both_ways}
use Rattle.std.proofs.lemmas.Bool.Decides.{nat_tests}
use Rattle.std.specs.Prelude.{bytes_eq, filter, is_none, nat_lt, ℕ, Result, Ok, Err}
use Rattle.cfb_medium.specs.declared.error.Error.{Error}
use Rattle.cfb_medium.specs.declared.error.Error.TheVariants.{AlreadyExists}
use Rattle.cfb_medium.specs.Versions.{stream_len_mask}
use Rattle.cfb_medium.specs.declared.version.Version.{Version}
use Rattle.cfb_medium.specs.declared.version.Version.TheVariants.{V3, V4}
use Rattle.cfb_spec.specs.TreeRules.{Object}
use Rattle.cfb_tree.specs.Names.{CaseTable}
use Rattle.cfb_tree.proofs.OneContent.{Some_same}
use Rattle.command_file.specs.Request.{Request, is_changing, is_roll_back}
use Rattle.command_file.specs.Request as command
use Rattle.msi_changes.specs.Changes.{deleted, inserted, updated}
use Rattle.msi_spec.specs.Calls.{change, created, dropped, found_table, may_insert, may_update, new_table, own_columns, rows_beside, rows_put, selected_in, table_put, Change, EndsRefusedOrBy, PackagePuts}
use Rattle.msi_spec.specs.Package.{at_name, stream_name, PackageContent}
use Rattle.msi_spec.specs.Streams.{may_name, plain_stream_name, stream_read, stream_removed, stream_written}
use Rattle.msi_tables.specs.Rows.{IsStored, Row}
use Rattle.msi_tables.specs.Schema.{columns_columns, columns_name, tables_columns, tables_name, validation_name}
use Rattle.msi_tables.specs.Table.{IsStoredByKeys}
use Rattle.msi_texts.specs.Results.{unless_not, ◌>>=◌}
use Rattle.installer.proofs.Based.{base_of}
use Rattle.installer.proofs.Once.{step_once}
use Rattle.installer.specs.SessionStates.{base_after, over, fails, broken, unchanged, baseless, led, refuses, rolls, stays, steps, SessionState, CommandStep, SessionRollsBack, IsTooMuch, KeepsBase, IsUndone, BegunCommit, SessionRuns, StepAs}
use Rattle.installer.specs.Reply.{Reply}
use Rattle.installer.specs.Reply as told
use Rattle.installer.specs.Step.{PackageBecomes, Reads, PackageStep}
use Rattle.installer.specs.Undisturbed.{AreByRule, GoOn, IsBasedOn, is_by_rule, is_outside, is_sized}

-- ---- replies that a rule gave

-- what is too much for a file of some version is too much for one of version 3
over_least : (v : Version) (n : ℕ) → stream_len_mask v < n → nat_lt (stream_len_mask V3) n ≡ true
over_least V3 n less = grind (arith, nat_tests)
over_least V4 n less = grind (arith, nat_tests)

sized : (P : PackageContent) (request : Request) → IsTooMuch P request → is_sized request ≡ true
sized P (command.write_stream name content) much = over_least much.0 (length content) much.1
sized P command.flush much = refl
sized P command.commit much = refl
sized P request much = absurd much

outside : (old new : SessionState) (request : Request) (e : Error) → IsUndone old request e new → is_outside (is_sized request) e ≡ true
outside old new request e is = ⊎_elim
    (λ fault. ⊎_elim (λ memory. rw memory refl) (λ more. ⊎_elim (λ full. rw full.0 refl) (λ device. rw device.0 refl) more) fault)
    (λ much. rw much.0 (sized old.held request much.1)) is

-- what is undone, or refused after a fault, is by no rule
not_by_rule : (request : Request) (reply : Reply) (e : Error) → reply ≡ told.refused e → is_outside (is_sized request) e ≡ true → is_by_rule request reply ≡ true → ⊥
not_by_rule request reply e is out by =
    let never : true ≡ false = sym by ∙ ap (is_by_rule request) is ∙ ap (λ b. not (b || is_roll_back request)) out in
    absurd (cc)

or_true : (b : Bool) → b || true ≡ true
or_true true = refl
or_true false = refl

-- a roll back is by none
not_back : (request : Request) (reply : Reply) → is_roll_back request ≡ true → is_by_rule request reply ≡ true → ⊥
not_back request (told.refused e) back by =
    let never : true ≡ false = sym by ∙ ap (λ b. not (is_outside (is_sized request) e || b)) back ∙ ap not (or_true (is_outside (is_sized request) e)) in cc
not_back request reply back by = let never : true ≡ false = sym by ∙ ap not back in cc

went : (letters : CaseTable) (old new : SessionState) (request : Request) (reply : Reply) → CommandStep letters old request reply new → is_by_rule request reply ≡ true
    → StepAs old.sound letters old.held request reply new.held × (new.sound ≡ old.sound)
went letters old new request reply (steps run step base yet sound counted) by = (step, sound)
went letters old new request reply (stays e run is undone other same counted) by = absurd (not_by_rule request reply e is (outside old new request e undone) by)
went letters old new request reply (fails e run is fault unread same base counted) by = absurd (not_by_rule request reply e is (outside old new request e (inl fault)) by)
went letters old new request reply (refuses run other is same) by = absurd (not_by_rule request reply _ is refl by)
went letters old new request reply (rolls back goes) by = absurd (not_back request reply back by)

-- ---- one answer

unsound_once : (letters : CaseTable) (P Q R : PackageContent) (request : Request) (r s : Reply) (b : Bool) → is_changing request ≡ b
    → StepAs false letters P request r Q → StepAs false letters P request s R → (Q ≡ R) × (r ≡ s)
unsound_once letters P Q R request r s true is h k = let one = rw is at h in let two = rw is at k in (one.0 ∙ sym two.0, one.1 ∙ sym two.1)
unsound_once letters P Q R request r s false is h k = let one = rw is at h in let two = rw is at k in step_once P Q R r s letters request one two

as_once : (letters : CaseTable) (P Q R : PackageContent) (request : Request) (r s : Reply) (sound : Bool) → StepAs sound letters P request r Q → StepAs sound letters P request s R → (Q ≡ R) × (r ≡ s)
as_once letters P Q R request r s true h k = step_once P Q R r s letters request h k
as_once letters P Q R request r s false h k = unsound_once letters P Q R request r s (is_changing request) refl h k

pub runs_once : (letters : CaseTable) (a b c d : SessionState) (requests : List Request) (rs ss : List Reply) (ms ns : List BegunCommit) → a.held ≡ b.held → a.sound ≡ b.sound
    → SessionRuns letters a requests rs ms c → SessionRuns letters b requests ss ns d → AreByRule requests rs → AreByRule requests ss → (rs ≡ ss) × (c.held ≡ d.held)
runs_once letters a b c d [] [] [] ms ns held sound one two by too = (refl, ap (λ (x : SessionState). x.held) one.1 ∙ held ∙ sym (ap (λ (x : SessionState). x.held) two.1))
runs_once letters a b c d (q ∷ qs) (r ∷ rs) (s ∷ ss) ms ns held sound one two by too =
    let first = went letters a one.0 q r one.2 by.0 in
    let second = went letters b two.0 q s two.2 too.0 in
    let alike : StepAs a.sound letters a.held q s two.0.held = rw (sound, held) second.0 in
    let same = as_once letters a.held one.0.held two.0.held q r s a.sound first.0 alike in
    let rest = runs_once letters one.0 two.0 c d qs rs ss one.1 two.1 same.0 (first.1 ∙ sound ∙ sym second.1) one.3 two.3 by.1 too.1 in
    (ap₂ (λ x xs. x ∷ xs) same.1 rest.0, rest.1)
runs_once letters a b c d [] (r ∷ rs) ss ms ns held sound one two by too = absurd one
runs_once letters a b c d [] [] (s ∷ ss) ms ns held sound one two by too = absurd two
runs_once letters a b c d (q ∷ qs) [] ss ms ns held sound one two by too = absurd one
runs_once letters a b c d (q ∷ qs) (r ∷ rs) [] ms ns held sound one two by too = absurd two

-- ---- storages

module _ (P Q : PackageContent) where
  rows_keep : (name : List ℕ) (r : Result Change Error) (answer : Result (Unit {0}) Error) (Arranged : Change → List Row → Type 0)
      → EndsRefusedOrBy r P Q answer (λ x. (stored : List Row) × Arranged x stored × PackagePuts P name x stored Q) → Q.storages ≡ P.storages
  rows_keep name (Ok x) answer Arranged h = ap (λ (p : PackageContent). p.storages) h.1.2
  rows_keep name (Err e) answer Arranged h = ap (λ (p : PackageContent). p.storages) h.0

  tables_keep : {A : Type 0} (r : Result A Error) (answer : Result (Unit {0}) Error) (One Two Three : A → List Row → Type 0) (F : A → List Row → List Row → List Row → PackageContent)
      → EndsRefusedOrBy r P Q answer (λ x. (c : List Row) × (t : List Row) × (v : List Row) × One x c × Two x t × Three x v × (Q ≡ F x c t v))
      → ((x : A) (c t v : List Row) → (F x c t v).storages ≡ P.storages) → Q.storages ≡ P.storages
  tables_keep (Ok x) answer One Two Three F h same = ap (λ (p : PackageContent). p.storages) h.1.6 ∙ same x h.1.0 h.1.1 h.1.2
  tables_keep (Err e) answer One Two Three F h same = ap (λ (p : PackageContent). p.storages) h.0

  reads_keep : (read : Result Reply Error) (r : Reply) → Reads read P Q r → Q.storages ≡ P.storages
  reads_keep (Ok answer) r h = ap (λ (p : PackageContent). p.storages) h.0
  reads_keep (Err e) r h = ap (λ (p : PackageContent). p.storages) h.0

  -- those of what a call makes, or of the package that it leaves
  abbrev storages_or : Result PackageContent Error → List Object
  storages_or (Ok R) = R.storages
  storages_or (Err e) = P.storages

  bind_keeps : {A : Type 0} (m : Result A Error) (f : A → Result PackageContent Error) → ((x : A) → storages_or (f x) ≡ P.storages) → storages_or (m >>= f) ≡ P.storages
  bind_keeps (Ok x) f each = each x
  bind_keeps (Err e) f each = refl

  becomes_keep : (next : Result PackageContent Error) (r : Reply) → storages_or next ≡ P.storages → PackageBecomes next P Q r → Q.storages ≡ P.storages
  becomes_keep (Ok R) r keeps h = ap (λ (p : PackageContent). p.storages) h.0 ∙ keeps
  becomes_keep (Err e) r keeps h = ap (λ (p : PackageContent). p.storages) h.0

step_keeps : (letters : CaseTable) (P Q : PackageContent) (request : Request) (r : Reply) → PackageStep letters P request r Q → Q.storages ≡ P.storages
step_keeps letters P Q (command.create_table name columns) r h =
    tables_keep P Q (created (is_none (at_name letters P.storages (stream_name name))) P name columns) h.0
    (λ x c. IsStoredByKeys x.1 columns_columns x.0.0 c) (λ x t. IsStoredByKeys x.1 tables_columns x.0.1 t) (λ x v. IsStoredByKeys x.1 (own_columns P) x.0.2 v)
    (λ x c t v. record P { pool = x.1; tables = rows_put columns_name c (rows_put tables_name t (rows_put validation_name v (table_put (new_table name columns) P.tables))) })
    h.1 (λ x c t v. refl)
step_keeps letters P Q (command.drop_table name) r h =
    tables_keep P Q (dropped P name) h.0
    (λ x c. IsStored columns_columns (rows_beside P columns_name name) c) (λ x t. IsStored tables_columns (rows_beside P tables_name name) t) (λ x v. IsStored (own_columns P) (rows_beside P validation_name name) v)
    (λ x c t v. record P { pool = x.1; tables = rows_put columns_name c (rows_put tables_name t (rows_put validation_name v (filter (λ u. not (bytes_eq u.name name)) P.tables))) })
    h.1 (λ x c t v. refl)
step_keeps letters P Q (command.insert name new_rows) r h =
    rows_keep P Q name (change P name (λ t. inserted (may_insert name) P.pool t new_rows)) h.0 (λ x stored. IsStoredByKeys x.pool x.table.columns x.rows stored) h.1
step_keeps letters P Q (command.update name sets condition) r h =
    rows_keep P Q name (change P name (λ t. updated (may_update name t.columns sets) P.pool t sets condition)) h.0 (λ x stored. IsStored x.table.columns x.rows stored) h.1
step_keeps letters P Q (command.delete name condition) r h =
    rows_keep P Q name (change P name (λ t. deleted (may_insert name) P.pool t condition)) h.0 (λ x stored. IsStored x.table.columns x.rows stored) h.1
step_keeps letters P Q (command.select asked) r h = reads_keep P Q (selected_in P asked >>= λ x. Ok (told.rows x.0 x.1)) r h
step_keeps letters P Q (command.columns name) r h = reads_keep P Q (found_table P name >>= λ t. Ok (told.columns t.columns)) r h
step_keeps letters P Q (command.read_stream name) r h = reads_keep P Q (stream_read letters P name >>= λ b. Ok (told.bytes b)) r h
step_keeps letters P Q (command.write_stream name content) r h =
    becomes_keep P Q (stream_written letters P name content) r
    (bind_keeps P Q (may_name letters name) _ (λ _. bind_keeps P Q (unless_not (is_none (at_name letters P.storages (plain_stream_name name))) AlreadyExists) _ (λ _. refl))) h
step_keeps letters P Q (command.remove_stream name) r h = becomes_keep P Q (stream_removed letters P name) r (bind_keeps P Q (stream_read letters P name) _ (λ _. refl)) h
step_keeps letters P Q command.tables r h = ap (λ (p : PackageContent). p.storages) h.0
step_keeps letters P Q command.streams r h = ap (λ (p : PackageContent). p.storages) h.0
step_keeps letters P Q command.has_signature r h = ap (λ (p : PackageContent). p.storages) h.0
step_keeps letters P Q command.remove_signature r h = ap (λ (p : PackageContent). p.storages) h.0
step_keeps letters P Q command.summary r h = ap (λ (p : PackageContent). p.storages) h.0
step_keeps letters P Q (command.set_summary edit) r h = ap (λ (p : PackageContent). p.storages) h.0
step_keeps letters P Q command.codepage r h = ap (λ (p : PackageContent). p.storages) h.0
step_keeps letters P Q (command.set_codepage page) r h = ap (λ (p : PackageContent). p.storages) h.0
step_keeps letters P Q command.flush r h = ap (λ (p : PackageContent). p.storages) h.0
step_keeps letters P Q command.commit r h = ap (λ (p : PackageContent). p.storages) h.0
step_keeps letters P Q command.roll_back r h = absurd h

keeps_unsound : (letters : CaseTable) (P Q : PackageContent) (request : Request) (r : Reply) (b : Bool) → is_changing request ≡ b → StepAs false letters P request r Q → Q.storages ≡ P.storages
keeps_unsound letters P Q request r true is h = let one = rw is at h in ap (λ (p : PackageContent). p.storages) one.0
keeps_unsound letters P Q request r false is h = let one = rw is at h in step_keeps letters P Q request r one

keeps_as : (letters : CaseTable) (P Q : PackageContent) (request : Request) (r : Reply) (sound : Bool) → StepAs sound letters P request r Q → Q.storages ≡ P.storages
keeps_as letters P Q request r true h = step_keeps letters P Q request r h
keeps_as letters P Q request r false h = keeps_unsound letters P Q request r (is_changing request) refl h

goes_keep : (letters : CaseTable) (old new : SessionState) (request : Request) (r : Reply) → is_roll_back request ≡ false → CommandStep letters old request r new → new.held.storages ≡ old.held.storages
goes_keep letters old new request r other (steps run step base yet sound counted) = keeps_as letters old.held new.held request r old.sound step
goes_keep letters old new request r other (stays e run is undone page same counted) = ap (λ (c : SessionState). c.held.storages) same
goes_keep letters old new request r other (fails e run is undone unread same base counted) = ap (λ (c : SessionState). c.held.storages) same
goes_keep letters old new request r other (refuses run unrolled is same) = ap (λ (c : SessionState). c.held.storages) same
goes_keep letters old new request r other (rolls back goes) = absurd (both_ways (is_roll_back request) other back)

pub runs_keep : (letters : CaseTable) (start end : SessionState) (requests : List Request) (replies : List Reply) (marks : List BegunCommit) → GoOn requests → SessionRuns letters start requests replies marks end → end.held.storages ≡ start.held.storages
runs_keep letters start end [] [] marks on runs = ap (λ (c : SessionState). c.held.storages) runs.1
runs_keep letters start end (q ∷ qs) (r ∷ rs) marks on runs = runs_keep letters runs.0 end qs rs runs.1 on.1 runs.3 ∙ goes_keep letters start runs.0 q r on.0 runs.2
runs_keep letters start end [] (r ∷ rs) marks on runs = absurd runs
runs_keep letters start end (q ∷ qs) [] marks on runs = absurd runs

-- ---- roll backs

back_keeps : (old new : SessionState) (r : Reply) → IsBasedOn old.held.storages old → SessionRollsBack old r new → new.held.storages ≡ old.held.storages
back_keeps old new r on (led sound is some held stored same counted) = let b = base_of old.base some in stored b.0 b.1 ∙ on sound b.0 b.1
back_keeps old new r on (unchanged sound run is same counted) = ap (λ (c : SessionState). c.held.storages) same
back_keeps old new r on (baseless sound none run is same counted) = ap (λ (c : SessionState). c.held.storages) same
back_keeps old new r on (over none run is same) = ap (λ (c : SessionState). c.held.storages) same
back_keeps old new r on (broken e sound some is fit same counted) = ⊎_elim (λ one. ap (λ (c : SessionState). c.held.storages) one) (λ one. ap (λ (c : SessionState). c.held.storages) one) same

back_based : (old new : SessionState) (r : Reply) → SessionRollsBack old r new → (new.base ≡ old.base) × (new.sound ≡ old.sound)
back_based old new r (led sound is some held stored same counted) = (ap (λ (c : SessionState). c.base) same, ap (λ (c : SessionState). c.sound) same)
back_based old new r (unchanged sound run is same counted) = (ap (λ (c : SessionState). c.base) same, ap (λ (c : SessionState). c.sound) same)
back_based old new r (baseless sound none run is same counted) = (ap (λ (c : SessionState). c.base) same, ap (λ (c : SessionState). c.sound) same)
back_based old new r (over none run is same) = (ap (λ (c : SessionState). c.base) same, ap (λ (c : SessionState). c.sound) same)
back_based old new r (broken e sound some is fit same counted) = ⊎_elim
    (λ one. (ap (λ (c : SessionState). c.base) one, ap (λ (c : SessionState). c.sound) one)) (λ one. (ap (λ (c : SessionState). c.base) one, ap (λ (c : SessionState). c.sound) one)) same

-- the base of a course after a request is that of before, or what was committed
after_based : (old : SessionState) (q : Request) (r : Reply) (B : PackageContent) → base_after old q r ≡ Some B → (old.base ≡ Some B) ⊎ (B.storages ≡ old.held.storages)
after_based old command.commit told.done B is =
    let same : old.held ≡ B = Some_same is in
    inr (ap (λ (p : PackageContent). p.storages) (sym same))
after_based old q r B is = inl is

undone_based : (old new : SessionState) (q : Request) (e : Error) → KeepsBase old q e new → (B : PackageContent) → new.base ≡ Some B → {Holds : Type 0} → (old.base ≡ Some B → Holds) → Holds
undone_based old new q e (inl kept) B b each = each (sym kept ∙ b)
undone_based old new q e (inr cut) B b each = let never : None ≡ Some B = sym cut.2 ∙ b in absurd (cc never)

goes_based : (letters : CaseTable) (old new : SessionState) (q : Request) (r : Reply) → IsBasedOn old.held.storages old → CommandStep letters old q r new → IsBasedOn old.held.storages new
goes_based letters old new q r on (steps run step base yet sound counted) = λ is B b. ⊎_elim
    (λ before. on (sym sound ∙ is) B before) (λ now. now) (after_based old q r B (sym base ∙ b))
goes_based letters old new q r on (stays e run is undone page same counted) = λ s B b. on (sym (ap (λ (c : SessionState). c.sound) same) ∙ s) B (sym (ap (λ (c : SessionState). c.base) same) ∙ b)
goes_based letters old new q r on (fails e run is undone unread same base counted) = λ s B b. undone_based old new q e base B b (on (sym (ap (λ (c : SessionState). c.sound) same) ∙ s) B)
goes_based letters old new q r on (refuses run unrolled is same) = λ s B b. on (sym (ap (λ (c : SessionState). c.sound) same) ∙ s) B (sym (ap (λ (c : SessionState). c.base) same) ∙ b)
goes_based letters old new q r on (rolls back goes) = let both = back_based old new r goes in λ s B b. on (sym both.1 ∙ s) B (sym both.0 ∙ b)

goes_storing : (letters : CaseTable) (old new : SessionState) (q : Request) (r : Reply) → IsBasedOn old.held.storages old → CommandStep letters old q r new → new.held.storages ≡ old.held.storages
goes_storing letters old new q r on goes = by (is_roll_back q) refl goes
  where
    by : (b : Bool) → is_roll_back q ≡ b → CommandStep letters old q r new → new.held.storages ≡ old.held.storages
    by false is goes = goes_keep letters old new q r is goes
    by true is (rolls back goes) = back_keeps old new r on goes
    by true is (steps run step base yet sound counted) = keeps_as letters old.held new.held q r old.sound step
    by true is (stays e run told undone page same counted) = ap (λ (c : SessionState). c.held.storages) same
    by true is (fails e run told undone unread same base counted) = ap (λ (c : SessionState). c.held.storages) same
    by true is (refuses run unrolled told same) = ap (λ (c : SessionState). c.held.storages) same

pub runs_storing : (letters : CaseTable) (start end : SessionState) (requests : List Request) (replies : List Reply) (marks : List BegunCommit) → IsBasedOn start.held.storages start
    → SessionRuns letters start requests replies marks end → end.held.storages ≡ start.held.storages
runs_storing letters start end [] [] marks on runs = ap (λ (c : SessionState). c.held.storages) runs.1
runs_storing letters start end (q ∷ qs) (r ∷ rs) marks on runs =
    let same = goes_storing letters start runs.0 q r on runs.2 in
    let next = subst (λ s. IsBasedOn s runs.0) (sym same) (goes_based letters start runs.0 q r on runs.2) in
    runs_storing letters runs.0 end qs rs runs.1 next runs.3 ∙ same
runs_storing letters start end [] (r ∷ rs) marks on runs = absurd runs
runs_storing letters start end (q ∷ qs) [] marks on runs = absurd runs
