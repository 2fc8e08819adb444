-- A stream that was put on a device.
use Rattle.std.proofs.Common.{◌≡◌, ◌∙◌, ◌⊎◌, ℕ, Bool, List, [], Ok, Err, Result, Some, false, true, ap, refl, subst, sym, ⊎_elim}
use Rattle.std.specs.Prelude.{All, IsTrue, OnOk}
use Rattle.cfb_medium.specs.declared.error.Error.{Error}
use Rattle.cfb_medium.specs.declared.error.Error.TheVariants.{Failed}
use Rattle.cfb_medium.specs.declared.medium.ReadMedium as medium
use Rattle.cfb_tree.specs.Names.{CaseTable}
use Rattle.command_file.specs.Request as asked
use Rattle.installer.proofs.Following.{marks_other}
use Rattle.installer.proofs.Stopping.{survives_then}
use Rattle.installer.specs.CrashSurvival.{IsRecovered, SurvivesCrash}
use Rattle.installer.specs.Pieces.{RunsPut}
use Rattle.installer.specs.Reply.{Reply}
use Rattle.installer.specs.Reply as told
use Rattle.installer.specs.SessionStates.{fails, failed, marks_as, refuses, rolls, running, stays, steps, SessionState, CommandStep, BegunCommit, Phase, StepAs}
use Rattle.installer.specs.Sessions.{beginning, device_below, is_failed, is_sound, session_case_table, package_in, phase_of, SessionIsAt}
use Rattle.installer.specs.Step.{told_of, PackageBecomes}
use Rattle.installer.specs.declared.session.SessionOver.{SessionOver}
use Rattle.installer_runs.proofs.Copied.{no_mark, one_mark}
use Rattle.installer_runs.specs.Making.{CommitsLast}
use Rattle.installer_runs.specs.Putting.{IsPut, PutsLast, PutsOn, PutSurvivesCrash}
use Rattle.msi.specs.Opened.{PackageHasContent}
use Rattle.msi_spec.specs.Package.{PackageContent}
use Rattle.msi_spec.specs.Streams.{stream_written}
use Rattle.staged.specs.Committed.{HasPublished}
use Rattle.staged.specs.declared.device.Device.{Ghosts}
use Rattle.staged.specs.declared.staged.Staged.{Staged}

became : (made : Result PackageContent Error) (P Q : PackageContent) → PackageBecomes made P Q told.done → made ≡ Ok Q
became (Ok R) P Q is = ap (λ (X : PackageContent). Ok X) (sym is.0)
became (Err e) P Q is = let never : told.done ≡ told.refused e = is.1 in absurd (cc)

-- a stream that was put by the rule, where the session goes on
put_steps : (letters : CaseTable) (start end : SessionState) (name content : List ℕ) → start.sound ≡ true → CommandStep letters start (asked.write_stream name content) told.done end
    → (stream_written letters start.held name content ≡ Ok end.held) × (end.phase ≡ running)
put_steps letters start end name content sound (steps was step base yet same counted) =
    (became (stream_written letters start.held name content) start.held end.held (subst (λ (b : Bool). StepAs b letters start.held (asked.write_stream name content) told.done end.held) sound step), yet)
put_steps letters start end name content sound (stays e was is undone page same counted) = (let never : told.done ≡ told.refused e = is in absurd (cc))
put_steps letters start end name content sound (fails e was is fault read same base counted) = (let never : told.done ≡ told.refused e = is in absurd (cc))
put_steps letters start end name content sound (refuses was own is same) = (let never : told.done ≡ told.refused Failed = is in absurd (cc))
put_steps letters start end name content sound (rolls back goes) = absurd (cc back)

-- the commit that is begun is of this package
commit_marks : (Of : PackageContent → Type 0) (Q : PackageContent) → Of Q → (b : Bool) (reply : Reply) (left : Phase) → All (λ (m : BegunCommit). Of m.held) (marks_as b Q asked.commit reply left)
commit_marks Of Q is false reply left = no_mark (λ m. Of m.held)
commit_marks Of Q is true told.done left = one_mark (record { held = Q; done = true }) (λ m. Of m.held) is
commit_marks Of Q is true (told.refused Failed) left = no_mark (λ m. Of m.held)
commit_marks Of Q is true reply running = no_mark (λ m. Of m.held)
commit_marks Of Q is true reply failed = one_mark (record { held = Q; done = false }) (λ m. Of m.held) is

module _ {D : Type 0} {g : Ghosts D} {h : medium.Ghosts (Staged D g)} (letters : CaseTable) (it : SessionOver (Staged D g) h) (compared : session_case_table it ≡ letters) {S : Type 0} (k : medium.Ghosts S) (source : S) (name : List ℕ) where
  module _ (P : PackageContent) (sound : is_sound it ≡ true) (at : SessionIsAt it (beginning it (Some P) P)) where
    -- where the stream was put the session has the package with it
    pub record HasPut (mid : SessionOver (Staged D g) h) : Type 0 where
      pub end : SessionState
      pub is_put : IsPut letters k source name P end.held
      pub there : SessionIsAt mid end
      pub runs : end.phase ≡ running

    pub has_put : (mid : SessionOver (Staged D g) h) → RunsPut k source name it mid → HasPut mid
    has_put mid put =
        let went = put.follows.goes (beginning it (Some P) P) at in
        let both = put_steps (session_case_table it) (beginning it (Some P) P) went.0 name put.content sound went.1 in
        record {
          end = went.0;
          is_put = record { content = put.content; whole = put.whole; made = subst (λ (l : CaseTable). stream_written l P name put.content ≡ Ok went.0.held) compared both.0 };
          there = went.2;
          runs = both.1;
        }

    module _ (old new : D) (result : Result (Unit {0}) Error) (leads : PutsLast k source name result it new) where
      pub puts_on : OnOk result (PutsOn letters k source name P g new)
      puts_on = ⊎_elim (λ both. done both.0 both.1) (λ refused. subst (λ (r : Result (Unit {0}) Error). OnOk r (PutsOn letters k source name P g new)) (sym refused.1) tt) leads.either
        where
          done : RunsPut k source name it leads.mid → CommitsLast result leads.mid new → OnOk result (PutsOn letters k source name P g new)
          done put commits = on result commits.published
            where
              own_put : HasPut leads.mid
              own_put = has_put leads.mid put

              on : (r : Result (Unit {0}) Error) → OnOk r ((Q : PackageContent) → PackageHasContent (package_in leads.mid) Q → IsTrue (is_sound leads.mid) → (bytes : List ℕ) × HasPublished g (device_below commits.last) bytes × IsRecovered (session_case_table leads.mid) bytes Q)
                  → OnOk r (PutsOn letters k source name P g new)
              on (Err e) published = tt
              on (Ok u) published =
                  let own = published own_put.end.held (own_put.there.place.held own_put.runs) (put.follows.sound ∙ sound) in record {
                    held = own_put.end.held;
                    is_put = own_put.is_put;
                    bytes = own.0;
                    published = subst (λ (d : D). HasPublished g d own.0) (sym commits.given) own.1;
                    found = subst (λ (l : CaseTable). IsRecovered l own.0 own_put.end.held) (put.follows.letters ∙ compared) own.2;
                  }

      -- what a crash leaves of it
      pub puts_survive : SurvivesCrash letters g old (device_below it) [] → PutSurvivesCrash letters k source name P g old new
      puts_survive begun = ⊎_elim (λ both. done both.0 both.1) (λ refused. none refused.3 refused.4) leads.either
        where
          none : SurvivesCrash (session_case_table it) g (device_below it) (device_below leads.mid) [] → new ≡ device_below leads.mid → PutSurvivesCrash letters k source name P g old new
          none survives given =
              let own : SurvivesCrash letters g (device_below it) (device_below leads.mid) [] = subst (λ (l : CaseTable). SurvivesCrash l g (device_below it) (device_below leads.mid) []) compared survives in
              let there : SurvivesCrash letters g (device_below it) new [] = subst (λ (d : D). SurvivesCrash letters g (device_below it) d []) (sym given) own in
              ([], no_mark (λ m. IsPut letters k source name P m.held), survives_then letters g old (device_below it) new [] [] begun there)

          done : RunsPut k source name it leads.mid → CommitsLast result leads.mid new → PutSurvivesCrash letters k source name P g old new
          done put commits =
              let own_put = has_put leads.mid put in
              let end = own_put.end in
              let left = phase_of (is_failed commits.last) in
              let marks = marks_as end.sound end.held asked.commit (told_of result) left in
              let quiet : SurvivesCrash (session_case_table it) g (device_below it) (device_below leads.mid) [] = subst (λ (ms : List BegunCommit). SurvivesCrash (session_case_table it) g (device_below it) (device_below leads.mid) ms)
              (marks_other (is_sound it) P (asked.write_stream name put.content) told.done (phase_of (is_failed leads.mid)) refl) (put.follows.survives (beginning it (Some P) P) at) in
              let first : SurvivesCrash letters g (device_below it) (device_below leads.mid) [] = subst (λ (l : CaseTable). SurvivesCrash l g (device_below it) (device_below leads.mid) []) compared quiet in
              let own : SurvivesCrash letters g (device_below leads.mid) (device_below commits.last) marks =
              subst (λ (l : CaseTable). SurvivesCrash l g (device_below leads.mid) (device_below commits.last) marks) (put.follows.letters ∙ compared) (commits.follows.survives end own_put.there) in
              let then : SurvivesCrash letters g (device_below leads.mid) new marks = subst (λ (d : D). SurvivesCrash letters g (device_below leads.mid) d marks) (sym commits.given) own in (
                marks,
                commit_marks (IsPut letters k source name P) end.held own_put.is_put end.sound (told_of result) left,
                survives_then letters g old (device_below it) new [] marks begun (survives_then letters g (device_below it) (device_below leads.mid) new [] marks first then),
              )

      -- one that a rule refuses changes nothing
      pub never_put : IsTrue (k.honest source) → (e : Error) → stream_written letters P name (k.bytes source) ≡ Err e → SurvivesCrash letters g old (device_below it) [] → SurvivesCrash letters g old new []
      never_put honest e refused begun = ⊎_elim (λ both. absurd (never (has_put leads.mid both.0).is_put)) (λ not. none not.3 not.4) leads.either
        where
          never : {Q : PackageContent} → IsPut letters k source name P Q → ⊥
          never {Q} put =
              let made : stream_written letters P name (k.bytes source) ≡ Ok Q = subst (λ (bytes : List ℕ). stream_written letters P name bytes ≡ Ok Q) (put.whole honest) put.made in
              let both : Err e ≡ Ok Q = sym refused ∙ made in cc

          none : SurvivesCrash (session_case_table it) g (device_below it) (device_below leads.mid) [] → new ≡ device_below leads.mid → SurvivesCrash letters g old new []
          none survives given =
              let own : SurvivesCrash letters g (device_below it) (device_below leads.mid) [] = subst (λ (l : CaseTable). SurvivesCrash l g (device_below it) (device_below leads.mid) []) compared survives in
              let there : SurvivesCrash letters g (device_below it) new [] = subst (λ (d : D). SurvivesCrash letters g (device_below it) d []) (sym given) own in
              survives_then letters g old (device_below it) new [] [] begun there

  -- nor does any, where the package isn't sound
  pub unsound_put : (old new : D) (result : Result (Unit {0}) Error) → PutsLast k source name result it new → is_sound it ≡ false → SurvivesCrash letters g old (device_below it) [] → SurvivesCrash letters g old new []
  unsound_put old new result leads unsound begun = ⊎_elim (λ both. done both.0 both.1) (λ refused. none refused.3 refused.4) leads.either
    where
      none : SurvivesCrash (session_case_table it) g (device_below it) (device_below leads.mid) [] → new ≡ device_below leads.mid → SurvivesCrash letters g old new []
      none survives given =
          let own : SurvivesCrash letters g (device_below it) (device_below leads.mid) [] = subst (λ (l : CaseTable). SurvivesCrash l g (device_below it) (device_below leads.mid) []) compared survives in
          let there : SurvivesCrash letters g (device_below it) new [] = subst (λ (d : D). SurvivesCrash letters g (device_below it) d []) (sym given) own in
          survives_then letters g old (device_below it) new [] [] begun there

      done : RunsPut k source name it leads.mid → CommitsLast result leads.mid new → SurvivesCrash letters g old new []
      done put commits =
          let first : SurvivesCrash letters g (device_below it) (device_below leads.mid) [] = subst (λ (l : CaseTable). SurvivesCrash l g (device_below it) (device_below leads.mid) []) compared (put.follows.still unsound) in
          let own : SurvivesCrash letters g (device_below leads.mid) (device_below commits.last) [] =
          subst (λ (l : CaseTable). SurvivesCrash l g (device_below leads.mid) (device_below commits.last) []) (put.follows.letters ∙ compared) (commits.follows.still (put.follows.sound ∙ unsound)) in
          let then : SurvivesCrash letters g (device_below leads.mid) new [] = subst (λ (d : D). SurvivesCrash letters g (device_below leads.mid) d []) (sym commits.given) own in
          survives_then letters g old (device_below it) new [] [] begun (survives_then letters g (device_below it) (device_below leads.mid) new [] [] first then)
