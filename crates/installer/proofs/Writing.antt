-- How a flush goes, and what of a commit is alike.
use Rattle.std.proofs.Common.{◌≡◌, ◌∙◌, Bool, ap, false, inl, inr, refl, subst, sym, true, ⊎_elim}
use Rattle.std.specs.Prelude.{Err, IfErr, Ok, Result}
use Rattle.cfb.specs.Publishing.{medium_in}
use Rattle.cfb.specs.Views.{file_case_table, mini_of}
use Rattle.cfb_fat.specs.Tables.{version_of, IsJustifiedBySectors}
use Rattle.cfb_medium.specs.Versions.{stream_len_mask}
use Rattle.cfb_medium.specs.declared.error.Error.{Error}
use Rattle.cfb_medium.specs.declared.medium.ReadMedium.{Ghosts}
use Rattle.cfb_medium.specs.declared.version.Version.{Version}
use Rattle.cfb_mini.specs.Views.{allocator_of}
use Rattle.cfb_tree.specs.Names.{CaseTable}
use Rattle.command_file.specs.Request.{Request}
use Rattle.command_file.specs.Request as asked
use Rattle.msi.specs.Changing.{failed_in, KeepsHeld, PackageWrites}
use Rattle.msi.specs.Opened.{file_in, pool_in, summary_in, PackageHasContent}
use Rattle.msi.specs.declared.package.Package.{Package}
use Rattle.msi_spec.specs.Package.{PackageContent}
use Rattle.msi_streams.specs.Parts.{IsTooLong}
use Rattle.installer.proofs.Going.{by_sound, faulted, goes_lost, goes_told, Leads, Moves}
use Rattle.installer.specs.SessionStates.{SessionState, IsTooMuch, StepAs}
use Rattle.installer.specs.Reply as told
use Rattle.installer.specs.Sessions.{phase_of, IsAt}
use Rattle.installer.specs.Step.{told_of}

-- both leave the package
pub step_flush : (letters : CaseTable) (sound : Bool) (P : PackageContent) → StepAs sound letters P asked.flush told.done P
step_flush letters true P = (refl, refl)
step_flush letters false P = (refl, refl)

pub step_commit : (letters : CaseTable) (sound : Bool) (P : PackageContent) → StepAs sound letters P asked.commit told.done P
step_commit letters true P = (refl, refl)
step_commit letters false P = (refl, refl)

pub not_err : {e : Error} → ◌≡◌ {A = Result (Unit {0}) Error} (Err e) (Ok tt) → ⊥
not_err is = cc

module _ {F : Type 0} {g : Ghosts F} (refl_continues : (m : F) → g.continues m m) (old new : Package F g) (start : SessionState) (at : IsAt old start) (live : failed_in old ≡ false) where
  abbrev holds : PackageHasContent old start.held
  holds = at.held (at.phase ∙ ap phase_of live)

  -- what is too long for the file is too much
  pub too_long : (request : Request) → (((v : Version) × IsTooLong (stream_len_mask v) start.held.pool start.held.summary) → IsTooMuch start.held request)
      → IsTooLong (stream_len_mask (version_of (allocator_of (mini_of (file_in old))))) (pool_in old).pool (summary_in old).props → IsTooMuch start.held request
  too_long request much long = much (
    version_of (allocator_of (mini_of (file_in old))),
    subst (λ s. IsTooLong (stream_len_mask (version_of (allocator_of (mini_of (file_in old))))) start.held.pool s) holds.memory.summary
        (subst (λ p. IsTooLong (stream_len_mask (version_of (allocator_of (mini_of (file_in old))))) p (summary_in old).props) holds.memory.pool long),
  )

  -- nothing was touched
  pub untouched : new ≡ old → KeepsHeld old new
  untouched same = record { holds = λ P h. subst (λ it. PackageHasContent it P) (sym same) h }

  pub goes_writes : (result : Result (Unit {0}) Error) → Moves old new → PackageWrites result old new → IfErr result (IsJustifiedBySectors (allocator_of (mini_of (file_in old))) (allocator_of (mini_of (file_in new))))
      → Leads new (file_case_table (file_in old)) start asked.flush (told_of result)
  goes_writes (Ok u) moves writes cause = goes_told refl_continues old new start at live moves asked.flush told.done refl
      (⊎_elim (λ sound. record { holds = λ P h. writes.holds P h (sym at.sound ∙ sound) }) (λ unsound. untouched (writes.unsound live (sym at.sound ∙ unsound)).1) (by_sound start.sound))
      (step_flush (file_case_table (file_in old)) start.sound start.held)
  goes_writes (Err e) moves writes cause = ⊎_elim
      (λ sound. ⊎_elim (λ fault. faulted refl_continues old new start at live moves asked.flush e refl (λ _. refl) cause fault writes.rests)
      (λ long. goes_lost refl_continues old new start at live moves asked.flush e long.2 refl (inr (long.0, too_long asked.flush (λ is. is) long.1))) (writes.refused start.held holds (sym at.sound ∙ sound)))
      (λ unsound. absurd (not_err (writes.unsound live (sym at.sound ∙ unsound)).0)) (by_sound start.sound)
