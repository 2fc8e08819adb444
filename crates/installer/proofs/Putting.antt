-- A stream that gets the bytes of a source in a session.
use Rattle.std.proofs.Common.{◌≡◌, Bool, true, false, refl}
use Rattle.std.specs.Prelude.{Ok, OnOk, Err, Result}
use Rattle.cfb.specs.Views.{mini_of}
use Rattle.cfb_chain_io.specs.ChainEffects.{KeepsFileInvariants}
use Rattle.cfb_fat.specs.Tables.{version_of}
use Rattle.cfb_medium.specs.Calls.{KeepsMediumState}
use Rattle.cfb_medium.specs.declared.error.Error.{Error}
use Rattle.cfb_medium.specs.declared.medium.ReadMedium.{Ghosts}
use Rattle.cfb_mini.specs.Views.{allocator_of}
use Rattle.command_file.specs.Request as asked
use Rattle.installer.proofs.Answering.{answers_changes}
use Rattle.installer.proofs.Streams.{written_so}
use Rattle.installer.specs.Pieces.{PutsQuietly}
use Rattle.installer.specs.Reply as told
use Rattle.installer.specs.Sessions.{has_base, is_failed, package_in, session_case_table}
use Rattle.installer.specs.declared.session.SessionOver.{SessionOver}
use Rattle.msi.specs.Changing.{failed_in}
use Rattle.msi.specs.Opened.{file_in}
use Rattle.msi.specs.Pieces.{PutsFrom}
use Rattle.msi_streams.specs.Writing.{most_bytes, written_within, AppliesPackageRule}
use Rattle.std.specs.Prelude.{List, ℕ}

module _ {F : Type 0} {g : Ghosts F} (refl_continues : (m : F) → g.continues m m) (continues_keeps : (a b : F) → g.continues a b → KeepsMediumState g.honest g.failed g.failures a b)
    (old new : SessionOver F g) (based : has_base new ≡ has_base old) {S : Type 0} (k : Ghosts S) (source : S) (name : List ℕ) where
  -- a stream that was put is put by the command
  pub put_quietly : (result : Result (Unit {0}) Error) → PutsFrom k source name result (package_in old) (package_in new)
      → KeepsFileInvariants (allocator_of (mini_of (file_in (package_in old)))) (allocator_of (mini_of (file_in (package_in new)))) → OnOk result (PutsQuietly k source name old new)
  put_quietly (Err e) puts on = tt
  put_quietly (Ok x) puts on = record {
    content = puts.content;
    whole = puts.whole;
    runs = answers_changes refl_continues continues_keeps old new (by (failed_in (package_in old)) refl) based
        (AppliesPackageRule (written_within (session_case_table old) (most_bytes (file_in (package_in old))) name puts.content)) (asked.write_stream name puts.content) told.done (Ok x) refl
        (λ P Q answer made. written_so (session_case_table old) (version_of (allocator_of (mini_of (file_in (package_in old))))) name puts.content P Q answer made) puts.changes on tt tt refl;
  }
    where
      by : (b : Bool) → failed_in (package_in old) ≡ b → is_failed old ≡ false
      by false is = is
      by true is = let never = puts.changes.failed is in absurd (cc)
