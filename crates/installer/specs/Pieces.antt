-- A stream that gets the bytes of a source in a session.
use Rattle.std.specs.Prelude.{◌≡◌, IsTrue, List, ℕ}
use Rattle.cfb_medium.specs.declared.medium.ReadMedium.{Ghosts}
use Rattle.command_file.specs.Request as asked
use Rattle.staged.specs.declared.device.Device as device
use Rattle.staged.specs.declared.staged.Staged.{Staged}
use Rattle.installer.specs.CommandRuns.{RunsCommand, RunsWithoutPublishing}
use Rattle.installer.specs.Reply as told
use Rattle.installer.specs.declared.session.SessionOver.{SessionOver}

module _ {S : Type 0} (k : Ghosts S) (source : S) (name : List ℕ) where
  -- so much as the next says of one over any medium (a step of private functions)
  pub record PutsQuietly {F : Type 0} {g : Ghosts F} (old new : SessionOver F g) : Type 0 where
    pub content : List ℕ
    pub whole : IsTrue (k.honest source) → content ≡ k.bytes source
    pub runs : RunsWithoutPublishing (asked.write_stream name content) told.done old new

  -- THE STREAM OF THIS NAME WAS PUT, as the command does that has all bytes of an honest source, or some bytes of another
  pub record RunsPut {D : Type 0} {g : device.Ghosts D} {h : Ghosts (Staged D g)} (old new : SessionOver (Staged D g) h) : Type 0 where
    pub content : List ℕ
    pub whole : IsTrue (k.honest source) → content ≡ k.bytes source
    pub follows : RunsCommand (asked.write_stream name content) told.done old new
