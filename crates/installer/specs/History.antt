-- What happens to a device: calls of sessions, crashes, and recoveries.
use Rattle.std.specs.Prelude.{◌≡◌, List, [], ◌∷◌, ◌++◌, map, IsTrue}
use Rattle.cfb_tree.specs.Names.{CaseTable}
use Rattle.staged.specs.Files.{Files}
use Rattle.staged.specs.declared.device.Device.{Ghosts}
use Rattle.installer.specs.SessionStates.{BegunCommit}
use Rattle.installer.specs.CrashSurvival.{begun, SurvivesCrash}

module _ (letters : CaseTable) {D : Type 0} (g : Ghosts D) where
  -- a crash in a call that leads from one device to another: after it the device is one that a crash might have left since the call began
  pub record IsLeftBy (old new after : D) : Type 0 where
    pub honest : IsTrue (g.honest after)
    pub left : (files : Files) → g.crash_may_leave after files → g.crash_left_since new (g.moment old) files

  -- A call of a session, or of a recovery, with the commits that it begins. It returns; or a crash comes in it, and the device goes on as
  -- it was left: with one of the pairs that the crash might have left, or, where the program alone has ended, with all of them.
  pub data Event : Type 0 where
    returned : List BegunCommit → D → Event
    stopped : List BegunCommit → D → D → Event

  -- these events in order, with the commits that they begin
  abbrev pub Happen : D → List Event → List BegunCommit → D → Type 0
  Happen d [] marks last = (last ≡ d) × (marks ≡ [])
  Happen d (returned own next ∷ events) marks last = (later : List BegunCommit) × SurvivesCrash letters g d next own × Happen next events later last × (marks ≡ own ++ later)
  Happen d (stopped own next after ∷ events) marks last =
      (later : List BegunCommit) × SurvivesCrash letters g d next own × IsLeftBy d next after × Happen after events later last × (marks ≡ map begun own ++ later)
