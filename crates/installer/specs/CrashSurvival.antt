-- What a recovery gives after a call, and after a crash in one.
use Rattle.std.specs.Prelude.{◌≡◌, ◌⊎◌, ◌≤◌, ℕ, false, List, [], ◌∷◌, map, Option, Some, IsTrue}
use Rattle.cfb_medium.specs.Crashes.{CrashLeavesOnly}
use Rattle.cfb_tree.specs.Names.{CaseTable}
use Rattle.msi.specs.Committing.{BytesKeepPackage}
use Rattle.msi_spec.specs.Package.{PackageContent}
use Rattle.staged.specs.Steps.{GivenBy}
use Rattle.staged.specs.declared.device.Device.{Ghosts}
use Rattle.installer.specs.SessionStates.{BegunCommit}

-- what is found of a package that was committed: bytes in a sound container that hold all of it but its texts; and where it can be written as it is,
-- bytes that hold it, sound
abbrev pub IsRecovered : CaseTable → List ℕ → PackageContent → Type 0
IsRecovered letters bytes P = BytesKeepPackage letters bytes P

-- What may be found after these commits where one of the lists might be found before: bytes of a package whose commit was begun, or what
-- might be found before that commit, unless it was answered Ok.
abbrev pub MayBeRecovered : CaseTable → (List ℕ → Type 0) → List BegunCommit → List ℕ → Type 0
MayBeRecovered letters lists [] bytes = lists bytes
MayBeRecovered letters lists (m ∷ marks) bytes = MayBeRecovered letters (λ b. IsRecovered letters b m.held ⊎ ((m.done ≡ false) × lists b)) marks bytes

-- the same commit, as one that was only begun
abbrev pub begun : BegunCommit → BegunCommit
begun m = record m { done = false }

-- a recovery gave one of these lists
abbrev pub IsGiven : (List ℕ → Type 0) → Option (List ℕ) → Type 0
IsGiven lists given = (bytes : List ℕ) × (given ≡ Some bytes) × lists bytes

abbrev pub AllGive : (List ℕ → Type 0) → (Option (List ℕ) → Type 0) → Type 0
AllGive lists outcomes = (given : Option (List ℕ)) → outcomes given → IsGiven lists given

abbrev pub AnyList : List ℕ → Type 0
AnyList bytes = Unit {0}

module _ {D : Type 0} (g : Ghosts D) where
  -- what a recovery would give of what a crash may leave now, or might have left since a moment
  abbrev pub gives : D → Option (List ℕ) → Type 0
  gives d = GivenBy (g.crash_may_leave d)

  abbrev pub given_since : D → ℕ → Option (List ℕ) → Type 0
  given_since d moment = GivenBy (g.crash_left_since d moment)

  abbrev pub listed : D → List ℕ → Type 0
  listed d bytes = gives d (Some bytes)

module _ (letters : CaseTable) {D : Type 0} (g : Ghosts D) where
  -- A call that begins these commits. Where a recovery gives a list of whatever a crash may leave when the call begins, then of whatever
  -- one leaves in the call it gives what might be found before, or a package whose commit the call began; and at the call's return
  -- what the commits that were answered leave of these.
  pub record SurvivesCrash (old new : D) (marks : List BegunCommit) : Type 0 where
    pub honest : g.honest new ≡ g.honest old
    pub counted : g.failures old ≤ g.failures new
    pub any_moment : IsTrue (g.honest old) → AllGive AnyList (gives g old) → CrashLeavesOnly g.moment (given_since g) old new (IsGiven (MayBeRecovered letters (listed g old) (map begun marks)))
    pub at_return : IsTrue (g.honest old) → AllGive AnyList (gives g old) → AllGive (MayBeRecovered letters (listed g old) marks) (gives g new)
