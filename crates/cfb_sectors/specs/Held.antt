-- What a `Sectors` shows: its medium, its sectors, and whether a call failed; and what its calls do.
use Rattle.std.specs.Prelude.{◌≡◌, ℕ, ◌+◌, ◌<◌, ◌≤◌, ◌⊎◌, Bool, false, true, ◌||◌, List, IsTrue, Some}
use Rattle.std.specs.List.{AllByRecursion}
use Rattle.cfb_medium.specs.Bytes.{overwritten}
use Rattle.cfb_medium.specs.Calls.{Reaches, IsJustifiedSince}
use Rattle.cfb_medium.specs.Crashes.{CrashLeavesOnly}
use Rattle.cfb_medium.specs.declared.error.Error.{Error}
use Rattle.cfb_medium.specs.declared.error.Error.TheVariants.{Failed, InvalidData}
use Rattle.cfb_medium.specs.declared.medium.ReadMedium.{Ghosts}
use Rattle.cfb_medium.specs.declared.version.Version.{Version}
use Rattle.cfb_sectors.specs.declared.sectors.Sectors.{Sectors}
use Rattle.cfb_sectors.specs.Sectors.{sector_start}

-- why what was asked for isn't given: a fault before has left a state of failure, or what was asked for isn't there
abbrev pub IsFailedOrNotThere : Bool → Type 0 → Error → Type 0
IsFailedOrNotThere failed there error = ((error ≡ Failed) × (failed ≡ true)) ⊎ ((error ≡ InvalidData) × (failed ≡ false) × (there → ⊥))

module _ {F : Type 0} {g : Ghosts F} where
  abbrev pub medium_of : Sectors F g → F
  medium_of it = it.inner

  abbrev pub bytes_of : Sectors F g → List ℕ
  bytes_of it = g.bytes it.inner

  abbrev pub is_honest : Sectors F g → Bool
  is_honest it = g.honest it.inner

  -- what is said of bytes stands where this holds
  abbrev pub IsHonest : Sectors F g → Type 0
  IsHonest it = IsTrue (g.honest it.inner)

  abbrev pub version_of : Sectors F g → Version
  version_of it = it.version

  abbrev pub count_of : Sectors F g → ℕ
  count_of it = it.num_sectors

  -- a fault in a write or a commit here has left it in a state in which every call is refused
  abbrev pub has_failed_here : Sectors F g → Bool
  has_failed_here it = it.failed

  -- so does a fault of the medium
  abbrev pub has_failed : Sectors F g → Bool
  has_failed it = has_failed_here it || g.failed it.inner

  -- so many bytes from this offset of this sector on lie in the file's sectors
  abbrev pub LiesIn : Sectors F g → ℕ → ℕ → ℕ → Type 0
  LiesIn it n offset count = (n < count_of it) × (sector_start (version_of it) n + offset + count ≤ sector_start (version_of it) (count_of it))

  -- each of these is a sector
  abbrev pub AreSectorNumbers : Sectors F g → List ℕ → Type 0
  AreSectorNumbers it sectors = AllByRecursion (λ n. n < count_of it) sectors

  -- so many bytes from this place of the file on end in its sectors
  abbrev pub EndsIn : Sectors F g → ℕ → ℕ → Type 0
  EndsIn it place count = place + count ≤ sector_start (version_of it) (count_of it)

  -- nothing but reads and flushes was done
  pub record OnlyReadsSectors (old new : Sectors F g) : Type 0 where
    pub honest : g.honest new.inner ≡ g.honest old.inner
    pub continues : Reaches g.continues old.inner new.inner
    pub bytes : IsHonest old → bytes_of new ≡ bytes_of old
    pub version : version_of new ≡ version_of old
    pub count : count_of new ≡ count_of old
    pub failed : has_failed_here new ≡ has_failed_here old

  -- where it has not failed the bytes are those that the function makes of them, and nothing was published
  pub record Changes (change : List ℕ → List ℕ) (old new : Sectors F g) : Type 0 where
    pub honest : g.honest new.inner ≡ g.honest old.inner
    pub continues : Reaches g.continues old.inner new.inner
    pub version : version_of new ≡ version_of old
    pub live : has_failed_here new ≡ false → has_failed_here old ≡ false
    pub bytes : has_failed_here new ≡ false → IsHonest old → bytes_of new ≡ change (bytes_of old)

  -- it is as it was, but every call is refused
  pub record Fails (old new : Sectors F g) : Type 0 where
    pub medium : medium_of new ≡ medium_of old
    pub version : version_of new ≡ version_of old
    pub count : count_of new ≡ count_of old
    pub failed : has_failed_here new ≡ true

  -- these bytes were written at this place, and as many sectors are there
  abbrev pub WritesBytesAt : ℕ → List ℕ → Sectors F g → Sectors F g → Type 0
  WritesBytesAt place bytes old new = Changes (λ b. overwritten b place bytes) old new × (count_of new ≡ count_of old)

  -- the error is one of the medium, with its cause there, or tells of an earlier fault here
  abbrev pub IsJustifiedByMedium : Sectors F g → Sectors F g → Error → Type 0
  IsJustifiedByMedium old new error = IsJustifiedSince g.continues g.failures (λ m. has_failed_here old || g.failed m) old.inner new.inner error

  -- a crash at a moment since the old state leaves what one might have left by then, or the bytes that there were
  abbrev pub CrashLeavesOldOrBytes : Sectors F g → Sectors F g → Type 0
  CrashLeavesOldOrBytes old new = CrashLeavesOnly g.moment g.crash_left_since (medium_of old) (medium_of new) (λ left. g.crash_may_leave (medium_of old) left ⊎ (left ≡ Some (bytes_of old)))
