-- Files on disk that are opened and made by their paths.
use Rattle.std.specs.Prelude.{◌≡◌, ◌⊎◌}
use Rattle.cfb_medium.specs.Calls.{IsFaultOrInvalidInputIf}
use Rattle.cfb_medium.specs.declared.error.Error.{Error}
use Rattle.cfb_medium.specs.declared.error.Error.TheVariants.{InvalidData}
use Rattle.cfb_tree.specs.CaseTableViews.{ReplaceAlike}
use Rattle.cfb_tree.specs.Names.{ascii_letters, CaseTable}
use Rattle.cfb_medium.specs.declared.medium.ReadMedium.{Ghosts}
use Rattle.cfb_medium.specs.declared.version.Version.TheVariants.{V4}
use Rattle.cfb_opening.specs.Opened.{OpensAt}
use Rattle.file_device.specs.FileDevice.{IsDeviceOpenError}
use Rattle.file_device.specs.FileMedium.{medium_failures}
use Rattle.file_device.specs.declared.medium.FileMedium.{FileMedium}
use Rattle.cfb.specs.Creating.{IsCreated}
use Rattle.cfb.specs.Views.{mini_of}
use Rattle.cfb.specs.declared.compound_file.CompoundFile.{CompoundFile}

-- the file on disk can't be opened or made, such a reader doesn't take its bytes, or a fault
abbrev pub IsFileOpenError : Error → Type 0
IsFileOpenError e = IsDeviceOpenError e ⊎ IsFaultOrInvalidInputIf ⊥ e ⊎ (e ≡ InvalidData)

-- the letters a to z are their capitals ([MS-CFB] 2.6.4)
abbrev pub ComparesAsAscii : CaseTable → Type 0
ComparesAsAscii letters = ReplaceAlike letters ascii_letters

-- it was opened over a file on disk, which was read alone, and of which no call had failed
abbrev pub IsOpenedOnDisk : {g : Ghosts FileMedium} → CompoundFile FileMedium g → Type 0
IsOpenedOnDisk it = (medium : FileMedium) × (medium_failures medium ≡ 0) × OpensAt medium (mini_of it)

-- it was made over one
abbrev pub IsMadeOnDisk : {g : Ghosts FileMedium} → CaseTable → CompoundFile FileMedium g → Type 0
IsMadeOnDisk letters it = (medium : FileMedium) × (medium_failures medium ≡ 0) × IsCreated V4 letters medium it
