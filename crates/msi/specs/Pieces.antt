-- A stream of a package that gets the bytes of a source, piece by piece.
use Rattle.std.specs.Prelude.{◌≡◌, IsTrue, List, ℕ, Result}
use Rattle.cfb.specs.Views.{file_case_table}
use Rattle.cfb_medium.specs.declared.error.Error.{Error}
use Rattle.cfb_medium.specs.declared.medium.ReadMedium.{Ghosts}
use Rattle.msi_streams.specs.Writing.{AppliesPackageRule, most_bytes, written_within}
use Rattle.msi.specs.Changing.{PackageChanges, FullOnlyWithoutRoom}
use Rattle.msi.specs.Opened.{file_in}
use Rattle.msi.specs.declared.package.Package.{Package}

module _ {S : Type 0} (k : Ghosts S) {F : Type 0} {g : Ghosts F} where
  -- THE STREAM OF THIS NAME IS PUT with all bytes of an honest source, and with some bytes of another
  pub record PutsFrom (source : S) (name : List ℕ) (result : Result (Unit {0}) Error) (old new : Package F g) : Type 0 where
    pub content : List ℕ
    pub whole : IsTrue (k.honest source) → content ≡ k.bytes source
    pub changes : PackageChanges (AppliesPackageRule (written_within (file_case_table (file_in old)) (most_bytes (file_in old)) name content)) result old new
    pub full : FullOnlyWithoutRoom (AppliesPackageRule (written_within (file_case_table (file_in old)) (most_bytes (file_in old)) name content)) result old new
