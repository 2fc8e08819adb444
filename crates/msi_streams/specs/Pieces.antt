-- What a call makes of a package that puts the bytes of a source into a stream.
use Rattle.std.specs.Prelude.{◌≡◌, List, ℕ, IsTrue, Result}
use Rattle.cfb.specs.Views.{file_case_table}
use Rattle.cfb.specs.declared.compound_file.CompoundFile.{CompoundFile}
use Rattle.cfb_medium.specs.declared.error.Error.{Error}
use Rattle.cfb_medium.specs.declared.medium.ReadMedium.{Ghosts}
use Rattle.msi_stored.specs.Changing.{ChangesStoredPackage}
use Rattle.msi_stored.specs.Room.{FillsBy}
use Rattle.msi_streams.specs.Writing.{AppliesPackageRule, most_bytes, written_within}

module _ {S : Type 0} (k : Ghosts S) {F : Type 0} {g : Ghosts F} where
  -- the stream of this name gets all bytes of an honest source, and some bytes of another
  pub record WritesFrom (source : S) (name : List ℕ) (result : Result (Unit {0}) Error) (old new : CompoundFile F g) : Type 0 where
    pub content : List ℕ
    pub whole : IsTrue (k.honest source) → content ≡ k.bytes source
    pub changes : ChangesStoredPackage (AppliesPackageRule (written_within (file_case_table old) (most_bytes old) name content)) result old new
    pub full : FillsBy (AppliesPackageRule (written_within (file_case_table old) (most_bytes old) name content)) result old new
