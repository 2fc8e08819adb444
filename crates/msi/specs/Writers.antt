-- A stream of a package that is written piece by piece, and put into the package by a flush.
use Rattle.std.specs.Borrow.{GName}
use Rattle.std.specs.Prelude.{◌≡◌, ℕ, [], IfErr, List, Ok, Result}
use Rattle.cfb.specs.Views.{file_case_table, mini_of}
use Rattle.cfb_fat.specs.Tables.{IsJustifiedBySectors}
use Rattle.cfb_medium.specs.Memory.{memory_bytes}
use Rattle.cfb_medium.specs.declared.error.Error.{Error}
use Rattle.cfb_medium.specs.declared.medium.ReadMedium.{Ghosts}
use Rattle.cfb_medium.specs.declared.memory.MemoryMedium.{MemoryMedium}
use Rattle.cfb_mini.specs.Views.{allocator_of}
use Rattle.cfb_chain_io.specs.ChainEffects.{KeepsFileInvariants}
use Rattle.msi_streams.specs.Writing.{AppliesPackageRule, most_bytes, written_within}
use Rattle.msi.specs.Changing.{IsChangeError, PackageChanges, FullOnlyWithoutRoom}
use Rattle.msi.specs.Opened.{file_in}
use Rattle.msi.specs.declared.package.Package.{Package}
use Rattle.msi.specs.declared.writer.StreamWriterOver.{StreamWriterOver}

module _ {F : Type 0} {g : Ghosts F} where
  -- what a call leaves that puts a stream of this name with these bytes into a package: what `put_stream` says of it
  pub record ReplacesStream (name content : List ℕ) (result : Result (Unit {0}) Error) (old new : Package F g) : Type 0 where
    pub changes : PackageChanges (AppliesPackageRule (written_within (file_case_table (file_in old)) (most_bytes (file_in old)) name content)) result old new
    pub full : FullOnlyWithoutRoom (AppliesPackageRule (written_within (file_case_table (file_in old)) (most_bytes (file_in old)) name content)) result old new
    pub goes_on : KeepsFileInvariants (allocator_of (mini_of (file_in old))) (allocator_of (mini_of (file_in new)))
    pub cause : IfErr result (IsJustifiedBySectors (allocator_of (mini_of (file_in old))) (allocator_of (mini_of (file_in new))))
    pub kinds : IfErr result IsChangeError

  -- the package into which it writes, and the reference to it
  abbrev pub package_under : StreamWriterOver F MemoryMedium g → Package F g
  package_under it = it.package.now

  abbrev pub lender_of : StreamWriterOver F MemoryMedium g → GName
  lender_of it = it.package.ghost_name

  -- the stream's name, the bytes that it gets, and the place from which on they are written
  abbrev pub name_in : StreamWriterOver F MemoryMedium g → List ℕ
  name_in it = it.name.now

  abbrev pub content_in : StreamWriterOver F MemoryMedium g → List ℕ
  content_in it = memory_bytes it.content

  abbrev pub place_in : StreamWriterOver F MemoryMedium g → ℕ
  place_in it = it.position

  -- it writes the same stream of the same package, which is as it was
  pub record WriterRests (old new : StreamWriterOver F MemoryMedium g) : Type 0 where
    pub lender : lender_of new ≡ lender_of old
    pub package_is : package_under new ≡ package_under old
    pub name : name_in new ≡ name_in old

  -- it has the same bytes, at the same place
  pub record WriterKeeps (old new : StreamWriterOver F MemoryMedium g) : Type 0 where
    pub content : content_in new ≡ content_in old
    pub place : place_in new ≡ place_in old

  -- A NEW WRITER: of this name, without bytes, over a package in which the stream was put so
  pub record BeginsWriting (name : List ℕ) (old : Package F g) (it : StreamWriterOver F MemoryMedium g) : Type 0 where
    pub of_name : name_in it ≡ name
    pub nothing : content_in it ≡ []
    pub at_start : place_in it ≡ 0
    pub puts : ReplacesStream name [] (Ok tt) old (package_under it)
