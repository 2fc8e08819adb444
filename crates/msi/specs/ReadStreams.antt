-- Streams of a package that are read from its file, piece by piece.
use Rattle.std.specs.Borrow.{GName}
use Rattle.std.specs.Prelude.{◌≡◌, ◌⊎◌, ℕ, Err, List, MatchResult, Ok, Result}
use Rattle.cfb.specs.Streams.{FileHasStream}
use Rattle.cfb.specs.declared.compound_file.CompoundFile.{CompoundFile}
use Rattle.cfb_chains.specs.ChainCalls.{IsInvalidPlace}
use Rattle.cfb_medium.specs.Calls.{IsFaultOrInvalidInputIf}
use Rattle.cfb_medium.specs.declared.error.Error.{Error}
use Rattle.cfb_medium.specs.declared.medium.ReadMedium.{Ghosts}
use Rattle.msi.specs.Opened.{OnlyReadsPackage, file_in}
use Rattle.msi.specs.declared.package.Package.{Package}
use Rattle.msi.specs.declared.read_stream.ReadStream.{ReadStream}

module _ {F : Type 0} {g : Ghosts F} where
  -- the definition answers with the bytes of a stream of so many, which the file reads; or refuses just so; or there was a fault
  abbrev pub FindsBytes : {A : Type 0} → (A → CompoundFile F g) → (A → ℕ) → Result (List ℕ) Error → Result A Error → Type 0
  FindsBytes file len expected result =
      MatchResult result (λ it. (bytes : List ℕ) × (expected ≡ Ok bytes) × FileHasStream (file it) (len it) bytes) (λ e. IsFaultOrInvalidInputIf ⊥ e ⊎ (expected ≡ Err e))

  -- the package was only read, and its file reads the stream of so many bytes that it read
  pub record KeepsFoundStream (len : ℕ) (old new : Package F g) : Type 0 where
    pub package_read : OnlyReadsPackage old new
    pub content : (content : List ℕ) → FileHasStream (file_in old) len content → FileHasStream (file_in new) len content

  -- the package and the reference to it, how many bytes the stream has, and the place from which on they are read
  abbrev pub package_of : ReadStream F g → Package F g
  package_of it = it.package.now

  abbrev pub lender_of : ReadStream F g → GName
  lender_of it = it.package.ghost_name

  abbrev pub len_of : ReadStream F g → ℕ
  len_of it = it.len

  abbrev pub position_of : ReadStream F g → ℕ
  position_of it = it.position

  -- the stream has these bytes
  abbrev pub StreamHasContent : ReadStream F g → List ℕ → Type 0
  StreamHasContent it content = FileHasStream (file_in (package_of it)) (len_of it) content

  -- the same stream of the same package, which was only read: it has the bytes that it had
  pub record KeepsReadStream (old new : ReadStream F g) : Type 0 where
    pub lender : lender_of new ≡ lender_of old
    pub len : len_of new ≡ len_of old
    pub keeps : KeepsFoundStream (len_of old) (package_of old) (package_of new)

  -- a fault; or the package hasn't the stream's bytes
  abbrev pub IsFaultOrLost : ReadStream F g → Error → Type 0
  IsFaultOrLost it e = IsFaultOrInvalidInputIf ⊥ e ⊎ (IsInvalidPlace e × ((content : List ℕ) → StreamHasContent it content → ⊥))
