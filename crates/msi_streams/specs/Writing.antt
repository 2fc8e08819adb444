-- What the calls that change streams make of a package.
use Rattle.std.specs.Prelude.{◌≡◌, ℕ, List, length, nat_le, Result, Ok}
use Rattle.cfb.specs.Views.{mini_of}
use Rattle.cfb.specs.declared.compound_file.CompoundFile.{CompoundFile}
use Rattle.cfb_fat.specs.Tables.{version_of}
use Rattle.cfb_medium.specs.Versions.{stream_len_mask}
use Rattle.cfb_medium.specs.declared.error.Error.{Error}
use Rattle.cfb_medium.specs.declared.error.Error.TheVariants.{InvalidInput}
use Rattle.cfb_medium.specs.declared.medium.ReadMedium.{Ghosts}
use Rattle.cfb_mini.specs.Views.{allocator_of}
use Rattle.cfb_tree.specs.Names.{CaseTable}
use Rattle.msi_spec.specs.Calls.{EndsRefusedOrBy}
use Rattle.msi_spec.specs.Package.{PackageContent}
use Rattle.msi_spec.specs.Streams.{stream_written, without_stream}
use Rattle.msi_stored.specs.Changing.{PackageRule}
use Rattle.msi_texts.specs.Results.{◌>>=◌, unless_not}

-- the call makes of a package what the definition gives, or is refused just as it refuses
abbrev pub AppliesPackageRule : (PackageContent → Result PackageContent Error) → PackageRule
AppliesPackageRule made P Q answer = EndsRefusedOrBy (made P) P Q answer (λ R. Q ≡ R)

-- a stream of the file has at most so many bytes
abbrev pub most_bytes : {F : Type 0} {g : Ghosts F} → CompoundFile F g → ℕ
most_bytes it = stream_len_mask (version_of (allocator_of (mini_of it)))

module _ (letters : CaseTable) where
  -- a stream of these bytes, where a stream can have so many: more are refused last
  abbrev pub written_within : ℕ → List ℕ → List ℕ → PackageContent → Result PackageContent Error
  written_within most name content P =
      stream_written letters P name content >>= λ Q. unless_not (nat_le (length content) most) InvalidInput >>= λ _. Ok Q

  -- the package without the stream that has this name in the container, where there is one
  abbrev pub without : List ℕ → PackageContent → PackageContent
  without name P = record P { streams = without_stream letters name P.streams }
