-- A stream that gets its bytes from a source, piece by piece ([MS-CFB] 2.6.3).
use Rattle.std.specs.Prelude.{◌≡◌, ◌⊎◌, ℕ, ◌<◌, ◌≤◌, false, true, length, take, List, Option, IsTrue, Result, IfErr, IsErrOf, OnErr, OnOk}
use Rattle.cfb_fat.specs.Tables.{has_failed_here, IsJustifiedBySectors, OnlyReadsAllocator}
use Rattle.cfb_fat.specs.declared.allocator.Allocator.{Allocator}
use Rattle.cfb_medium.specs.Bytes.{overwritten}
use Rattle.cfb_medium.specs.Calls.{IsFaultOrInvalidInputIf, IsJustifiedSince}
use Rattle.cfb_medium.specs.declared.error.Error.{Error}
use Rattle.cfb_medium.specs.declared.error.Error.TheVariants.{Device, Failed}
use Rattle.cfb_medium.specs.declared.medium.ReadMedium.{Ghosts}
use Rattle.cfb_opening.specs.Tables.{OnlyReadsMedium}
use Rattle.cfb_tree.specs.Paths.{Path}
use Rattle.cfb_stream_writes.specs.Streams.{resized}
use Rattle.cfb.specs.Putting.{FilePuts, Rule}
use Rattle.cfb.specs.Writing.{RewritesAt}
use Rattle.cfb.specs.declared.compound_file.CompoundFile.{CompoundFile}

module _ {S : Type 0} (k : Ghosts S) where
  -- so many bytes of a source: the first ones of an honest source that has so many, and any of another
  pub record ComesFrom (source : S) (len : ℕ) (content : List ℕ) : Type 0 where
    pub long : length content ≡ len
    pub first : IsTrue (k.honest source) → len ≤ length (k.bytes source) → content ≡ take len (k.bytes source)

  -- the source was only read
  abbrev pub OnlyReadsSource : S → S → Type 0
  OnlyReadsSource old new = OnlyReadsMedium k.honest k.bytes k.continues old new

  -- the error has its cause in a source of which so many bytes were asked for: a call of it has failed, and was counted; or it has fewer, or
  -- isn't honest
  abbrev pub IsSourceFault : ℕ → S → S → Error → Type 0
  IsSourceFault len old new e = IsJustifiedSince k.continues k.failures k.failed old new e ⊎ ((e ≡ Device) × (IsTrue (k.honest old) → length (k.bytes old) < len))

  module _ {F : Type 0} {g : Ghosts F} where
    -- what a call does by this rule on trees with so many bytes of the source
    pub record PutsFrom {T : Type 0} (rule : List ℕ → Rule) (source : S) (len : ℕ) (path : Option Path) (result : Result T Error) (old new : CompoundFile F g) : Type 0 where
      pub content : List ℕ
      pub comes : ComesFrom source len content
      pub puts : FilePuts (rule content) path result old new

    -- the stream of entry `id` has then `len` bytes, of which the first are those of the source up to a place, and the others are those of its own
    -- or zeros (a step of private functions)
    pub record FillsFrom (source : S) (len at id : ℕ) (old new : CompoundFile F g) : Type 0 where
      pub content : List ℕ
      pub long : length content ≡ at
      pub first : IsTrue (k.honest source) → len ≤ length (k.bytes source) → content ≡ take at (k.bytes source)
      pub rewrites : RewritesAt id (λ own. overwritten (resized len own) 0 content) old new

    -- Done only where it had not failed, and then it has not. One that had failed answers `Failed`, and rests. After any error it has failed, or
    -- nothing but reads happened. An error has its cause in the file, or in the source.
    pub record SourceErrorContract {T : Type 0} (refuses : Error → Type 0) (len : ℕ) (result : Result T Error) (old new : Allocator F g) (source read : S) : Type 0 where
      pub live : OnOk result ((has_failed_here old ≡ false) × (has_failed_here new ≡ false))
      pub failed : has_failed_here old ≡ true → IsErrOf result Failed × OnlyReadsAllocator old new
      pub after : OnErr result ((has_failed_here new ≡ true) ⊎ OnlyReadsAllocator old new)
      pub cause : IfErr result (λ e. IsJustifiedBySectors old new e ⊎ IsSourceFault len source read e)
      pub fault : IfErr result (λ e. IsFaultOrInvalidInputIf ⊥ e ⊎ refuses e)
