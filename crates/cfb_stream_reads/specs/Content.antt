-- A stream's bytes: in the file, and in memory where they were read ahead ([MS-CFB] 2.6.3).
use Rattle.std.specs.Prelude.{◌≡◌, ℕ, ◌+◌, ◌-◌, ◌≤◌, List, drop, length, max, take, IfErr, IsTrue, OnOk, Result, if◌then◌else◌, nat_lt}
use Rattle.cfb_fat.specs.Tables.{is_honest}
use Rattle.cfb_medium.specs.Calls.{IsFaultOrInvalidInputIf}
use Rattle.cfb_medium.specs.declared.error.Error.{Error}
use Rattle.cfb_medium.specs.declared.medium.ReadMedium.{Ghosts}
use Rattle.cfb_mini.specs.Views.{allocator_of}
use Rattle.cfb_mini.specs.declared.mini_allocator.MiniAllocator.{MiniAllocator}
use Rattle.cfb_stream_reads.specs.Streams.{joined_in, len_in, HasSectorsOf}
use Rattle.cfb_stream_reads.specs.declared.ahead.ReadAhead.{ReadAhead}
use Rattle.cfb_stream_reads.specs.declared.opening.StreamLinks.{StreamLinks}

-- the bytes that were read ahead
abbrev pub ahead_of : ReadAhead → List ℕ
ahead_of it = it.bytes.items

-- so many bytes are read ahead at most
abbrev pub most_of : ReadAhead → ℕ
most_of it = max it.limit 1024

-- they are those of the stream, from their place on
abbrev pub IsAheadOf : List ℕ → ReadAhead → Type 0
IsAheadOf content it = ahead_of it ≡ take (length (ahead_of it)) (drop it.start content)

-- so many of them stand at a place of the stream and behind it
abbrev pub count_from : ReadAhead → ℕ → ℕ
count_from it at = if nat_lt at it.start then 0 else it.start + length (ahead_of it) - at

-- the buffer was filled with the content's bytes from a place on, or a fault came
abbrev pub ReadsPart : {T : Type 0} → List ℕ → ℕ → List ℕ → List ℕ → Result T Error → Type 0
ReadsPart {T} content at old new result = OnOk result (new ≡ take (length old) (drop at content)) × IfErr result (IsFaultOrInvalidInputIf ⊥)

module _ {F : Type 0} {g : Ghosts F} where
  -- an honest file has the sectors, and the first bytes of these, as many as the stream has, are this content
  pub record SectorsHaveContent (it : MiniAllocator F g) (links : StreamLinks) (len : ℕ) (content : List ℕ) : Type 0 where
    pub honest : IsTrue (is_honest (allocator_of it))
    pub sectors : HasSectorsOf it links
    pub room : len ≤ len_in links
    pub bytes : content ≡ take len (joined_in it links)
