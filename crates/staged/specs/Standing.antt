-- What a crash may leave after calls that were made: of each file what its last sync made last, but for the ranges written since.
use Rattle.std.specs.Prelude.{All, ◌≡◌, ◌⊎◌, ℕ, ◌+◌, ◌<◌, ◌≤◌, List, [], ◌∷◌, ◌++◌, length, take, slice_index}
use Rattle.cfb_medium.specs.Bytes.{overwritten}
use Rattle.staged.specs.declared.device.Which.{Which}
use Rattle.staged.specs.declared.device.Which.TheVariants.{Home, Log}
use Rattle.staged.specs.declared.calls.Call.{Call}
use Rattle.staged.specs.declared.calls.Call.TheVariants.{Write, Sync}
use Rattle.staged.specs.Files.{Files}

-- a call on which it depends what a crash may leave: bytes are written at a place of a file, or a file is synced
pub data Made : Type 0 where
  wrote : Which → ℕ → List ℕ → Made
  synced : Which → Made

abbrev pub made : Call → Made
made (Write which at bytes) = wrote which at bytes.items
made (Sync which) = synced which

-- a file: what reads show, what its last sync made last, and the ranges written since, each by its place and its length
pub record Standing : Type 0 where
  pub shown : List ℕ
  pub kept : List ℕ
  pub ranges : List (ℕ × ℕ)

-- a file to which no call was made
abbrev pub standing : List ℕ → Standing
standing bytes = record { shown = bytes; kept = bytes; ranges = [] }

abbrev pub after_write : Standing → ℕ → List ℕ → Standing
after_write s at bytes = record { shown = overwritten s.shown at bytes; kept = s.kept; ranges = s.ranges ++ (at, length bytes) ∷ [] }

-- one of the files after a call
abbrev pub after_call : Which → Standing → Made → Standing
after_call Home s (wrote Home at bytes) = after_write s at bytes
after_call Log s (wrote Log at bytes) = after_write s at bytes
after_call Home s (synced Home) = standing s.shown
after_call Log s (synced Log) = standing s.shown
after_call Home s (wrote Log at bytes) = s
after_call Log s (wrote Home at bytes) = s
after_call Home s (synced Log) = s
after_call Log s (synced Home) = s

abbrev pub after_calls : Which → Standing → List Made → Standing
after_calls which s [] = s
after_calls which s (call ∷ calls) = after_calls which (after_call which s call) calls

-- A stop may leave this of a file: outside the ranges written since its last sync as that sync made it last, as long as that, or as
-- anything up to the end of what was written.
pub record MayStand (s : Standing) (left : List ℕ) : Type 0 where
  pub no_shorter : length s.kept ≤ length left
  pub no_longer : length left ≤ length s.shown
  pub apart : (at : ℕ) → at < length s.kept → All (λ r. (at < r.0) ⊎ (r.0 + r.1 ≤ at)) s.ranges → slice_index left at ≡ slice_index s.kept at

-- a crash after these calls may leave this of two files that were these at first
pub record MayBeLeft (first : Files) (calls : List Made) (left : Files) : Type 0 where
  pub home : MayStand (after_calls Home (standing first.home) calls) left.home
  pub log : MayStand (after_calls Log (standing first.log) calls) left.log

-- a crash after at least this many of the calls might have left it
abbrev pub MightBeLeft : Files → List Made → ℕ → Files → Type 0
MightBeLeft first calls least left = (k : ℕ) × (least ≤ k) × (k ≤ length calls) × MayBeLeft first (take k calls) left

-- what a file shows after these calls, and that a crash may leave it so
pub record IsStanding (s : Standing) (bytes : List ℕ) : Type 0 where
  pub shown : s.shown ≡ bytes
  pub stands : MayStand s bytes
