-- What is read of an open log.
use Rattle.std.specs.Prelude.{◌≡◌, ℕ, ◌+◌, ◌*◌, ◌<◌, ◌≤◌, Bool, true, List, length, take, drop, Option, Some, None}
use Rattle.staged.specs.Files.{Files}
use Rattle.staged.specs.Log.{ClosedLog, OpenLog, logged, number_of, front, pages_told, pages_for, has_run, has_runs, has_head, is_counted, length_in, count_in, pages_in}
use Rattle.staged.specs.Pages.{Rises, Covers}
use Rattle.staged.specs.declared.recovery.Opened.{Opened}
use Rattle.staged.specs.declared.walk.Head.{Head}
use Rattle.staged.specs.declared.walk.Run.{Run}

-- the head that was read is the whole head of a log
pub record IsWholeHead (log : List ℕ) (head : Head) : Type 0 where
  pub whole : has_head log ≡ true
  pub counted : head.counted ≡ is_counted log
  pub log_len : head.log_len ≡ length log
  pub len : head.len ≡ length_in log
  pub count : head.count ≡ count_in log

-- a run has a page, ends in the log, and its pages begin in the length
pub record IsWithin (head : Head) (run : Run) : Type 0 where
  pub some : 0 < run.count
  pub room : run.place + 512 * run.count ≤ head.log_len
  pub ends : run.first + run.count ≤ pages_for head.len

-- the run that stands whole at a place of a log
pub record IsRunAt (counted : Bool) (log : List ℕ) (at : ℕ) (run : Run) : Type 0 where
  pub whole : has_run counted (drop at log) ≡ true
  pub first : run.first ≡ number_of (take 8 (drop at log))
  pub count : run.count ≡ pages_told counted (drop at log)
  pub place : run.place ≡ at + front counted

-- it was found, or none stands there whole, or it has a page past the length
abbrev pub FindsRun : Head → List ℕ → ℕ → Option Run → Type 0
FindsRun head log at (Some run) = IsRunAt head.counted log at run
FindsRun head log at None = has_run head.counted (drop at log) ≡ true → pages_for head.len < number_of (take 8 (drop at log)) + pages_told head.counted (drop at log)

-- an open log of this head: it is whole, and its pages rise and lead from the home file to the length
pub record IsOpen (files : Files) (head : Head) : Type 0 where
  pub read : IsWholeHead files.log head
  pub whole : has_runs (is_counted files.log) (count_in files.log) (drop 25 files.log) ≡ true
  pub rising : Rises (pages_in files.log)
  pub covers : Covers (pages_in files.log) (length files.home) head.len

-- the open log that was read, or there is none and the log is closed
abbrev pub FindsOpen : Files → Option Opened → Type 0
FindsOpen files None = logged files ≡ ClosedLog
FindsOpen files (Some opened) = (logged files ≡ OpenLog opened.head.len (pages_in files.log)) × IsOpen files opened.head × (opened.pages ≡ length (pages_in files.log))
