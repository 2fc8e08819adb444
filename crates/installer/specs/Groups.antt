-- Inserts into one table that follow one another, and what is told of them.
use Rattle.std.specs.Prelude.{ℕ, List, map}
use Rattle.command_file.specs.Request as asked
use Rattle.command_file.specs.Request.{Request}
use Rattle.msi_values.specs.Datum.{Datum}
use Rattle.installer.specs.Reply as told
use Rattle.installer.specs.Reply.{Reply}

-- inserts into the table of this name, with the rows of each
abbrev pub inserts_of : List ℕ → List (List (List Datum)) → List Request
inserts_of name groups = map (λ rows. asked.insert name rows) groups

-- a reply to each, where all are done
abbrev pub all_done : List Request → List Reply
all_done requests = map (λ r. told.done) requests
