-- Entries that a walk has still to list.
use Rattle.std.specs.Prelude.{ℕ, List, map}
use Rattle.cfb_entries.specs.declared.walking.Pending.{Pending}

-- entries that are to be listed, whose storage stands there in the list
abbrev pub pending_at : ℕ → List ℕ → List Pending
pending_at parent ids = map (λ id. record { id = id; parent = parent }) ids
