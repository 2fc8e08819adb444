-- The entries that runs stand for ([MS-CFB] 2.3).
use Rattle.std.specs.Prelude.{◌≡◌, ◌≢◌, ℕ, ◌+◌, ◌<◌, nat_lt, if◌then◌else◌, ◌==◌, List, [], ◌∷◌}
use Rattle.cfb_sectors.specs.Sectors.{end_of_chain, greatest_regular}
use Rattle.cfb_fat_runs.specs.declared.runs.Kind.{Kind}
use Rattle.cfb_fat_runs.specs.declared.runs.Kind.TheVariants.{Special, Linked}
use Rattle.cfb_fat_runs.specs.declared.runs.Run.{Run}

-- an entry of a run that ends in front of `stop`: each is the run's number, or the sector that follows, and the last one's is this
abbrev pub entry_in : Kind → ℕ → ℕ → ℕ
entry_in (Special number) stop index = number
entry_in (Linked next) stop index = if index + 1 == stop then next else index + 1

-- where the first of these runs begins; all end in front of `stop`
abbrev pub start_of : ℕ → List Run → ℕ
start_of stop [] = stop
start_of stop (run ∷ runs) = run.first

-- an entry is what the run says that it stands in
abbrev pub entry_at : ℕ → List Run → ℕ → ℕ
entry_at stop [] index = 0
entry_at stop (run ∷ runs) index = if nat_lt index (start_of stop runs) then entry_in run.kind (start_of stop runs) index else entry_at stop runs index

-- marks and "free" are no sectors, and a link leads to a sector or ends a chain
abbrev pub IsRight : Kind → Type 0
IsRight (Special number) = (greatest_regular < number) × (number ≢ end_of_chain)
IsRight (Linked next) = greatest_regular < next → next ≡ end_of_chain

-- the run is of the linked kind
abbrev pub IsLink : Kind → Type 0
IsLink (Special number) = ⊥
IsLink (Linked next) = Unit {0}

-- from `at` up to `stop` one run follows another, and none is empty
abbrev pub AreTiled : ℕ → ℕ → List Run → Type 0
AreTiled at stop [] = at ≡ stop
AreTiled at stop (run ∷ runs) = (run.first ≡ at) × (at < start_of stop runs) × IsRight run.kind × AreTiled (start_of stop runs) stop runs

-- a run that ends in front of this sector leads on to it
abbrev pub leading_to : ℕ → Kind → Kind
leading_to next (Special number) = Special number
leading_to next (Linked other) = Linked next

-- the two parts of a run that is cut
abbrev pub head_of : Run → ℕ → Run
head_of r i = record { first = r.first; kind = leading_to i r.kind }

abbrev pub tail_of : Run → ℕ → Run
tail_of r i = record { first = i; kind = r.kind }
