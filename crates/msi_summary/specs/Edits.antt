-- Edits of a summary in memory.
use Rattle.std.specs.Prelude.{◌≡◌, Result, MatchResult}
use Rattle.cfb_medium.specs.declared.error.Error.{Error}
use Rattle.cfb_medium.specs.declared.error.Error.TheVariants.{Memory}
use Rattle.msi_props.specs.Held.{SetState}
use Rattle.msi_summary.specs.Summary.{Edit, edited}

-- a summary after an edit
abbrev pub edited_state : Edit → SetState → SetState
edited_state change s = record s { props = edited change s.props }

-- an edit was made, or there was no memory and nothing changed
abbrev pub EditsOrOutOfMemory : Edit → SetState → SetState → Result (Unit {0}) Error → Type 0
EditsOrOutOfMemory change old new r = MatchResult r (λ _. new ≡ edited_state change old) (λ e. (e ≡ Memory) × (new ≡ old))
