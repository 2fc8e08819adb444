use Rattle.std.specs.Prelude.{[]}
use Rattle.cfb_siblings.specs.Reading.{ReadBy}
use Rattle.cfb_siblings.proofs.Made.{short_name, stream_alone, storage_alone}
use Rattle.cfb_siblings.proofs.laws.new_entries_are_alone.Goals as goal

pub returns-clause-stream : goal.returns-clause-stream
returns-clause-stream c reads name moment scalars valid empty = stream_alone (ReadBy reads) name moment [] scalars (short_name name valid) empty

pub returns-clause-storage : goal.returns-clause-storage
returns-clause-storage c reads name moment scalars valid = storage_alone (ReadBy reads) name moment scalars (short_name name valid)
