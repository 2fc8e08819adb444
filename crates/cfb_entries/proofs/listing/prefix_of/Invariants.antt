use Rattle.std.proofs.Common.{◌≡◌, chars, string_bytes, take}
use Rattle.cfb_siblings.specs.Places.{path_of}
use Rattle.cfb_entries.specs.Listed.{prefix_text}
use Rattle.cfb_entries.proofs.listing.prefix_of.Given as goal

abbrev pub invariant-loop-name : goal.invariant-loop-name
invariant-loop-name l = chars (string_bytes l.text) ≡ prefix_text (path_of (take l.name-index l.names))
