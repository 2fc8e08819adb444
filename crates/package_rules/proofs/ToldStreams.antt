-- What the list of bytes without a stream tells.
use Rattle.std.proofs.Common.{◌≡◌, ◌↔◌, Bool, true, false, not, refl, ap, ap₂}
use Rattle.std.specs.Prelude.{Contains, ◌&&◌}
use Rattle.msi_listing.specs.Content.{CellContent, ListingContent, null, number, text, bytes}
use Rattle.msi_listing.specs.declared.column.Kind.{Kind}
use Rattle.msi_listing.specs.declared.column.Kind.TheVariants as kind
use Rattle.package_rules.specs.Cells.{is_bytes}
use Rattle.package_rules.specs.Sentences.{IsUnbacked}
use Rattle.package_rules.specs.Streams.{has_stream, is_binary, stream_found, stream_name}
use Rattle.package_rules.specs.declared.place.Place.{Place}
use Rattle.package_rules.proofs.StreamNames.{none_there, there_none}
use Rattle.package_rules.proofs.Told.{cells_in, cells_out}

of_bytes : (k : Kind) → is_binary k ≡ true → k ≡ kind.Binary
of_bytes kind.Binary h = refl
of_bytes kind.Int16 h = absurd (cc h)
of_bytes kind.Int32 h = absurd (cc h)
of_bytes (kind.Str n) h = absurd (cc h)

its_bytes : (d : CellContent) → is_bytes d ≡ true → d ≡ bytes
its_bytes bytes h = refl
its_bytes null h = absurd (cc h)
its_bytes (number z) h = absurd (cc h)
its_bytes (text t) h = absurd (cc h)

both : (a b : Bool) → (a && not b) ≡ true → (a ≡ true) × (b ≡ false)
both true true h = absurd (cc h)
both true false h = (refl, refl)
both false b h = absurd (cc h)

pub stream_told : (L : ListingContent) (at : Place) → Contains (stream_found L) at ↔ IsUnbacked L at
stream_told L at = (
  λ h.
      let f = cells_out (λ t c. is_binary c.kind) (λ t c row d. is_bytes d && not (has_stream L (stream_name t row))) L at h in
      let parts = both (is_bytes f.0.cell) (has_stream L (stream_name f.0.table f.0.row)) f.3 in
      (f.0, f.1, of_bytes f.0.column.kind f.2, its_bytes f.0.cell parts.0, none_there L.streams (stream_name f.0.table f.0.row) parts.1),
  λ s.
      cells_in (λ t c. is_binary c.kind) (λ t c row d. is_bytes d && not (has_stream L (stream_name t row))) L at
      (s.0, s.1, ap is_binary s.2, ap₂ (λ a b. a && not b) (ap is_bytes s.3) (there_none L.streams (stream_name s.0.table s.0.row) s.4)),
)
