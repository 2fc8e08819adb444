-- A listing in memory, as what it says.
use Rattle.std.specs.Prelude.{map, string_bytes}
use Rattle.msi_listing.specs.HeldProperty.{pair_of}
use Rattle.msi_listing.specs.Content.{ListingContent}
use Rattle.msi_listing.specs.declared.listing.Listing.TheInside.{Inside}

abbrev pub listing_of : Inside → ListingContent
listing_of l = record { codepage = l.codepage; tables = l.tables.items; streams = map string_bytes l.streams.items; properties = map pair_of l.properties.items }
