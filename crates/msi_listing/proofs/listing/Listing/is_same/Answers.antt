use Rattle.std.proofs.Common.{ap, string_bytes, rules}
use Rattle.msi_listing.specs.Content.{ListingContent}
use Rattle.msi_listing.specs.HeldProperty.{pair_of}
use Rattle.msi_listing.proofs.AlikeLists.{differs, not_so, is_so, same_listings, told_alike, told_by_view}
use Rattle.msi_listing.proofs.listing.Listing.is_same.Goals as goal

pub returns-then-not-are_alike : goal.returns-then-not-are_alike
returns-then-not-are_alike c =
    let told = told_alike _ _ _ _ c.are_alike.result c.are_alike.ensures c.tables.ensures c.tables-2.ensures in
    differs (λ e. not_so c.are_alike.result c.if-not-are_alike.true told (ap (λ (l : ListingContent). l.tables) e))

pub returns-then-not-are_alike-2 : goal.returns-then-not-are_alike-2
returns-then-not-are_alike-2 c =
    let told = told_by_view string_bytes _ _ _ _ c.are_alike-2.result c.are_alike-2.ensures c.streams.ensures c.streams-2.ensures in
    differs (λ e. not_so c.are_alike-2.result c.if-not-are_alike-2.true told (ap (λ (l : ListingContent). l.streams) e))

pub returns : goal.returns
returns c =
    let tables = told_alike _ _ _ _ c.are_alike.result c.are_alike.ensures c.tables.ensures c.tables-2.ensures in
    let streams = told_by_view string_bytes _ _ _ _ c.are_alike-2.result c.are_alike-2.ensures c.streams.ensures c.streams-2.ensures in
    let properties = told_by_view pair_of _ _ _ _ c.are_alike-3.result c.are_alike-3.ensures c.properties.ensures c.properties-2.ensures in
    same_listings c.args.self.now c.args.other.now (search rules) (is_so c.are_alike.result c.if-not-are_alike.false tables) (is_so c.are_alike-2.result c.if-not-are_alike-2.false streams) c.are_alike-3.result properties
