-- Packages that can be written: each text fits its page, and nothing is too long for its fields.
use Rattle.std.specs.Prelude.{Bool, true, not, ◌&&◌, ◌||◌, length, nat_lt}
use Rattle.std.specs.List.{list_all}
use Rattle.msi_texts.specs.Page.{fits}
use Rattle.msi_texts.specs.declared.codepage.CodePage.{CodePage}
use Rattle.msi_pool.specs.Pool.{Pool, data_stream}
use Rattle.msi_pool.specs.PoolState.{is_in_size, length_limit}
use Rattle.msi_props.specs.Props.{Props, Property}
use Rattle.msi_props.specs.Props as property
use Rattle.msi_props.specs.Props.{is_in_size as set_is_in_size}
use Rattle.cfb_spec.specs.TreeRules.{Object, a_stream, a_storage}
use Rattle.msi_spec.specs.Package.{PackageContent}

-- the pool's texts fit its page, and neither one of them nor the pool stream reaches 2^32 - 1 bytes
abbrev pub is_fit_pool : Pool → Bool
is_fit_pool pool = list_all (λ p. fits pool.page p.text) pool.places && is_in_size pool

-- a text of the summary fits the page
abbrev pub is_fit_value : CodePage → Property → Bool
is_fit_value page (property.text t) = fits page t
is_fit_value page property.empty = true
is_fit_value page property.null = true
is_fit_value page (property.i1 z) = true
is_fit_value page (property.i2 z) = true
is_fit_value page (property.i4 z) = true
is_fit_value page (property.time n) = true

-- the summary's texts fit its page, and the set doesn't reach 2^32 - 1 bytes
abbrev pub is_fit_summary : Props → Bool
is_fit_summary s = list_all (λ v. is_fit_value s.page v.1) s.values && set_is_in_size s

-- a stream doesn't reach 2^32 - 1 bytes
abbrev pub is_short : Object → Bool
is_short (a_stream name state_bits bytes) = nat_lt (length bytes) length_limit
is_short (a_storage name facts inside) = true

-- THE PREMISE ON TEXTS AND SIZES: pool and summary are fit, and in a container of version 3 each stream is short; a table's stream is by itself
abbrev pub is_fit : Bool → PackageContent → Bool
is_fit version_3 P =
    is_fit_pool P.pool && is_fit_summary P.summary
    && (not version_3 || (nat_lt (length (data_stream P.pool)) length_limit && list_all is_short P.streams))
