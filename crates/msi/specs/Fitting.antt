-- The texts of a package that don't fit their pages.
use Rattle.std.specs.Prelude.{ℕ, List, ◌++◌, Option, Some, None, if◌then◌else◌}
use Rattle.std.specs.List.{filter_map}
use Rattle.msi_pool.specs.Pool.{Pool}
use Rattle.msi_pool.specs.PoolKept.{unfit_among}
use Rattle.msi_props.specs.Props.{Props, Property}
use Rattle.msi_props.specs.Props as property
use Rattle.msi_texts.specs.Page.{fits}
use Rattle.msi_texts.specs.declared.codepage.CodePage.{CodePage}

-- the text of a value, where it doesn't fit the page
abbrev pub unfit_text : CodePage → Property → Option (List ℕ)
unfit_text page (property.text t) = if fits page t then None else Some t
unfit_text page property.empty = None
unfit_text page property.null = None
unfit_text page (property.i1 z) = None
unfit_text page (property.i2 z) = None
unfit_text page (property.i4 z) = None
unfit_text page (property.time n) = None

-- those of a summary's values, by their numbers
abbrev pub unfit_values : CodePage → List (ℕ × Property) → List (List ℕ)
unfit_values page vs = filter_map (λ v. unfit_text page v.1) vs

-- those of the pool, and those of the summary
abbrev pub unfit_texts : Pool → Props → List (List ℕ)
unfit_texts pool summary = unfit_among pool.page pool.places ++ unfit_values summary.page summary.values
