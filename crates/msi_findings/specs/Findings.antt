-- Where a package breaks the rules on texts and tables: whole lists, in the order of the pool's places and of the tables.
use Rattle.std.specs.Prelude.{ℕ, ◌+◌, ◌==◌, ◌&&◌, not, if◌then◌else◌, List, [], ◌∷◌, ◌++◌, filter, length, is_none}
use Rattle.cfb_tree.specs.Names.{CaseTable}
use Rattle.cfb_tree.specs.Tree.{Tree}
use Rattle.msi_findings.specs.declared.miscount.Miscount.{Miscount}
use Rattle.msi_spec.specs.Sound.{is_free_table_name}
use Rattle.msi_pool.specs.Pool.{PoolEntry}
use Rattle.msi_stored.specs.StoredPackages.{rows_in}
use Rattle.msi_tables.specs.Table.{Heading}

-- what is found at the places, the first of which has number n
abbrev pub found_from : {A : Type 0} → (ℕ → PoolEntry → List A) → ℕ → List PoolEntry → List A
found_from at n [] = []
found_from at n (p ∷ ps) = at n p ++ found_from at (n + 1) ps

-- a place that is used by another number of cells than is counted
abbrev pub miscounted : (ℕ → ℕ) → ℕ → PoolEntry → List Miscount
miscounted uses n p = if p.count == uses n then [] else (record { place = n; counted = p.count; used = uses n } ∷ [])

-- a place that has a text, and that is counted as used by no cell
abbrev pub unused : ℕ → PoolEntry → List ℕ
unused n p = if (p.count == 0) && not (length p.text == 0) then n ∷ [] else []

-- THE PLACES THAT AREN'T COUNTED RIGHT, and the places that no cell uses but have a text
abbrev pub miscounts : (ℕ → ℕ) → List PoolEntry → List Miscount
miscounts uses ps = found_from (miscounted uses) 1 ps

abbrev pub unused_places : List PoolEntry → List ℕ
unused_places ps = found_from unused 1 ps

-- THE TABLES without a name that a table of a sound package may have, and those whose rows can't be read from the tree
abbrev pub misnamed : List Heading → List Heading
misnamed hs = filter (λ h. not (is_free_table_name h.name)) hs

abbrev pub unread : CaseTable → Tree → List Heading → List Heading
unread letters tree hs = filter (λ h. is_none (rows_in letters tree h)) hs
