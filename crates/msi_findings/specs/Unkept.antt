-- Texts that their code page doesn't give back: whole lists, of the places of the pool and of the numbers of properties.
use Rattle.std.specs.Prelude.{ℕ, ◌+◌, not, if◌then◌else◌, List, [], ◌∷◌, ◌++◌, map, filter, length, nat_lt, take, Option, Some, None, Result, Ok}
use Rattle.cfb_medium.specs.declared.error.Error.{Error}
use Rattle.cfb_medium.specs.declared.error.Error.TheVariants.{NotFound}
use Rattle.cfb_tree.specs.Names.{CaseTable}
use Rattle.cfb_tree.specs.Tree.{Tree}
use Rattle.msi_spec.specs.Package.{data_name, objects, pool_name, stream_at, summary_name, table_stream}
use Rattle.msi_pool.specs.Pool.{StoredText}
use Rattle.msi_pool.specs.PoolReading.{begun, text_round_trips, texts_at, Heads}
use Rattle.msi_props.specs.Props.{property_round_trips as value_gives_back, stored_props, Property}
use Rattle.msi_props.specs.Props as property
use Rattle.msi_texts.specs.Results.{◌>>=◌, or_refused}
use Rattle.msi_texts.specs.declared.codepage.CodePage.{CodePage}

-- the places of the texts, the first of which has number n, that the page doesn't give back
abbrev pub unkept_from : CodePage → ℕ → List StoredText → List ℕ
unkept_from page n [] = []
unkept_from page n (s ∷ ss) = (if text_round_trips page s.0 then [] else (n ∷ [])) ++ unkept_from page (n + 1) ss

-- what the first of the pool's streams tells of the second: the page, and the length and the count of each place
abbrev pub heads_in : List ℕ → Result (CodePage × Heads) Error
heads_in bytes = begun bytes >>= λ b. Ok (b.page, b.heads)

-- the places of the texts of the pool's second stream, which have these lengths, that the page doesn't give back
abbrev pub unkept_at : CodePage → Heads → List ℕ → Result (List ℕ) Error
unkept_at page heads bytes = texts_at heads bytes >>= λ stored. Ok (unkept_from page 1 stored)

module _ (letters : CaseTable) (tree : Tree) where
  -- what the tree's first stream of the pool tells, and the texts of its second one that aren't given back
  abbrev pub pool_heads : Result (CodePage × Heads) Error
  pool_heads = or_refused (table_stream letters (objects tree.content) pool_name) NotFound >>= heads_in

  abbrev pub unkept_behind : CodePage → Heads → Result (List ℕ) Error
  unkept_behind page heads = or_refused (table_stream letters (objects tree.content) data_name) NotFound >>= unkept_at page heads

  -- THE PLACES of the pool whose texts the code page of the database doesn't give back; or why the pool can't be read
  abbrev pub unkept_texts : Result (List ℕ) Error
  unkept_texts = pool_heads >>= λ pool. unkept_behind pool.0 pool.1

-- the numbers of the values that are texts and that the page doesn't give back
abbrev pub unkept_numbers : CodePage → List (ℕ × Property) → List ℕ
unkept_numbers page values = map (λ v. v.0) (filter (λ v. not (value_gives_back page v.1)) values)

-- one of them
abbrev pub unkept_value : CodePage → ℕ → Property → List ℕ
unkept_value page n v = if value_gives_back page v then [] else (n ∷ [])

-- of the set that the bytes hold
abbrev pub unkept_values : List ℕ → Result (List ℕ) Error
unkept_values bytes = stored_props bytes >>= λ s. Ok (unkept_numbers s.page s.values)

-- THE NUMBERS of the properties of the summary whose texts its page doesn't give back; or why the summary can't be read
abbrev pub unkept_properties : CaseTable → Tree → Result (List ℕ) Error
unkept_properties letters tree = or_refused (stream_at letters (objects tree.content) summary_name) NotFound >>= unkept_values

-- ---- on the way to them

-- the bytes of a value that is a text
abbrev pub text_in : Property → Option (List ℕ)
text_in (property.text bytes) = Some bytes
text_in _ = None

-- so many bytes, where they are there
abbrev pub front_of : ℕ → List ℕ → Option (List ℕ)
front_of n bytes = if nat_lt (length bytes) n then None else Some (take n bytes)
