-- Lists of texts that aren't given back, and whether there are any.
use Rattle.std.proofs.Common.{◌≡◌, ◌∙◌, Bool, true, false, ℕ, ◌+◌, List, [], ◌∷◌, ◌++◌, Ok, Err, Result, map, refl, sym, ap}
use Rattle.std.specs.Prelude.{◌↔◌, ◌&&◌, filter, if◌then◌else◌, not, cond, IfOk, Vec}
use Rattle.std.specs.List.{list_all}
use Rattle.std.specs.declared.alloc.Global.{Global}
use Rattle.cfb_medium.specs.declared.error.Error.{Error}
use Rattle.cfb_medium.specs.declared.error.Error.TheVariants.{NotFound}
use Rattle.cfb_tree.specs.Names.{CaseTable}
use Rattle.cfb_tree.specs.Tree.{Tree}
use Rattle.msi_parts.specs.Held.{ArePartsOfTree}
use Rattle.msi_parts.specs.declared.parts.PackageParts.{PackageParts}
use Rattle.msi_pool.specs.Pool.{StoredText}
use Rattle.msi_pool.specs.PoolReading.{text_round_trips, stored_give_back, texts_at, Begun, Heads}
use Rattle.msi_props.specs.Props.{all_give_back, stored_props, texts_give_back, property_round_trips as value_gives_back, Property, Props}
use Rattle.msi_stored.specs.Reading.{ReturnsOrFault}
use Rattle.msi_texts.specs.Results.{◌>>=◌, or_refused}
use Rattle.msi_texts.specs.declared.codepage.CodePage.{CodePage}
use Rattle.msi_findings.specs.Unkept.{heads_in, unkept_at, unkept_behind, unkept_from, unkept_numbers, unkept_properties, unkept_texts, unkept_values}

abbrev bool_of : Bool → Result Bool Error → Bool
bool_of other (Ok b) = b
bool_of other (Err e) = other

abbrev list_of : List ℕ → Result (List ℕ) Error → List ℕ
list_of other (Ok l) = l
list_of other (Err e) = other

-- there is none just where all are given back
none_from : (page : CodePage) (n : ℕ) (ss : List StoredText) → (unkept_from page n ss ≡ []) ↔ (list_all (λ s. text_round_trips page s.0) ss ≡ true)
none_from page n [] = (λ _. refl, λ _. refl)
none_from page n (s ∷ ss) = by_test (text_round_trips page s.0) (none_from page (n + 1) ss)
  where
    by_test : (b : Bool) → (unkept_from page (n + 1) ss ≡ []) ↔ (list_all (λ s. text_round_trips page s.0) ss ≡ true)
        → ((if b then [] else (n ∷ [])) ++ unkept_from page (n + 1) ss ≡ []) ↔ (b && list_all (λ s. text_round_trips page s.0) ss ≡ true)
    by_test true rest = rest
    by_test false rest = (λ none. cc, λ all. cc)

numbers_none : (page : CodePage) (vs : List (ℕ × Property)) → (unkept_numbers page vs ≡ []) ↔ (list_all (λ v. value_gives_back page v.1) vs ≡ true)
numbers_none page [] = (λ _. refl, λ _. refl)
numbers_none page (v ∷ vs) = by_test (value_gives_back page v.1) (numbers_none page vs)
  where
    by_test : (b : Bool) → (unkept_numbers page vs ≡ []) ↔ (list_all (λ v. value_gives_back page v.1) vs ≡ true)
        → (map (λ (v : ℕ × Property). v.0) (cond (not b) (v ∷ filter (λ v. not (value_gives_back page v.1)) vs) (filter (λ v. not (value_gives_back page v.1)) vs)) ≡ []) ↔ (b && list_all (λ v. value_gives_back page v.1) vs ≡ true)
    by_test true rest = rest
    by_test false rest = (λ none. cc, λ all. cc)

-- of the texts of a pool, and of the values of a set
pub no_text : (page : CodePage) (heads : Heads) (bytes : List ℕ) (gives : Bool) (found : List ℕ) → stored_give_back page heads bytes ≡ Ok gives → unkept_at page heads bytes ≡ Ok found
    → (found ≡ []) ↔ (gives ≡ true)
no_text page heads bytes gives found given listed = go (texts_at heads bytes) given listed
  where
    go : (r : Result (List StoredText) Error) → (r >>= λ stored. Ok (list_all (λ s. text_round_trips page s.0) stored)) ≡ Ok gives → (r >>= λ stored. Ok (unkept_from page 1 stored)) ≡ Ok found → (found ≡ []) ↔ (gives ≡ true)
    go (Ok stored) g f =
        let is : list_all (λ s. text_round_trips page s.0) stored ≡ gives = ap (bool_of true) g in
        let these : unkept_from page 1 stored ≡ found = ap (list_of []) f in
        let both = none_from page 1 stored in
        (λ none. sym is ∙ both.0 (these ∙ none), λ all. sym these ∙ both.1 (is ∙ all))
    go (Err e) g f = cc

pub no_value : (bytes found : List ℕ) → unkept_values bytes ≡ Ok found → (found ≡ []) ↔ (texts_give_back bytes ≡ true)
no_value bytes found listed = go (stored_props bytes) listed
  where
    go : (r : Result Props Error) → (r >>= λ s. Ok (unkept_numbers s.page s.values)) ≡ Ok found → (found ≡ []) ↔ (all_give_back r ≡ true)
    go (Ok s) f =
        let these : unkept_numbers s.page s.values ≡ found = ap (list_of []) f in
        let both = numbers_none s.page s.values in
        (λ none. both.0 (these ∙ none), λ all. sym these ∙ both.1 all)
    go (Err e) f = cc

-- ---- the same of a package's parts

-- what is told of a list that a definition gives
pub if_listed : (P : List ℕ → Type 0) (d : Result (List ℕ) Error) (r : Result (Vec ℕ Global) Error) → ReturnsOrFault (λ found. found.items) d r → ((found : List ℕ) → d ≡ Ok found → P found)
    → IfOk r (λ found. P found.items)
if_listed P d (Ok found) told law = law found.items told
if_listed P d (Err e) told law = tt

module _ (letters : CaseTable) (tree : Tree) (it : PackageParts) (held : ArePartsOfTree letters tree it) where
  pub no_unkept_text : (found : List ℕ) → unkept_texts letters tree ≡ Ok found → (found ≡ []) ↔ (it.gives_back ≡ true)
  no_unkept_text found told =
      let parts = held.parts.parts in
      let reads : unkept_texts letters tree ≡ unkept_at parts.builder.page parts.builder.heads parts.data_bytes =
      ap (λ o. or_refused o NotFound >>= heads_in >>= λ pool. unkept_behind letters tree pool.0 pool.1) parts.pool_at
      ∙ ap (λ (r : Result Begun Error). ◌>>=◌ {A = CodePage × Heads} (r >>= λ b. Ok (b.page, b.heads)) (λ pool. unkept_behind letters tree pool.0 pool.1)) parts.begins
      ∙ ap (λ o. or_refused o NotFound >>= unkept_at parts.builder.page parts.builder.heads) parts.data_at in
      no_text parts.builder.page parts.builder.heads parts.data_bytes it.gives_back found held.parts.back (sym reads ∙ told)

  pub no_unkept_value : (found : List ℕ) → unkept_properties letters tree ≡ Ok found → (found ≡ []) ↔ (it.summary.whole ≡ true)
  no_unkept_value found told =
      let parts = held.parts.parts in
      let reads : unkept_properties letters tree ≡ unkept_values parts.summary_bytes = ap (λ o. or_refused o NotFound >>= unkept_values) parts.summary_at in
      let both = no_value parts.summary_bytes found (sym reads ∙ told) in
      (λ none. held.parts.whole ∙ both.0 none, λ all. both.1 (sym held.parts.whole ∙ all))
