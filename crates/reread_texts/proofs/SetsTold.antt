-- A set that was read, and what is written of it.
use Rattle.std.proofs.Common.{◌≡◌, ◌∙◌, ◌⊎◌, Bool, true, false, ℕ, List, [], ◌∷◌, ◌++◌, drop, map, Ok, Err, Result, inl, inr, refl, sym, ap, subst}
use Rattle.std.specs.Prelude.{◌==◌, IsTrue, cond, filter, not}
use Rattle.cfb_medium.specs.declared.error.Error.{Error}
use Rattle.cfb_medium.specs.declared.error.Error.TheVariants.{InvalidInput, Memory}
use Rattle.msi_pool.proofs.PoolHeads.{bind_cases}
use Rattle.msi_props.specs.Props.{head_at, is_in_size, page_at, properties_at, property_removed, props_bytes, props_read, read_under, section_at, stored_props, under, with_page, without_property, Head, Property, Props}
use Rattle.msi_texts.specs.Results.{◌>>=◌, unless_not}
use Rattle.msi_texts.specs.declared.codepage.CodePage.{CodePage}
use Rattle.msi_texts.specs.declared.codepage.CodePage.TheVariants.{Utf8}
use Rattle.reread_texts.specs.Sets.{lacking_values, set_by, set_reread, values_by, values_under, Rewritten}
use Rattle.reread_texts.specs.declared.page.TextPage.{TextPage}

-- the parts of a set that can be read
record HasParts (bytes : List ℕ) (s : Props) : Type 0 where
  head : Head
  begins : head_at bytes ≡ Ok head
  pairs : List (ℕ × ℕ)
  section : section_at (drop head.offset bytes) ≡ Ok pairs
  values : properties_at head.version (drop head.offset bytes) pairs ≡ Ok s.values

parts_so : (bytes : List ℕ) (s : Props) → stored_props bytes ≡ Ok s → HasParts bytes s
parts_so bytes s h =
    let head = bind_cases (head_at bytes) _ s h in
    let pairs = bind_cases (section_at (drop head.0.offset bytes)) _ s head.2 in
    let page = bind_cases (page_at (drop head.0.offset bytes) pairs.0) _ s pairs.2 in
    let values = bind_cases (properties_at head.0.version (drop head.0.offset bytes) pairs.0) _ s page.2 in
    record { head = head.0; begins = head.1; pairs = pairs.0; section = pairs.1; values = values.1 ∙ ap (λ r. r >>= λ s. Ok s.values) values.2 }

abbrev pairs_of : Result (List (ℕ × ℕ)) Error → List (ℕ × ℕ)
pairs_of (Ok pairs) = pairs
pairs_of (Err e) = []

abbrev set_of : Props → Result Props Error → Props
set_of other (Ok s) = s
set_of other (Err e) = other

-- what can't be read as a set
pub not_read : (p : TextPage) (bytes : List ℕ) (e : Error) → props_read bytes ≡ Err e → set_reread p bytes ≡ Err e
not_read p bytes e refused = go (stored_props bytes) refl refused
  where
    error_of : Result Props Error → Error
    error_of (Ok s) = e
    error_of (Err f) = f

    go : (r : Result Props Error) → stored_props bytes ≡ r → (r >>= λ s. Ok (read_under s)) ≡ Err e → set_reread p bytes ≡ Err e
    go (Ok s) is h = cc
    go (Err f) is h = rw is (ap Err (ap error_of h))

pub not_read_so : (p : TextPage) (bytes : List ℕ) (e : Error) → (e ≡ Memory) ⊎ (props_read bytes ≡ Err e) → (e ≡ Memory) ⊎ (set_reread p bytes ≡ Err e)
not_read_so p bytes e (inl memory) = inl memory
not_read_so p bytes e (inr refused) = inr (not_read p bytes e refused)

-- the values of a set are put without property 1 before or after they are read
put_aside : (q : CodePage) (vs : List (ℕ × Property)) → property_removed 1 (map (λ v. (v.0, under q v.1)) vs) ≡ values_under q vs
put_aside q [] = refl
put_aside q (v ∷ vs) = go (v.0 == 1) refl (put_aside q vs)
  where
    go : (b : Bool) → (v.0 == 1) ≡ b → property_removed 1 (map (λ v. (v.0, under q v.1)) vs) ≡ values_under q vs → property_removed 1 (map (λ v. (v.0, under q v.1)) (v ∷ vs)) ≡ values_under q (v ∷ vs)
    go true is rest = rw is rest
    go false is rest = rw is (ap (λ xs. (v.0, under q v.1) ∷ xs) rest)

-- what is written where it can be
written_if : (b : Bool) (x : Rewritten) → IsTrue b → (unless_not b InvalidInput >>= λ _. Ok x) ≡ Ok x
written_if true x h = refl
written_if false x h = cc

-- a set that was read, and that got its texts
module _ (bytes section : List ℕ) (P : Props) (read : props_read bytes ≡ Ok P) (at : (head : Head) → head_at bytes ≡ Ok head → section ≡ drop head.offset bytes) where
  stored_so : (s : Props) × (stored_props bytes ≡ Ok s) × (P ≡ read_under s)
  stored_so =
      let s = bind_cases (stored_props bytes) (λ s. Ok (read_under s)) P read in
      (s.0, s.1, sym (ap (set_of P) s.2))

  pub section_read : (e : Error) → (e ≡ Memory) ⊎ (section_at section ≡ Err e) → e ≡ Memory
  section_read e (inl memory) = memory
  section_read e (inr refused) =
      let parts = parts_so bytes stored_so.0 stored_so.1 in
      let clash : Err e ≡ Ok parts.pairs = sym refused ∙ ap section_at (at parts.head parts.begins) ∙ parts.section in
      absurd (cc)

  module _ (p : TextPage) (pairs : List (ℕ × ℕ)) (stands : section_at section ≡ Ok pairs) (S0 S1 S2 : Props) (lacked lacking : List ℕ) (empty : lacked ≡ [])
      (aside : S0 ≡ without_property 1 P)
      (gives : (version : ℕ) (values : List (ℕ × Property)) (q : CodePage) → properties_at version section pairs ≡ Ok values → S0.values ≡ values_under q values → S1 ≡ record S0 { values = values_by p values })
      (lacks : (version : ℕ) (values : List (ℕ × Property)) (q : CodePage) → properties_at version section pairs ≡ Ok values → S0.values ≡ values_under q values → lacking ≡ lacked ++ lacking_values p values)
      (last : S2 ≡ with_page Utf8 S1) where
    values_read : (version : ℕ) × (properties_at version section pairs ≡ Ok stored_so.0.values)
    values_read =
        let s = stored_so in
        let parts = parts_so bytes s.0 s.1 in
        let same : pairs ≡ parts.pairs = ap pairs_of (sym stands ∙ ap section_at (at parts.head parts.begins) ∙ parts.section) in
        (parts.head.version, ap (λ b. properties_at parts.head.version b pairs) (at parts.head parts.begins) ∙ ap (properties_at parts.head.version (drop parts.head.offset bytes)) same ∙ parts.values)

    put_so : S0.values ≡ values_under stored_so.0.page stored_so.0.values
    put_so = ap (λ (s : Props). s.values) aside ∙ ap (λ (s : Props). property_removed 1 s.values) stored_so.2 ∙ put_aside stored_so.0.page stored_so.0.values

    set_so : S2 ≡ set_by p stored_so.0
    set_so =
        last ∙ ap (with_page Utf8) (gives values_read.0 stored_so.0.values stored_so.0.page values_read.1 put_so)
        ∙ ap (λ (s : Props). with_page Utf8 (record s { values = values_by p stored_so.0.values })) (aside ∙ ap (without_property 1) stored_so.2)

    lacking_so : lacking ≡ lacking_values p stored_so.0.values
    lacking_so = lacks values_read.0 stored_so.0.values stored_so.0.page values_read.1 put_so ∙ ap (λ l. l ++ lacking_values p stored_so.0.values) empty

    sections_so : S1.sections ≡ stored_so.0.sections
    sections_so = ap (λ (s : Props). s.sections) (gives values_read.0 stored_so.0.values stored_so.0.page values_read.1 put_so) ∙ ap (λ (s : Props). s.sections) (aside ∙ ap (without_property 1) stored_so.2)

    pub told : (written : List ℕ) (sections : ℕ) → sections ≡ S1.sections → IsTrue (is_in_size S2) → written ≡ props_bytes S2 → set_reread p bytes ≡ Ok (written, lacking, sections)
    told written sections count size bytes_are =
        let s = stored_so.0 in
        let fits : IsTrue (is_in_size (set_by p s)) = subst (λ (x : Props). IsTrue (is_in_size x)) set_so size in
        let all : Rewritten = (props_bytes (set_by p s), lacking_values p s.values, s.sections) in
        let step : set_reread p bytes ≡ Ok all = rw stored_so.1 (written_if (is_in_size (set_by p s)) all fits) in
        step ∙ ap (λ b. Ok (b, lacking_values p s.values, s.sections)) (sym (bytes_are ∙ ap props_bytes set_so))
        ∙ ap (λ l. Ok (written, l, s.sections)) (sym lacking_so) ∙ ap (λ n. Ok (written, lacking, n)) (sym (count ∙ sections_so))

    pub too_long : is_in_size S2 ≡ false → set_reread p bytes ≡ Err InvalidInput
    too_long over =
        let s = stored_so.0 in
        let beyond : is_in_size (set_by p s) ≡ false = ap is_in_size (sym set_so) ∙ over in
        rw stored_so.1 (rw beyond refl)

    pub write_refused : (e : Error) → (e ≡ Memory) ⊎ ((e ≡ InvalidInput) × (is_in_size S2 ≡ false)) → (e ≡ Memory) ⊎ (set_reread p bytes ≡ Err e)
    write_refused e (inl memory) = inl memory
    write_refused e (inr refused) = inr (too_long refused.1 ∙ ap Err (sym refused.0))
