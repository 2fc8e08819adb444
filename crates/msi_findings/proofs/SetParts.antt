-- Sets that can be read, part by part.
use Rattle.std.proofs.Common.{◌≡◌, ◌∙◌, ◌⊎◌, Bool, true, false, ℕ, ◌+◌, List, [], ◌∷◌, ◌++◌, cond, drop, take, length, Ok, Err, Result, inl, inr, map, refl, sym, ap, subst, append_assoc}
use Rattle.std.proofs.lemmas.List.{drop-drop}
use Rattle.std.specs.Prelude.{IfErr, IfOk, Vec, Option, Some, None, filter, if◌then◌else◌, nat_lt, not, ◌==◌, ◌||◌}
use Rattle.std.specs.declared.alloc.Global.{Global}
use Rattle.cfb_medium.specs.declared.error.Error.{Error}
use Rattle.cfb_medium.specs.declared.error.Error.TheVariants.{InvalidData, Memory, UnexpectedEof}
use Rattle.msi_pool.proofs.PoolHeads.{bind_cases, rest_of}
use Rattle.msi_pool.specs.PoolReading.{text_round_trips}
use Rattle.msi_props.specs.Props.{head_at, is_i1, page_at, properties_at, property_at, props_read, section_at, stored_props, system_of, property_round_trips as value_gives_back, Head, Property, Props}
use Rattle.msi_props.specs.Props as property
use Rattle.msi_texts.specs.Numbers.{le_number}
use Rattle.msi_texts.specs.Reading.{bytes_at, number_at}
use Rattle.msi_texts.specs.Results.{◌>>=◌, unless_not, ReturnsOrOutOfMemory}
use Rattle.msi_texts.specs.declared.codepage.CodePage.{CodePage}
use Rattle.msi_findings.specs.Unkept.{text_in, unkept_numbers, unkept_value, unkept_values}

-- what is behind bytes that were taken
bytes_rest : (n : ℕ) (bytes : List ℕ) (x : List ℕ × List ℕ) → bytes_at n bytes ≡ Ok x → x.1 ≡ drop n bytes
bytes_rest n bytes x h = go (nat_lt (length bytes) n) h
  where
    front : Result (List ℕ × List ℕ) Error
    front = Ok (take n bytes, drop n bytes)

    go : (b : Bool) → cond b (Err UnexpectedEof) front ≡ Ok x → x.1 ≡ drop n bytes
    go true f = cc
    go false f = sym (ap rest_of f)

number_rest : (n : ℕ) (bytes : List ℕ) (x : ℕ × List ℕ) → number_at n bytes ≡ Ok x → x.1 ≡ drop n bytes
number_rest n bytes x h =
    let taken = bind_cases (bytes_at n bytes) (λ b. Ok (le_number b.0, b.1)) x h in
    sym (ap rest_of taken.2) ∙ bytes_rest n bytes taken.0 taken.1

-- further behind
behind : (m n : ℕ) (bytes between rest : List ℕ) → between ≡ drop m bytes → rest ≡ drop n between → rest ≡ drop (m + n) bytes
behind m n bytes between rest first second = second ∙ ap (drop n) first ∙ drop-drop n m bytes

-- the number that was read
abbrev number_of : Result (ℕ × List ℕ) Error → ℕ
number_of (Ok x) = x.0
number_of (Err e) = 0

abbrev offset_of : Result Head Error → ℕ
offset_of (Ok head) = head.offset
offset_of (Err e) = 0

abbrev page_of : CodePage → Result Props Error → CodePage
page_of other (Ok s) = s.page
page_of other (Err e) = other

abbrev pairs_of : Result (List (ℕ × ℕ)) Error → List (ℕ × ℕ)
pairs_of (Ok pairs) = pairs
pairs_of (Err e) = []

-- what is taken from the front of bytes, and what follows
taking : {B C : Type 0} (n at : ℕ) (all bytes : List ℕ) (f : ℕ × List ℕ → Result B Error) (y : B) → bytes ≡ drop at all → (number_at n bytes >>= f) ≡ Ok y
    → ((x : ℕ × List ℕ) → number_at n bytes ≡ Ok x → x.1 ≡ drop (at + n) all → f x ≡ Ok y → C) → C
taking n at all bytes f y is h next =
    let x = bind_cases (number_at n bytes) f y h in
    next x.0 x.1 (behind at n all bytes x.0.1 is (number_rest n bytes x.0 x.1)) x.2

taking_bytes : {B C : Type 0} (n at : ℕ) (all bytes : List ℕ) (f : List ℕ × List ℕ → Result B Error) (y : B) → bytes ≡ drop at all → (bytes_at n bytes >>= f) ≡ Ok y
    → ((x : List ℕ × List ℕ) → x.1 ≡ drop (at + n) all → f x ≡ Ok y → C) → C
taking_bytes n at all bytes f y is h next =
    let x = bind_cases (bytes_at n bytes) f y h in
    next x.0 (behind at n all bytes x.0.1 is (bytes_rest n bytes x.0 x.1)) x.2

passing : {A B C : Type 0} (r : Result A Error) (f : A → Result B Error) (y : B) → (r >>= f) ≡ Ok y → ((x : A) → f x ≡ Ok y → C) → C
passing r f y h next = let x = bind_cases r f y h in next x.0 x.2

-- the offset of the section stands behind 44 bytes
pub head_offset : (bytes : List ℕ) (head : Head) → head_at bytes ≡ Ok head → (rest : List ℕ) × (number_at 4 (drop 44 bytes) ≡ Ok (head.offset, rest))
head_offset bytes head h =
    taking 2 0 bytes bytes _ head refl h (λ mark m at2 h1.
    passing (unless_not (mark.0 == 0xFFFE) InvalidData) _ head h1 (λ marked h2.
    taking 2 2 bytes mark.1 _ head at2 h2 (λ version v at4 h3.
    passing (unless_not (nat_lt version.0 2) InvalidData) _ head h3 (λ known h4.
    taking 2 4 bytes version.1 _ head at4 h4 (λ system_version w at6 h5.
    taking 2 6 bytes system_version.1 _ head at6 h5 (λ number n at8 h6.
    passing (system_of number.0) _ head h6 (λ system h7.
    taking_bytes 16 8 bytes number.1 _ head at8 h7 (λ own at24 h8.
    taking 4 24 bytes own.1 _ head at24 h8 (λ sections s at28 h9.
    passing (unless_not (nat_lt 0 sections.0) InvalidData) _ head h9 (λ there h10.
    taking_bytes 16 28 bytes sections.1 _ head at28 h10 (λ format at44 h11.
    taking 4 44 bytes format.1 _ head at44 h11 (λ offset o at48 h12.
    (offset.1, subst (λ b. number_at 4 b ≡ Ok (head.offset, offset.1)) at44 (o ∙ ap (λ n. Ok (n, offset.1)) (ap offset_of h12)))))))))))))))

-- the number that stands there is the offset
pub same_offset : (bytes front rest : List ℕ) (offset : ℕ) (head : Head) → head_at bytes ≡ Ok head → front ≡ drop 44 bytes → number_at 4 front ≡ Ok (offset, rest) → offset ≡ head.offset
same_offset bytes front rest offset head begins at reads =
    let found = head_offset bytes head begins in
    ap number_of (sym reads ∙ ap (number_at 4) at ∙ found.1)

pub no_offset : (bytes front : List ℕ) (e : Error) (head : Head) → head_at bytes ≡ Ok head → front ≡ drop 44 bytes → number_at 4 front ≡ Err e → ⊥
no_offset bytes front e head begins at reads =
    let found = head_offset bytes head begins in
    let clash : ◌≡◌ {A = Result (ℕ × List ℕ) Error} (Err e) (Ok (head.offset, found.0)) = sym reads ∙ ap (number_at 4) at ∙ found.1 in
    cc

-- a value that is a text is kept where its bytes are, and any other is
pub kept_text : (page : CodePage) (v : Property) (bytes : List ℕ) (r : Result Bool Error) → Some bytes ≡ text_in v → IfOk r (λ is. is ≡ text_round_trips page bytes) → IfOk r (λ is. is ≡ value_gives_back page v)
kept_text page (property.text t) bytes (Ok b) same is = is ∙ ap (text_round_trips page) (text_is bytes t same)
  where
    own : List ℕ → Option (List ℕ) → List ℕ
    own old (Some x) = x
    own old None = old

    text_is : (a b : List ℕ) → Some a ≡ Some b → a ≡ b
    text_is a b s = ap (own []) s
kept_text page v bytes (Err e) same is = tt
kept_text page property.empty bytes (Ok b) same is = cc
kept_text page property.null bytes (Ok b) same is = cc
kept_text page (property.i1 z) bytes (Ok b) same is = cc
kept_text page (property.i2 z) bytes (Ok b) same is = cc
kept_text page (property.i4 z) bytes (Ok b) same is = cc
kept_text page (property.time n) bytes (Ok b) same is = cc

pub kept_other : (page : CodePage) (v : Property) → None ≡ text_in v → true ≡ value_gives_back page v
kept_other page (property.text t) same = cc
kept_other page property.empty same = refl
kept_other page property.null same = refl
kept_other page (property.i1 z) same = refl
kept_other page (property.i2 z) same = refl
kept_other page (property.i4 z) same = refl
kept_other page (property.time n) same = refl

-- one that is kept or not, before the others
one_before : (page : CodePage) (n : ℕ) (v : Property) (vs : List (ℕ × Property)) → unkept_value page n v ++ unkept_numbers page vs ≡ unkept_numbers page ((n, v) ∷ vs)
one_before page n v vs = by_test (value_gives_back page v)
  where
    by_test : (b : Bool) → (if b then [] else (n ∷ [])) ++ unkept_numbers page vs
        ≡ map (λ (v : ℕ × Property). v.0) (cond (not b) ((n, v) ∷ filter (λ v. not (value_gives_back page v.1)) vs) (filter (λ v. not (value_gives_back page v.1)) vs))
    by_test true = refl
    by_test false = refl

abbrev values_of : Result (List (ℕ × Property)) Error → List (ℕ × Property)
values_of (Ok values) = values
values_of (Err e) = []

-- those so far, with one more, and those to come
pub kept_more : (page : CodePage) (version : ℕ) (section : List ℕ) (q : ℕ × ℕ) (here qs : List (ℕ × ℕ)) (old new all : List ℕ) (more : List (ℕ × Property))
    → here ≡ q ∷ qs → properties_at version section here ≡ Ok more → old ++ unkept_numbers page more ≡ all
    → ((v : Property) → property_at (drop q.1 section) ≡ Ok v → new ≡ old ++ unkept_value page q.0 v)
    → (x : List (ℕ × Property)) × (properties_at version section qs ≡ Ok x) × (new ++ unkept_numbers page x ≡ all)
kept_more page version section q here qs old new all more is reads so_far step =
    let read : properties_at version section (q ∷ qs) ≡ Ok more = ap (properties_at version section) (sym is) ∙ reads in
    let v = bind_cases (property_at (drop q.1 section)) _ more read in
    let may = bind_cases (unless_not (nat_lt 0 version || not (is_i1 v.0)) InvalidData) _ more v.2 in
    let rest = bind_cases (properties_at version section qs) _ more may.2 in
    let joined : (q.0, v.0) ∷ rest.0 ≡ more = ap values_of rest.2 in (
      rest.0,
      rest.1,
      ap (λ b. b ++ unkept_numbers page rest.0) (step v.0 v.1)
          ∙ append_assoc old (unkept_value page q.0 v.0) (unkept_numbers page rest.0)
          ∙ ap (λ b. old ++ b) (one_before page q.0 v.0 rest.0 ∙ ap (unkept_numbers page) joined)
          ∙ so_far,
    )

-- the parts of a set that can be read
record HasParts (bytes : List ℕ) (s : Props) : Type 0 where
  head : Head
  begins : head_at bytes ≡ Ok head
  pairs : List (ℕ × ℕ)
  section : section_at (drop head.offset bytes) ≡ Ok pairs
  values : properties_at head.version (drop head.offset bytes) pairs ≡ Ok s.values

parts_so : (bytes : List ℕ) (s : Props) → stored_props bytes ≡ Ok s → HasParts bytes s
parts_so bytes s h =
    let head = bind_cases (head_at bytes) _ s h in
    let pairs = bind_cases (section_at (drop head.0.offset bytes)) _ s head.2 in
    let page = bind_cases (page_at (drop head.0.offset bytes) pairs.0) _ s pairs.2 in
    let values = bind_cases (properties_at head.0.version (drop head.0.offset bytes) pairs.0) _ s page.2 in
    record { head = head.0; begins = head.1; pairs = pairs.0; section = pairs.1; values = values.1 ∙ ap (λ r. r >>= λ s. Ok s.values) values.2 }

-- what is told of a set that was read, by what stands in its section
module _ (bytes section : List ℕ) (P : Props) (read : props_read bytes ≡ Ok P) (at : (head : Head) → head_at bytes ≡ Ok head → section ≡ drop head.offset bytes) where
  stored_so : (s : Props) × (stored_props bytes ≡ Ok s) × (s.page ≡ P.page)
  stored_so =
      let s = bind_cases (stored_props bytes) _ P read in
      (s.0, s.1, ap (page_of P.page) s.2)

  pub section_read : (e : Error) → (e ≡ Memory) ⊎ (section_at section ≡ Err e) → e ≡ Memory
  section_read e (inl memory) = memory
  section_read e (inr refused) =
      let parts = parts_so bytes stored_so.0 stored_so.1 in
      let clash : Err e ≡ Ok parts.pairs = sym refused ∙ ap section_at (at parts.head parts.begins) ∙ parts.section in
      absurd (cc)

  pub unkept_so : (pairs : List (ℕ × ℕ)) → section_at section ≡ Ok pairs → (r : Result (Vec ℕ Global) Error)
      → ((version : ℕ) (values : List (ℕ × Property)) → properties_at version section pairs ≡ Ok values → IfOk r (λ found. found.items ≡ unkept_numbers P.page values))
      → IfErr r (λ e. e ≡ Memory) → ReturnsOrOutOfMemory (λ found. found.items) r (unkept_values bytes)
  unkept_so pairs stands (Err e) told memory = inl memory
  unkept_so pairs stands (Ok found) told memory =
      let s = stored_so in
      let parts = parts_so bytes s.0 s.1 in
      let same : pairs ≡ parts.pairs = ap pairs_of (sym stands ∙ ap section_at (at parts.head parts.begins) ∙ parts.section) in
      let values : properties_at parts.head.version section pairs ≡ Ok s.0.values =
      ap (λ b. properties_at parts.head.version b pairs) (at parts.head parts.begins) ∙ ap (properties_at parts.head.version (drop parts.head.offset bytes)) same ∙ parts.values in
      ap (λ r. r >>= λ s. Ok (unkept_numbers s.page s.values)) s.1 ∙ ap Ok (ap (λ p. unkept_numbers p s.0.values) s.2 ∙ sym (told parts.head.version s.0.values values))
