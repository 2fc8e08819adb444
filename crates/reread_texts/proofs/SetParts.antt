-- Sets that can be read, part by part.
use Rattle.std.proofs.Common.{◌≡◌, ◌∙◌, ◌⊎◌, Bool, true, false, ℕ, ◌+◌, List, [], ◌∷◌, ◌++◌, cond, drop, take, length, Ok, Err, Result, inl, inr, map, refl, sym, ap, subst, append_assoc}
use Rattle.std.proofs.lemmas.List.{drop-drop}
use Rattle.std.specs.Prelude.{IfErr, IfOk, Vec, Option, Some, None, filter, if◌then◌else◌, nat_lt, not, ◌==◌, ◌||◌}
use Rattle.std.specs.declared.alloc.Global.{Global}
use Rattle.cfb_medium.specs.declared.error.Error.{Error}
use Rattle.cfb_medium.specs.declared.error.Error.TheVariants.{InvalidData, Memory, UnexpectedEof}
use Rattle.msi_pool.proofs.PoolHeads.{bind_cases, rest_of}
use Rattle.msi_pool.specs.PoolReading.{text_round_trips}
use Rattle.msi_props.specs.Props.{head_at, is_i1, page_at, properties_at, property_at, props_read, section_at, stored_props, system_of, property_round_trips as value_gives_back, Head, Property, Props}
use Rattle.msi_props.specs.Props as property
use Rattle.msi_texts.specs.Numbers.{le_number}
use Rattle.msi_texts.specs.Reading.{bytes_at, number_at}
use Rattle.msi_texts.specs.Results.{◌>>=◌, unless_not, ReturnsOrOutOfMemory}
use Rattle.msi_texts.specs.declared.codepage.CodePage.{CodePage}
use Rattle.reread_texts.specs.Sets.{text_in}

-- what is behind bytes that were taken
bytes_rest : (n : ℕ) (bytes : List ℕ) (x : List ℕ × List ℕ) → bytes_at n bytes ≡ Ok x → x.1 ≡ drop n bytes
bytes_rest n bytes x h = go (nat_lt (length bytes) n) h
  where
    front : Result (List ℕ × List ℕ) Error
    front = Ok (take n bytes, drop n bytes)

    go : (b : Bool) → cond b (Err UnexpectedEof) front ≡ Ok x → x.1 ≡ drop n bytes
    go true f = cc
    go false f = sym (ap rest_of f)

number_rest : (n : ℕ) (bytes : List ℕ) (x : ℕ × List ℕ) → number_at n bytes ≡ Ok x → x.1 ≡ drop n bytes
number_rest n bytes x h =
    let taken = bind_cases (bytes_at n bytes) (λ b. Ok (le_number b.0, b.1)) x h in
    sym (ap rest_of taken.2) ∙ bytes_rest n bytes taken.0 taken.1

-- further behind
behind : (m n : ℕ) (bytes between rest : List ℕ) → between ≡ drop m bytes → rest ≡ drop n between → rest ≡ drop (m + n) bytes
behind m n bytes between rest first second = second ∙ ap (drop n) first ∙ drop-drop n m bytes

-- the number that was read
abbrev number_of : Result (ℕ × List ℕ) Error → ℕ
number_of (Ok x) = x.0
number_of (Err e) = 0

abbrev offset_of : Result Head Error → ℕ
offset_of (Ok head) = head.offset
offset_of (Err e) = 0

abbrev page_of : CodePage → Result Props Error → CodePage
page_of other (Ok s) = s.page
page_of other (Err e) = other

abbrev pairs_of : Result (List (ℕ × ℕ)) Error → List (ℕ × ℕ)
pairs_of (Ok pairs) = pairs
pairs_of (Err e) = []

-- what is taken from the front of bytes, and what follows
taking : {B C : Type 0} (n at : ℕ) (all bytes : List ℕ) (f : ℕ × List ℕ → Result B Error) (y : B) → bytes ≡ drop at all → (number_at n bytes >>= f) ≡ Ok y
    → ((x : ℕ × List ℕ) → number_at n bytes ≡ Ok x → x.1 ≡ drop (at + n) all → f x ≡ Ok y → C) → C
taking n at all bytes f y is h next =
    let x = bind_cases (number_at n bytes) f y h in
    next x.0 x.1 (behind at n all bytes x.0.1 is (number_rest n bytes x.0 x.1)) x.2

taking_bytes : {B C : Type 0} (n at : ℕ) (all bytes : List ℕ) (f : List ℕ × List ℕ → Result B Error) (y : B) → bytes ≡ drop at all → (bytes_at n bytes >>= f) ≡ Ok y
    → ((x : List ℕ × List ℕ) → x.1 ≡ drop (at + n) all → f x ≡ Ok y → C) → C
taking_bytes n at all bytes f y is h next =
    let x = bind_cases (bytes_at n bytes) f y h in
    next x.0 (behind at n all bytes x.0.1 is (bytes_rest n bytes x.0 x.1)) x.2

passing : {A B C : Type 0} (r : Result A Error) (f : A → Result B Error) (y : B) → (r >>= f) ≡ Ok y → ((x : A) → f x ≡ Ok y → C) → C
passing r f y h next = let x = bind_cases r f y h in next x.0 x.2

-- the offset of the section stands behind 44 bytes
pub head_offset : (bytes : List ℕ) (head : Head) → head_at bytes ≡ Ok head → (rest : List ℕ) × (number_at 4 (drop 44 bytes) ≡ Ok (head.offset, rest))
head_offset bytes head h =
    taking 2 0 bytes bytes _ head refl h (λ mark m at2 h1.
    passing (unless_not (mark.0 == 0xFFFE) InvalidData) _ head h1 (λ marked h2.
    taking 2 2 bytes mark.1 _ head at2 h2 (λ version v at4 h3.
    passing (unless_not (nat_lt version.0 2) InvalidData) _ head h3 (λ known h4.
    taking 2 4 bytes version.1 _ head at4 h4 (λ system_version w at6 h5.
    taking 2 6 bytes system_version.1 _ head at6 h5 (λ number n at8 h6.
    passing (system_of number.0) _ head h6 (λ system h7.
    taking_bytes 16 8 bytes number.1 _ head at8 h7 (λ own at24 h8.
    taking 4 24 bytes own.1 _ head at24 h8 (λ sections s at28 h9.
    passing (unless_not (nat_lt 0 sections.0) InvalidData) _ head h9 (λ there h10.
    taking_bytes 16 28 bytes sections.1 _ head at28 h10 (λ format at44 h11.
    taking 4 44 bytes format.1 _ head at44 h11 (λ offset o at48 h12.
    (offset.1, subst (λ b. number_at 4 b ≡ Ok (head.offset, offset.1)) at44 (o ∙ ap (λ n. Ok (n, offset.1)) (ap offset_of h12)))))))))))))))

-- the number that stands there is the offset
pub same_offset : (bytes front rest : List ℕ) (offset : ℕ) (head : Head) → head_at bytes ≡ Ok head → front ≡ drop 44 bytes → number_at 4 front ≡ Ok (offset, rest) → offset ≡ head.offset
same_offset bytes front rest offset head begins at reads =
    let found = head_offset bytes head begins in
    ap number_of (sym reads ∙ ap (number_at 4) at ∙ found.1)

pub no_offset : (bytes front : List ℕ) (e : Error) (head : Head) → head_at bytes ≡ Ok head → front ≡ drop 44 bytes → number_at 4 front ≡ Err e → ⊥
no_offset bytes front e head begins at reads =
    let found = head_offset bytes head begins in
    let clash : ◌≡◌ {A = Result (ℕ × List ℕ) Error} (Err e) (Ok (head.offset, found.0)) = sym reads ∙ ap (number_at 4) at ∙ found.1 in
    cc
