-- A written set is read as it was.
use Rattle.std.proofs.Common.{◌≡◌, ℕ, ◌+◌, ◌<◌, ◌^◌, Bool, false, true, List, [], ◌∷◌, ◌++◌, length, drop, map, Option, Some, None, Ok, refl, ap, sym, subst, ◌∙◌, arith, append_assoc, append-nil, length-append}
use Rattle.std.specs.Prelude.{nat_lt, not, ◌==◌, ◌||◌, option_map, find}
use Rattle.std.specs.List.{AllByRecursion, flat_map}
use Rattle.std.specs.Prelude.{Result}
use Rattle.std.specs.Map.{lookup}
use Rattle.std.specs.Option.{is_some}
use Rattle.std.specs.BTreeMap.{insert_entry, is_at}
use Rattle.std.specs.Ordering.{nat_cmp}
use Rattle.std.specs.declared.cmp.Ordering.TheVariants.{Greater}
use Rattle.std.proofs.Math.Seq.{drop-append_seam}
use Rattle.std.proofs.lemmas.Bool.Decides.{nat_tests}
use Rattle.msi_texts.specs.Numbers.{le_bytes}
use Rattle.msi_texts.specs.declared.codepage.CodePage.{CodePage}
use Rattle.msi_texts.specs.declared.codepage.CodePage.TheVariants as page
use Rattle.msi_texts.specs.Results.{or_refused}
use Rattle.cfb_medium.specs.declared.error.Error.{Error}
use Rattle.cfb_medium.specs.declared.error.Error.TheVariants.{InvalidData}
use Rattle.msi_props.specs.Kept.{IsKeptValue, Rise}
use Rattle.msi_props.specs.Props.{Property, is_i1, offsets_from, page_in, page_stored, page_told, value_of, pairs_at, properties_at, property_bytes}
use Rattle.msi_props.specs.Props as property
use Rattle.msi_props.proofs.Fronts.{held, number_front, value_front}
use Rattle.msi_props.proofs.Pairs.{next_pair}

Pairs : Type 0
Pairs = List (ℕ × ℕ)

-- behind pairs of smaller numbers a pair comes last, and its number is new
added : (acc : List (ℕ × ℕ)) (n o : ℕ) → AllByRecursion (λ e. e.0 < n) acc → insert_entry nat_cmp acc n o ≡ acc ++ ((n, o) ∷ [])
added [] n o below = refl
added (e ∷ acc) n o below =
    let greater : nat_cmp n e.0 ≡ Greater = grind (arith, nat_tests, below.0) in
    rw greater (ap (λ es. e ∷ es) (added acc n o below.1))

new : (acc : List (ℕ × ℕ)) (n : ℕ) → AllByRecursion (λ e. e.0 < n) acc → is_some (lookup (is_at (nat_cmp n)) acc) ≡ false
new [] n below = refl
new (e ∷ acc) n below =
    let greater : nat_cmp n e.0 ≡ Greater = grind (arith, nat_tests, below.0) in
    rw greater (new acc n below.1)

-- the pairs of values from an offset on
abbrev pub pairs_from : CodePage → ℕ → List (ℕ × Property) → List (ℕ × ℕ)
pairs_from p at [] = []
pairs_from p at (v ∷ vs) = (v.0, at) ∷ pairs_from p (at + length (property_bytes p v.1)) vs

abbrev pub bodies : CodePage → List (ℕ × Property) → List ℕ
bodies p vs = flat_map (λ v. property_bytes p v.1) vs

-- each pair stands before each value
abbrev AreBefore : List (ℕ × ℕ) → List (ℕ × Property) → Type 0
AreBefore acc vs = AllByRecursion (λ (v : ℕ × Property). AllByRecursion (λ (e : ℕ × ℕ). e.0 < v.0) acc) vs

-- one more pair stands before what is behind it
still_before : (acc : List (ℕ × ℕ)) (n o : ℕ) (vs : List (ℕ × Property)) → AreBefore acc vs → AllByRecursion (λ w. n < w.0) vs → AreBefore (acc ++ ((n, o) ∷ [])) vs
still_before acc n o [] before less = tt
still_before acc n o (v ∷ vs) before less = (one acc before.0, still_before acc n o vs before.1 less.1)
  where
    one : (acc : List (ℕ × ℕ)) → AllByRecursion (λ (e : ℕ × ℕ). e.0 < v.0) acc → AllByRecursion (λ (e : ℕ × ℕ). e.0 < v.0) (acc ++ ((n, o) ∷ []))
    one [] below = (less.0, tt)
    one (e ∷ es) below = (below.0, one es below.1)

pub pairs_read : (p : CodePage) (at : ℕ) (vs : List (ℕ × Property)) (acc : List (ℕ × ℕ)) (rest : List ℕ) → Rise vs → AllByRecursion (λ v. v.0 < 2 ^ 32) vs → at + length (bodies p vs) < 2 ^ 32
    → AreBefore acc vs → pairs_at (length vs) (offsets_from p at vs ++ rest) acc ≡ Ok (acc ++ pairs_from p at vs)
pairs_read p at [] acc rest rise numbers short before = ap Ok (sym (append-nil acc))
pairs_read p at (v ∷ vs) acc rest rise numbers short before =
    let further = at + length (property_bytes p v.1) in
    let behind = offsets_from p further vs ++ rest in
    let size : length (bodies p (v ∷ vs)) ≡ length (property_bytes p v.1) + length (bodies p vs) = length-append (property_bytes p v.1) (bodies p vs) in
    let number = number_front 4 v.0 (le_bytes 4 at ++ behind) numbers.0 in
    let offset = number_front 4 at behind (omega (arith, short)) in
    let more = pairs_read p further vs (acc ++ ((v.0, at) ∷ [])) rest rise.1 numbers.1 (omega (arith, short, size)) (still_before acc v.0 at vs before.1 rise.0) in
    let step = next_pair (length vs) (le_bytes 4 v.0 ++ (le_bytes 4 at ++ behind)) acc v.0 (le_bytes 4 at ++ behind) number at behind offset (new acc v.0 before.0) in
    step ∙ ap (pairs_at (length vs) behind) (added acc v.0 at before.0) ∙ more ∙ ap Ok (append_assoc acc ((v.0, at) ∷ []) (pairs_from p further vs))

regroup : (a b c d : List ℕ) → a ++ ((b ++ c) ++ d) ≡ (a ++ b) ++ (c ++ d)
regroup a b c d = simp append_assoc

is_i1_held : (p : CodePage) (v : Property) → is_i1 (held p v) ≡ is_i1 v
is_i1_held p (property.text t) = refl
is_i1_held p _ = refl

-- the values are read where they stand
pub values_read : (p : CodePage) (version at : ℕ) (vs : List (ℕ × Property)) (front rest section : List ℕ) → section ≡ front ++ (bodies p vs ++ rest) → length front ≡ at
    → AllByRecursion (λ v. IsKeptValue p v.1) vs → AllByRecursion (λ v. (nat_lt 0 version || not (is_i1 v.1)) ≡ true) vs → at + length (bodies p vs) < 2 ^ 32
    → properties_at version section (pairs_from p at vs) ≡ Ok (map (λ v. (v.0, held p v.1)) vs)
values_read p version at [] front rest section is long kept allowed short = refl
values_read p version at (v ∷ vs) front rest section is long kept allowed short =
    let body = property_bytes p v.1 in
    let size : length (bodies p (v ∷ vs)) ≡ length body + length (bodies p vs) = length-append body (bodies p vs) in
    let here : drop at section ≡ body ++ (bodies p vs ++ rest) =
    ap (drop at) is ∙ subst (λ n. drop n (front ++ (bodies p (v ∷ vs) ++ rest)) ≡ bodies p (v ∷ vs) ++ rest) long (drop-append_seam front (bodies p (v ∷ vs) ++ rest)) ∙ append_assoc body (bodies p vs) rest in
    let value = value_front p v.1 (bodies p vs ++ rest) kept.0 (omega (arith, short, size)) in
    let same : is_i1 (held p v.1) ≡ is_i1 v.1 = is_i1_held p v.1 in
    let further : section ≡ (front ++ body) ++ (bodies p vs ++ rest) = is ∙ regroup front body (bodies p vs) rest in
    let more = values_read p version (at + length body) vs (front ++ body) rest section further (length-append front body ∙ ap (λ n. n + length body) long) kept.1 allowed.1 (omega (arith, short, size)) in
    rw (here, value, same, allowed.0, more)

-- the page that the value of property 1 tells
abbrev pub page_of_value : Option Property → Result CodePage Error
page_of_value None = Ok page.Utf8
page_of_value (Some v) = or_refused (page_in v) InvalidData

page_in_held : (p : CodePage) (v : Property) → page_in (held p v) ≡ page_in v
page_in_held p (property.text t) = refl
page_in_held p _ = refl

-- the page is told where property 1 stands
pub page_found : (p : CodePage) (at : ℕ) (vs : List (ℕ × Property)) (front rest section : List ℕ) → section ≡ front ++ (bodies p vs ++ rest) → length front ≡ at
    → AllByRecursion (λ v. IsKeptValue p v.1) vs → at + length (bodies p vs) < 2 ^ 32
    → page_told section (option_map (λ q. q.1) (find (λ q. q.0 == 1) (pairs_from p at vs))) ≡ page_of_value (value_of 1 vs)
page_found p at [] front rest section is long kept short = refl
page_found p at (v ∷ vs) front rest section is long kept short =
    let body = property_bytes p v.1 in
    let size : length (bodies p (v ∷ vs)) ≡ length body + length (bodies p vs) = length-append body (bodies p vs) in
    let here : drop at section ≡ body ++ (bodies p vs ++ rest) =
    ap (drop at) is ∙ subst (λ n. drop n (front ++ (bodies p (v ∷ vs) ++ rest)) ≡ bodies p (v ∷ vs) ++ rest) long (drop-append_seam front (bodies p (v ∷ vs) ++ rest)) ∙ append_assoc body (bodies p vs) rest in
    let value = value_front p v.1 (bodies p vs ++ rest) kept.0 (omega (arith, short, size)) in
    let told : page_stored (drop at section) ≡ or_refused (page_in v.1) InvalidData = rw (here, value, page_in_held p v.1) in
    let further : section ≡ (front ++ body) ++ (bodies p vs ++ rest) = is ∙ regroup front body (bodies p vs) rest in
    let more = page_found p (at + length body) vs (front ++ body) rest section further (length-append front body ∙ ap (λ n. n + length body) long) kept.1 (omega (arith, short, size)) in
    first_or_more (v.0 == 1) refl told more
  where
    first_or_more : (b : Bool) → (v.0 == 1) ≡ b → page_stored (drop at section) ≡ or_refused (page_in v.1) InvalidData
        → page_told section (option_map (λ q. q.1) (find (λ q. q.0 == 1) (pairs_from p (at + length (property_bytes p v.1)) vs))) ≡ page_of_value (value_of 1 vs)
        → page_told section (option_map (λ q. q.1) (find (λ q. q.0 == 1) (pairs_from p at (v ∷ vs)))) ≡ page_of_value (value_of 1 (v ∷ vs))
    first_or_more true same told more = rw same told
    first_or_more false other told more = rw other more
