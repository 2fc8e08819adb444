-- Paths, one part at a time.
use Rattle.std.proofs.Common.{true, false, length, take, None, Option, arith, ◌≡◌, ℕ, ◌==◌, cond, List, [], ◌∷◌, ◌++◌, map, Some, refl, ap, ◌∙◌}
use Rattle.std.specs.Prelude.{is_some}
use Rattle.std.specs.Option.{option_to_list}
use Rattle.std.proofs.Math.Seq.{take-append_seam}
use Rattle.std.proofs.lemmas.List.{length_push, map-append}
use Rattle.std.specs.List.{slice_split, onto_first}
use Rattle.cfb_tree.specs.Paths.{parts_of, longer, led_from, is_dropped, is_back, back, Path}

longer_is : (c : ℕ) (parts : List (List ℕ)) → longer c parts ≡ onto_first c parts
longer_is c [] = refl
longer_is c (part ∷ parts) = refl

-- the parts are those that std's `split` gives
pub parts_split : (text : List ℕ) → parts_of text ≡ slice_split (λ b. b == 47) text
parts_split [] = refl
parts_split (c ∷ cs) =
    ap (λ parts. cond (c == 47) ([] ∷ parts) (longer c parts)) (parts_split cs)
    ∙ ap (cond (c == 47) ([] ∷ slice_split (λ b. b == 47) cs)) (longer_is c (slice_split (λ b. b == 47) cs))

-- one part further
pub part_dropped : (names : Path) (part : List ℕ) (whole rest : List (List ℕ)) → whole ≡ part ∷ rest → is_dropped part ≡ true → led_from (Some names) whole ≡ led_from (Some names) rest
part_dropped names part whole rest cut drops =
    ap (led_from (Some names)) cut ∙ ap (λ b. cond b (led_from (Some names) rest) (cond (is_back part) (led_from (back names) rest) (led_from (Some (names ++ part ∷ [])) rest))) drops

pub part_back : (names : Path) (part : List ℕ) (whole rest : List (List ℕ)) → whole ≡ part ∷ rest → is_dropped part ≡ false → is_back part ≡ true → led_from (Some names) whole ≡ led_from (back names) rest
part_back names part whole rest cut stays backs =
    ap (led_from (Some names)) cut
    ∙ ap (λ b. cond b (led_from (Some names) rest) (cond (is_back part) (led_from (back names) rest) (led_from (Some (names ++ part ∷ [])) rest))) stays
    ∙ ap (λ b. cond b (led_from (back names) rest) (led_from (Some (names ++ part ∷ [])) rest)) backs

pub part_further : (names : Path) (part : List ℕ) (whole rest : List (List ℕ)) → whole ≡ part ∷ rest → is_dropped part ≡ false → is_back part ≡ false →
    led_from (Some names) whole ≡ led_from (Some (names ++ part ∷ [])) rest
part_further names part whole rest cut stays leads =
    ap (led_from (Some names)) cut
    ∙ ap (λ b. cond b (led_from (Some names) rest) (cond (is_back part) (led_from (back names) rest) (led_from (Some (names ++ part ∷ [])) rest))) stays
    ∙ ap (λ b. cond b (led_from (back names) rest) (led_from (Some (names ++ part ∷ [])) rest)) leads

-- what `..` leaves where a name is taken back, and where there is none
pub back_none : {A : Type 0} (view : A → List ℕ) (xs : List A) → length xs ≡ 0 → back (map view xs) ≡ None
back_none view [] h = refl
back_none view (x ∷ xs) h = absurd (omega (arith, h))

back_push : (names : Path) (name : List ℕ) → back (names ++ name ∷ []) ≡ Some names
back_push [] name = refl
back_push (first ∷ names) name =
    let count : length (names ++ name ∷ []) ≡ length (first ∷ names) = omega (arith, length_push names name) in
    ap (λ n. Some (take n (first ∷ (names ++ name ∷ [])))) count ∙ ap Some (take-append_seam (first ∷ names) (name ∷ []))

pub back_some : {A : Type 0} (view : A → List ℕ) (xs ys : List A) (last : Option A) → xs ≡ ys ++ option_to_list last → is_some last ≡ true → back (map view xs) ≡ Some (map view ys)
back_some view xs ys None e h = absurd (cc)
back_some view xs ys (Some x) e h = ap (λ z. back (map view z)) e ∙ ap back (map-append view ys (x ∷ [])) ∙ back_push (map view ys) (view x)

pub none_left : {A : Type 0} (xs ys : List A) (last : Option A) → xs ≡ ys ++ option_to_list last → (last ≡ None → length xs ≡ 0) → is_some last ≡ false → length xs ≡ 0
none_left xs ys None e h none = h refl
none_left xs ys (Some x) e h none = absurd (cc)
