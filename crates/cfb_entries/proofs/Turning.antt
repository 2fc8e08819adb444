-- The parts of a path, of which some take others back.
use Rattle.std.proofs.Common.{◌≡◌, ℕ, ◌+◌, ◌-◌, ◌<◌, ◌==◌, Bool, true, false, ◌||◌, List, [], ◌∷◌, ◌++◌, length, take, refl, sym, ◌∙◌, ap, arith, append_assoc, append-nil, length-append, length-take, suc}
use Rattle.std.specs.Prelude.{Some, None}
use Rattle.std.specs.List.{list_any}
use Rattle.std.proofs.lemmas.List.{length_push}
use Rattle.cfb_tree.specs.Paths.{Path, back, is_back, is_dropped, led_from}
use Rattle.cfb_tree.proofs.OneContent.{Some_same}
use Rattle.cfb_tree.proofs.PathSteps.{part_dropped, part_back, part_further}
use Rattle.cfb_entries.specs.Parts.{goes_back}

-- one part further
pub turn_dropped : (part : List ℕ) (parts : List (List ℕ)) (depth : ℕ) → is_dropped part ≡ true → goes_back (part ∷ parts) depth ≡ goes_back parts depth
turn_dropped part parts depth drops = rw drops refl

pub turn_named : (part : List ℕ) (parts : List (List ℕ)) (depth : ℕ) → is_dropped part ≡ false → is_back part ≡ false
    → goes_back (part ∷ parts) depth ≡ goes_back parts (depth + 1)
turn_named part parts depth stays leads = rw (stays, leads) refl

pub turn_found : (part : List ℕ) (parts : List (List ℕ)) (depth : ℕ) → is_dropped part ≡ false → is_back part ≡ true → depth ≡ 0
    → goes_back (part ∷ parts) depth ≡ Some parts
turn_found part parts depth stays backs none_left = rw (stays, backs, none_left) refl

pub turn_back : (part : List ℕ) (parts : List (List ℕ)) (depth : ℕ) → is_dropped part ≡ false → is_back part ≡ true → (depth == 0) ≡ false
    → goes_back (part ∷ parts) depth ≡ goes_back parts (depth - 1)
turn_back part parts depth stays backs some = rw (stays, backs, some) refl

-- where no part takes a name back, each name stays
pub no_turn : (parts : List (List ℕ)) (depth : ℕ) → list_any (λ part. is_back part) parts ≡ false → goes_back parts depth ≡ None
no_turn [] depth none = refl
no_turn (part ∷ parts) depth none = by_part (is_dropped part) (is_back part) refl refl none (λ d h. no_turn parts d h)
  where
    by_part : (d b : Bool) → is_dropped part ≡ d → is_back part ≡ b → (is_back part || list_any (λ part. is_back part) parts) ≡ false
        → ((depth : ℕ) → list_any (λ part. is_back part) parts ≡ false → goes_back parts depth ≡ None) → goes_back (part ∷ parts) depth ≡ None
    by_part d true drops backs none later = let never : true ≡ false = sym (rw backs refl) ∙ none in absurd (cc)
    by_part true false drops backs none later = turn_dropped part parts depth drops ∙ later depth (sym (rw backs refl) ∙ none)
    by_part false false drops backs none later = turn_named part parts depth drops backs ∙ later (depth + 1) (sym (rw backs refl) ∙ none)

pub no_turn_later : (part : List ℕ) (whole parts : List (List ℕ)) → whole ≡ part ∷ parts → list_any (λ part. is_back part) whole ≡ false
    → list_any (λ part. is_back part) parts ≡ false
no_turn_later part whole parts cut none = by_part (is_back part) (list_any (λ part. is_back part) parts) (sym (ap (list_any (λ part. is_back part)) cut) ∙ none)
  where
    by_part : (a b : Bool) → (a || b) ≡ false → b ≡ false
    by_part true b never = absurd (cc)
    by_part false b is = is

-- two points take the last name back
back_behind : (names : Path) (name : List ℕ) (extra : Path) → back (names ++ name ∷ extra) ≡ Some (names ++ take (length extra) (name ∷ extra))
back_behind [] name extra = refl
back_behind (first ∷ names) name extra = ap (λ n. Some (take n (first ∷ (names ++ name ∷ extra)))) (count names) ∙ ap (λ rest. Some (first ∷ rest)) (kept names)
  where
    count : (ns : Path) → length (ns ++ name ∷ extra) ≡ suc (length ns + length extra)
    count ns = omega (arith, length-append ns (name ∷ extra))

    kept : (ns : Path) → take (length ns + length extra) (ns ++ name ∷ extra) ≡ ns ++ take (length extra) (name ∷ extra)
    kept [] = ap (λ k. take k (name ∷ extra)) (let is : 0 + length extra ≡ length extra = omega arith in is)
    kept (n ∷ ns) = ap (λ k. take k (n ∷ (ns ++ name ∷ extra))) (let is : length (n ∷ ns) + length extra ≡ suc (length ns + length extra) = omega arith in is) ∙ ap (λ rest. n ∷ rest) (kept ns)

some_depth : (depth : ℕ) → (depth + 1 == 0) ≡ false
some_depth depth = grind arith

no_depth : (depth : ℕ) → (depth == 0) ≡ true → depth ≡ 0
no_depth depth zero = grind arith

less_and_more : (depth : ℕ) → (depth == 0) ≡ false → depth + 1 - 1 ≡ depth - 1 + 1
less_and_more depth some = grind arith

fewer : (x : List ℕ) (xs : Path) → length (take (length xs) (x ∷ xs)) ≡ length (x ∷ xs) - 1
fewer x xs = omega (arith, length-take (length xs) (x ∷ xs))

-- a name that is taken back, and all behind it up to there, leaves what stood before it
pub taken_back : (parts : List (List ℕ)) (names : Path) (name : List ℕ) (extra : Path) (later : List (List ℕ)) → goes_back parts (length extra) ≡ Some later
    → led_from (Some (names ++ name ∷ extra)) parts ≡ led_from (Some names) later
taken_back [] names name extra later is = absurd (cc)
taken_back (part ∷ parts) names name extra later is = by_part (is_dropped part) (is_back part) refl refl extra is (λ ns n x l h. taken_back parts ns n x l h)
  where
    by_part : (d b : Bool) → is_dropped part ≡ d → is_back part ≡ b → (extra : Path) → goes_back (part ∷ parts) (length extra) ≡ Some later
        → ((names : Path) (name : List ℕ) (extra : Path) (later : List (List ℕ)) → goes_back parts (length extra) ≡ Some later
        → led_from (Some (names ++ name ∷ extra)) parts ≡ led_from (Some names) later)
        → led_from (Some (names ++ name ∷ extra)) (part ∷ parts) ≡ led_from (Some names) later
    by_part true b drops backs extra is further =
        part_dropped (names ++ name ∷ extra) part (part ∷ parts) parts refl drops
        ∙ further names name extra later (sym (turn_dropped part parts (length extra) drops) ∙ is)
    by_part false false drops backs extra is further =
        part_further (names ++ name ∷ extra) part (part ∷ parts) parts refl drops backs
        ∙ ap (λ ns. led_from (Some ns) parts) (append_assoc names (name ∷ extra) (part ∷ []))
        ∙ further names name (extra ++ part ∷ []) later (ap (goes_back parts) (length_push extra part) ∙ sym (turn_named part parts (length extra) drops backs) ∙ is)
    by_part false true drops backs [] is further =
        part_back (names ++ name ∷ []) part (part ∷ parts) parts refl drops backs
        ∙ ap (λ ns. led_from ns parts) (back_behind names name [] ∙ ap Some (append-nil names))
        ∙ ap (led_from (Some names)) (Some_same (sym (turn_found part parts 0 drops backs refl) ∙ is))
    by_part false true drops backs (x ∷ xs) is further =
        part_back (names ++ name ∷ (x ∷ xs)) part (part ∷ parts) parts refl drops backs
        ∙ ap (λ ns. led_from ns parts) (back_behind names name (x ∷ xs))
        ∙ further names name (take (length xs) (x ∷ xs)) later (ap (goes_back parts) (fewer x xs) ∙ sym (turn_back part parts (length (x ∷ xs)) drops backs (grind arith)) ∙ is)

-- a name that isn't taken back stays where it is
pub stays_there : (parts : List (List ℕ)) (names : Path) (name : List ℕ) (extra : Path) → goes_back parts (length extra) ≡ None
    → (more : Path) × (led_from (Some (names ++ name ∷ extra)) parts ≡ Some (names ++ name ∷ more))
stays_there [] names name extra is = (extra, refl)
stays_there (part ∷ parts) names name extra is = by_part (is_dropped part) (is_back part) refl refl extra is (λ x h. stays_there parts names name x h)
  where
    by_part : (d b : Bool) → is_dropped part ≡ d → is_back part ≡ b → (extra : Path) → goes_back (part ∷ parts) (length extra) ≡ None
        → ((extra : Path) → goes_back parts (length extra) ≡ None → (more : Path) × (led_from (Some (names ++ name ∷ extra)) parts ≡ Some (names ++ name ∷ more)))
        → (more : Path) × (led_from (Some (names ++ name ∷ extra)) (part ∷ parts) ≡ Some (names ++ name ∷ more))
    by_part true b drops backs extra is further =
        let (more, led) = further extra (sym (turn_dropped part parts (length extra) drops) ∙ is) in
        (more, part_dropped (names ++ name ∷ extra) part (part ∷ parts) parts refl drops ∙ led)
    by_part false false drops backs extra is further =
        let (more, led) = further (extra ++ part ∷ []) (ap (goes_back parts) (length_push extra part) ∙ sym (turn_named part parts (length extra) drops backs) ∙ is) in (
          more,
          part_further (names ++ name ∷ extra) part (part ∷ parts) parts refl drops backs
              ∙ ap (λ ns. led_from (Some ns) parts) (append_assoc names (name ∷ extra) (part ∷ [])) ∙ led,
        )
    by_part false true drops backs [] is further =
        let never : Some parts ≡ None = sym (turn_found part parts 0 drops backs refl) ∙ is in absurd (cc)
    by_part false true drops backs (x ∷ xs) is further =
        let (more, led) = further (take (length xs) (x ∷ xs)) (ap (goes_back parts) (fewer x xs) ∙ sym (turn_back part parts (length (x ∷ xs)) drops backs (grind arith)) ∙ is) in (
          more,
          part_back (names ++ name ∷ (x ∷ xs)) part (part ∷ parts) parts refl drops backs
              ∙ ap (λ ns. led_from ns parts) (back_behind names name (x ∷ xs)) ∙ led,
        )

-- what takes one name more back stands behind
pub one_more : (parts : List (List ℕ)) (depth : ℕ) (later : List (List ℕ)) → goes_back parts depth ≡ Some later → goes_back parts (depth + 1) ≡ goes_back later 0
one_more [] depth later is = absurd (cc)
one_more (part ∷ parts) depth later is = by_part (is_dropped part) (is_back part) refl refl (depth == 0) refl (λ d h. one_more parts d later h)
  where
    by_part : (d b : Bool) → is_dropped part ≡ d → is_back part ≡ b → (z : Bool) → (depth == 0) ≡ z
        → ((depth : ℕ) → goes_back parts depth ≡ Some later → goes_back parts (depth + 1) ≡ goes_back later 0) → goes_back (part ∷ parts) (depth + 1) ≡ goes_back later 0
    by_part true b drops backs z zero further =
        turn_dropped part parts (depth + 1) drops ∙ further depth (sym (turn_dropped part parts depth drops) ∙ is)
    by_part false false drops backs z zero further =
        turn_named part parts (depth + 1) drops backs ∙ further (depth + 1) (sym (turn_named part parts depth drops backs) ∙ is)
    by_part false true drops backs true zero further =
        let none_left : depth ≡ 0 = no_depth depth zero in
        turn_back part parts (depth + 1) drops backs (some_depth depth) ∙ ap (goes_back parts) (let back_to : depth + 1 - 1 ≡ 0 = omega (arith, none_left) in back_to)
        ∙ ap (λ ps. goes_back ps 0) (Some_same (sym (turn_found part parts depth drops backs none_left) ∙ is))
    by_part false true drops backs false zero further =
        turn_back part parts (depth + 1) drops backs (some_depth depth) ∙ ap (goes_back parts) (less_and_more depth zero)
        ∙ further (depth - 1) (sym (turn_back part parts depth drops backs zero) ∙ is)

-- what stands behind is less
pub fewer_behind : (parts : List (List ℕ)) (depth : ℕ) (later : List (List ℕ)) → goes_back parts depth ≡ Some later → length later < length parts
fewer_behind [] depth later is = absurd (cc)
fewer_behind (part ∷ parts) depth later is = by_part (is_dropped part) (is_back part) refl refl (depth == 0) refl (λ d h. fewer_behind parts d later h)
  where
    by_part : (d b : Bool) → is_dropped part ≡ d → is_back part ≡ b → (z : Bool) → (depth == 0) ≡ z
        → ((depth : ℕ) → goes_back parts depth ≡ Some later → length later < length parts) → length later < length (part ∷ parts)
    by_part true b drops backs z zero further = omega (arith, further depth (sym (turn_dropped part parts depth drops) ∙ is))
    by_part false false drops backs z zero further = omega (arith, further (depth + 1) (sym (turn_named part parts depth drops backs) ∙ is))
    by_part false true drops backs true zero further =
        let same : parts ≡ later = Some_same (sym (turn_found part parts depth drops backs (no_depth depth zero)) ∙ is) in
        omega (arith, ap (λ ps. length ps) same)
    by_part false true drops backs false zero further = omega (arith, further (depth - 1) (sym (turn_back part parts depth drops backs zero) ∙ is))
