-- A list that was made longer, whose new part was read.
use Rattle.std.proofs.Common.{◌≡◌, ◌∙◌, ℕ, ◌+◌, ◌-◌, min, List, [], ◌++◌, drop, length, take, replicate, ap, arith, sym, length-append, length-drop, length-take}
use Rattle.std.proofs.lemmas.List.{append-nil, drop_all, length-replicate, take-append-le, take_all}
use borrow.Rule.Slice.PartMut.{post_of}

module _ (len_now front m n : ℕ) (old now longer part part_then wanted : List ℕ) (front_is : front ≡ length old) (len_is : len_now ≡ front + m)
    (now_is : now ≡ longer) (longer_is : longer ≡ take (front + m) old ++ replicate (front + m - front) 0) (part_is : part ≡ take (length now - front) (drop front now))
    (part_len : length part_then ≡ length part) (n_is : n ≡ min m (length part)) (read : take n part_then ≡ take n wanted) (wanted_len : length wanted ≡ m) where
  size : length now ≡ front + m
  size =
      let zeros = length-replicate {A = ℕ} (front + m - front) 0 in
      ap length (now_is ∙ longer_is) ∙ omega (arith, length-append (take (front + m) old) (replicate (front + m - front) 0), length-take (front + m) old, zeros)

  size_part : length part ≡ m
  size_part = ap length part_is ∙ omega (arith, size, length-take (length now - front) (drop front now), length-drop front now)

  n_same : n ≡ m
  n_same = omega (arith, n_is, size_part)

  part_now : part_then ≡ wanted
  part_now = sym (take_all n part_then (omega (arith, part_len, size_part, n_same))) ∙ read ∙ take_all n wanted (omega (arith, n_same, wanted_len))

  front_now : take front now ≡ old
  front_now = ap (take front) (now_is ∙ longer_is ∙ ap (λ xs. xs ++ replicate (front + m - front) 0) (take_all (front + m) old (omega (arith, front_is))))
      ∙ take-append-le front old (replicate (front + m - front) 0) (omega (arith, front_is)) ∙ take_all front old (omega (arith, front_is))

  nothing : post_of front (length now - front) now ≡ []
  nothing = drop_all (length now - front) (drop front now) (omega (arith, length-drop front now))

  abbrev whole : List ℕ
  whole = take front now ++ (part_then ++ post_of front (length now - front) now)

  whole_is : whole ≡ old ++ wanted
  whole_is = ap (λ xs. xs ++ (part_then ++ post_of front (length now - front) now)) front_now ∙ ap (λ xs. old ++ (part_then ++ xs)) nothing
      ∙ ap (λ xs. old ++ xs) (append-nil part_then ∙ part_now)

  pub appended : take len_now (whole ++ drop (length whole) longer) ≡ old ++ wanted
  appended =
      let long = ap length whole_is ∙ length-append old wanted in
      take-append-le len_now whole (drop (length whole) longer) (omega (arith, long, front_is, len_is, wanted_len))
      ∙ take_all len_now whole (omega (arith, long, front_is, len_is, wanted_len)) ∙ whole_is
