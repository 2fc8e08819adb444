-- Each outcome after a write is one before it, with the write cut short.
use Rattle.std.proofs.Common.{inl, inr, ◌⊎◌, ◌≡◌, ℕ, ◌+◌, ◌<◌, ◌≤◌, max, min, List, [], ◌∷◌, ◌++◌, length, get_or, take, drop, map, refl, sym, ◌∙◌, arith, length-take, length-drop}
use Rattle.std.specs.Prelude.{All}
use Rattle.std.specs.List.{range_with_len}
use Rattle.std.proofs.lemmas.Bool.{cases_lt}
use Rattle.std.proofs.lemmas.List.{same_lists, get_or-take, get_or-drop, get_or_default}
use Rattle.std.proofs.lemmas.List.Elements.{All-push}
use Rattle.std.proofs.lemmas.List.FromFn.{length-map-range_with_len, get_or-map-range_with_len}
use Rattle.staged.specs.Device.{Torn}
use Rattle.staged.specs.Standing.{Standing, MayStand}

-- a byte as it was before the write
abbrev was : (synced left : List ℕ) (at n i : ℕ) → (i < at) ⊎ (at ≤ i) → (i < at + n) ⊎ (at + n ≤ i) → (i < length synced) ⊎ (length synced ≤ i) → ℕ
was synced left at n i (inr from) (inl within) (inl old) = get_or synced i 0
was synced left at n i (inl early) b c = get_or left i 0
was synced left at n i (inr from) (inr late) c = get_or left i 0
was synced left at n i (inr from) (inl within) (inr new) = get_or left i 0

abbrev back : (synced left : List ℕ) (at n i : ℕ) → ℕ
back synced left at n i = was synced left at n i (cases_lt i at) (cases_lt i (at + n)) (cases_lt i (length synced))

early_same : (synced left : List ℕ) (at n i : ℕ) → i < at → back synced left at n i ≡ get_or left i 0
early_same synced left at n i less = go (cases_lt i at) (cases_lt i (at + n)) (cases_lt i (length synced))
  where
    go : (a : (i < at) ⊎ (at ≤ i)) (b : (i < at + n) ⊎ (at + n ≤ i)) (c : (i < length synced) ⊎ (length synced ≤ i)) → was synced left at n i a b c ≡ get_or left i 0
    go (inl early) b c = refl
    go (inr from) b c = absurd (omega arith)

late_same : (synced left : List ℕ) (at n i : ℕ) → at + n ≤ i → back synced left at n i ≡ get_or left i 0
late_same synced left at n i past = go (cases_lt i at) (cases_lt i (at + n)) (cases_lt i (length synced))
  where
    go : (a : (i < at) ⊎ (at ≤ i)) (b : (i < at + n) ⊎ (at + n ≤ i)) (c : (i < length synced) ⊎ (length synced ≤ i)) → was synced left at n i a b c ≡ get_or left i 0
    go (inl early) b c = refl
    go (inr from) (inr late) c = refl
    go (inr from) (inl within) c = absurd (omega arith)

inner_same : (synced left : List ℕ) (at n i : ℕ) → at ≤ i → i < at + n → i < length synced → back synced left at n i ≡ get_or synced i 0
inner_same synced left at n i from within old = go (cases_lt i at) (cases_lt i (at + n)) (cases_lt i (length synced))
  where
    go : (a : (i < at) ⊎ (at ≤ i)) (b : (i < at + n) ⊎ (at + n ≤ i)) (c : (i < length synced) ⊎ (length synced ≤ i)) → was synced left at n i a b c ≡ get_or synced i 0
    go (inr x) (inl y) (inl z) = refl
    go (inl x) b c = absurd (omega arith)
    go (inr x) (inr y) c = absurd (omega arith)
    go (inr x) (inl y) (inr z) = absurd (omega arith)

module _ (s : Standing) (at n : ℕ) (bytes left : List ℕ) (fits : at ≤ length s.shown) (whole : length s.kept ≤ length s.shown) (long : length bytes ≡ max (length s.shown) (at + n)) where
  abbrev synced : List ℕ
  synced = s.kept

  abbrev end : ℕ
  end = length s.shown

  abbrev earlier : List ℕ
  earlier = map (back synced left at n) (range_with_len 0 (min (length left) end))

  size : length earlier ≡ min (length left) end
  size = length-map-range_with_len (back synced left at n) 0 (min (length left) end)

  place : (i d : ℕ) → i < min (length left) end → get_or earlier i d ≡ back synced left at n i
  place i d within = get_or-map-range_with_len (back synced left at n) 0 (min (length left) end) i i d within (omega arith)

  pub torn_before : MayStand (record { shown = bytes; kept = s.kept; ranges = s.ranges ++ (at, n) ∷ [] }) left → (before : List ℕ) × MayStand s before × Torn at n before left
  torn_before stands = (
    earlier,
    record {
      no_shorter = omega (arith, size, whole, stands.no_shorter);
      no_longer = omega (arith, size);
      apart = λ i within outside. place i 0 (omega (arith, whole, stands.no_shorter, within)) ∙ by i within outside (cases_lt i at) (cases_lt i (at + n));
    },
    record {
      before = same_lists (take at left) (take at earlier) (omega (arith, size, fits, length-take at left, length-take at earlier)) (λ i d below.
          let inside : i < min (length left) end = omega (arith, below, fits, length-take at left) in
          let less : i < at = omega (arith, below, length-take at left) in
          get_or-take at left i d less ∙ get_or_default left i d 0 (omega (arith, inside)) ∙ sym (early_same synced left at n i less) ∙ sym (place i d inside) ∙ sym (get_or-take at earlier i d less));
      after = same_lists (drop (at + n) left) (drop (at + n) earlier) (omega (arith, size, fits, stands.no_longer, long, length-drop (at + n) left, length-drop (at + n) earlier)) (λ i d below.
          let inside : at + n + i < min (length left) end = omega (arith, stands.no_longer, long, below, length-drop (at + n) left) in
          get_or-drop (at + n) left i d ∙ get_or_default left (at + n + i) d 0 (omega (arith, inside)) ∙ sym (late_same synced left at n (at + n + i) (omega arith)) ∙ sym (place (at + n + i) d inside) ∙ sym (get_or-drop (at + n) earlier i d));
      no_shorter = omega (arith, size);
      no_longer = omega (arith, size, stands.no_longer, long);
    },
  )
    where
      by : (i : ℕ) → i < length synced → All (λ r. (i < r.0) ⊎ (r.0 + r.1 ≤ i)) s.ranges → (i < at) ⊎ (at ≤ i) → (i < at + n) ⊎ (at + n ≤ i) → back synced left at n i ≡ get_or synced i 0
      by i old outside (inl early) b = early_same synced left at n i early ∙ stands.apart i old (All-push (λ r. (i < r.0) ⊎ (r.0 + r.1 ≤ i)) s.ranges (at, n) outside (inl early))
      by i old outside (inr from) (inl within) = inner_same synced left at n i from within old
      by i old outside (inr from) (inr late) = late_same synced left at n i late ∙ stands.apart i old (All-push (λ r. (i < r.0) ⊎ (r.0 + r.1 ≤ i)) s.ranges (at, n) outside (inr late))
