-- A walk over siblings, one entry after the other.
use Rattle.std.proofs.Common.{◌≡◌, ℕ, ◌+◌, ◌<◌, ◌≤◌, List, [], ◌∷◌, ◌++◌, length, length-append, refl, sym, ◌∙◌, ap, subst, append_assoc, append-nil, arith}
use Rattle.std.specs.Prelude.{slice_get, Some, None}
use Rattle.cfb_tree.specs.Directory.{Entry, Siblings, none, some, no_entry}
use Rattle.cfb_tree.proofs.OneContent.{Some_same}
use Rattle.cfb_entries.specs.Pending.{Above}

module _ (directory : List Entry) where
  -- one more entry, whose left side is gone through first
  pub above_push : (above : List ℕ) (rest : List ℕ) (id : ℕ) (e : Entry) (rights : List ℕ) → slice_get directory id ≡ Some e
      → Siblings directory e.right rights → Above directory above rest → Above directory (above ++ id ∷ []) (id ∷ (rights ++ rest))
  above_push [] rest id e rights found siblings is =
      (e, [], rights, found, siblings, refl, ap (λ xs. id ∷ (rights ++ xs)) is ∙ ap (λ xs. id ∷ xs) (append-nil rights))
  above_push (k ∷ lower) rest id e rights found siblings (f, sooner, others, found', siblings', below, is) = (
    f,
    id ∷ (rights ++ sooner),
    others,
    found',
    siblings',
    above_push lower sooner id e rights found siblings below,
    ap (λ xs. id ∷ (rights ++ xs)) is ∙ ap (λ xs. id ∷ xs) (sym (append_assoc rights sooner (k ∷ others))),
  )

  -- what comes at the last entry
  pub record Next (above : List ℕ) (id : ℕ) (rest : List ℕ) : Type 0 where
    pub entry : Entry
    pub rights : List ℕ
    pub later : List ℕ
    pub found : slice_get directory id ≡ Some entry
    pub siblings : Siblings directory entry.right rights
    pub kept : Above directory above later
    pub rest_is : rest ≡ id ∷ (rights ++ later)

  pub above_pop : (above : List ℕ) (id : ℕ) (rest : List ℕ) → Above directory (above ++ id ∷ []) rest → Next above id rest
  above_pop [] id rest (e, sooner, rights, found, siblings, none_below, is) = record {
    entry = e;
    rights = rights;
    later = [];
    found = found;
    siblings = siblings;
    kept = refl;
    rest_is = is ∙ ap (λ xs. xs ++ id ∷ rights) none_below ∙ ap (λ xs. id ∷ xs) (sym (append-nil rights));
  }
  above_pop (k ∷ lower) id rest (e, sooner, rights, found, siblings, below, is) =
      let next = above_pop lower id sooner below in
      record {
        entry = next.entry;
        rights = next.rights;
        later = next.later ++ k ∷ rights;
        found = next.found;
        siblings = next.siblings;
        kept = (e, next.later, rights, found, siblings, next.kept, refl);
        rest_is = is ∙ ap (λ xs. xs ++ k ∷ rights) next.rest_is ∙ ap (λ xs. id ∷ xs) (append_assoc next.rights next.later (k ∷ rights));
      }

  pub above_fewer : (above rest : List ℕ) → Above directory above rest → length above ≤ length rest
  above_fewer [] rest is = omega arith
  above_fewer (k ∷ lower) rest (e, sooner, rights, found, siblings, below, is) =
      omega (arith, above_fewer lower sooner below, ap length is, length-append sooner (k ∷ rights))

  -- how far the way down has come: what was to come still is
  pub record Down (above : List ℕ) (at : ℕ) (all : List ℕ) : Type 0 where
    pub here : List ℕ
    pub rest : List ℕ
    pub siblings : Siblings directory at here
    pub kept : Above directory above rest
    pub all_is : here ++ rest ≡ all

  pub down_more : (above : List ℕ) (at : ℕ) (e : Entry) (all : List ℕ) → (at ≡ no_entry → ⊥) → slice_get directory at ≡ Some e → Down above at all
      → Down (above ++ at ∷ []) e.left all
  down_more above at e all some_entry found it = by_siblings it.siblings
    where
      by_siblings : Siblings directory at it.here → Down (above ++ at ∷ []) e.left all
      by_siblings (none is empty) = absurd (some_entry is)
      by_siblings (some f before after fits found' left right whole) =
          let same : f ≡ e = Some_same (sym found' ∙ found) in
          record {
            here = before;
            rest = at ∷ (after ++ it.rest);
            siblings = subst (λ y. Siblings directory y.left before) same left;
            kept = above_push above it.rest at e after found (subst (λ y. Siblings directory y.right after) same right) it.kept;
            all_is = sym (append_assoc before (at ∷ after) it.rest) ∙ ap (λ xs. xs ++ it.rest) (sym whole) ∙ it.all_is;
          }

  pub down_room : (above : List ℕ) (at : ℕ) (all : List ℕ) → (at ≡ no_entry → ⊥) → Down above at all → length above < length all
  down_room above at all some_entry it = by_siblings it.siblings
    where
      by_siblings : Siblings directory at it.here → length above < length all
      by_siblings (none is empty) = absurd (some_entry is)
      by_siblings (some f before after fits found' left right whole) =
          omega (arith, above_fewer above it.rest it.kept, ap length (sym it.all_is), length-append it.here it.rest, ap length whole, length-append before (at ∷ after))

  pub down_there : (above : List ℕ) (at : ℕ) (all : List ℕ) → (at ≡ no_entry → ⊥) → slice_get directory at ≡ None → Down above at all → ⊥
  down_there above at all some_entry lost it = by_siblings it.siblings
    where
      by_siblings : {here : List ℕ} → Siblings directory at here → ⊥
      by_siblings (none is empty) = some_entry is
      by_siblings (some f before after fits found left right whole) = let never : Some f ≡ None = sym found ∙ lost in absurd (cc)

  pub down_end : (above : List ℕ) (at : ℕ) (all : List ℕ) → at ≡ no_entry → Down above at all → Above directory above all
  down_end above at all is it = by_siblings it.siblings
    where
      by_siblings : Siblings directory at it.here → Above directory above all
      by_siblings (none is' empty) = subst (Above directory above) (ap (λ xs. xs ++ it.rest) (sym empty) ∙ it.all_is) it.kept
      by_siblings (some f before after fits found left right whole) = absurd (omega (arith, is, fits))

  pub down_first : (above : List ℕ) (link : ℕ) (here rest : List ℕ) → Siblings directory link here → Above directory above rest → Down above link (here ++ rest)
  down_first above link here rest siblings kept = record { here = here; rest = rest; siblings = siblings; kept = kept; all_is = refl }

  -- the walk over all siblings has come so far
  pub record Gone (ids above all : List ℕ) : Type 0 where
    pub rest : List ℕ
    pub kept : Above directory above rest
    pub all_is : ids ++ rest ≡ all

  pub gone_room : (ids above : List ℕ) (id : ℕ) (all : List ℕ) → Gone ids (above ++ id ∷ []) all → length ids < length all
  gone_room ids above id all it =
      let next = above_pop above id it.rest it.kept in
      omega (arith, ap length (sym it.all_is), length-append ids it.rest, ap length next.rest_is)

  pub gone_all : (ids all : List ℕ) → Gone ids [] all → ids ≡ all
  gone_all ids all it = sym (append-nil ids) ∙ ap (λ xs. ids ++ xs) (sym it.kept) ∙ it.all_is

  -- what is to come at the last entry
  abbrev pub next_of : (ids above : List ℕ) (id : ℕ) (all : List ℕ) (it : Gone ids (above ++ id ∷ []) all) → Next above id it.rest
  next_of ids above id all it = above_pop above id it.rest it.kept

  pub gone_fits : (ids above : List ℕ) (id : ℕ) (all : List ℕ) (it : Gone ids (above ++ id ∷ []) all)
      → length (next_of ids above id all it).rights + length (next_of ids above id all it).later ≤ length all
  gone_fits ids above id all it =
      let next = above_pop above id it.rest it.kept in
      omega (arith, ap length (sym it.all_is), length-append ids it.rest, ap length next.rest_is, length-append next.rights next.later)

  pub gone_more : (ids above lower : List ℕ) (id : ℕ) (all : List ℕ) (it : Gone ids (above ++ id ∷ []) all)
      → Above directory lower ((next_of ids above id all it).rights ++ (next_of ids above id all it).later) → Gone (ids ++ id ∷ []) lower all
  gone_more ids above lower id all it kept =
      let next = above_pop above id it.rest it.kept in
      record {
        rest = next.rights ++ next.later;
        kept = kept;
        all_is = append_assoc ids (id ∷ []) (next.rights ++ next.later) ∙ ap (λ xs. ids ++ xs) (sym next.rest_is) ∙ it.all_is;
      }

  pub gone_first : (ids above all : List ℕ) → ids ≡ [] → Above directory above (all ++ []) → Gone ids above all
  gone_first ids above all none_yet kept = record { rest = all ++ []; kept = kept; all_is = ap (λ xs. xs ++ (all ++ [])) none_yet ∙ append-nil all }
