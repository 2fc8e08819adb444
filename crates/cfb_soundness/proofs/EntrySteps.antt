-- How far the walk over a directory's tree has come, in the order of its entries.
use Rattle.std.proofs.Common.{◌≡◌, ℕ, ◌+◌, ◌<◌, ◌≤◌, Bool, true, false, List, [], ◌∷◌, ◌++◌, length, refl, ap, sym, subst, ◌∙◌, arith, append_assoc, append-nil, length-append}
use Rattle.std.specs.Prelude.{nat_eq, slice_get, Some}
use Rattle.std.specs.List.{list_any, AllByRecursion, IsDistinct}
use Rattle.std.proofs.lemmas.Map.Steps.{length-le_from_distinct_below}
use Rattle.std.proofs.lemmas.Option.{slice_get_within}
use Rattle.cfb_tree.specs.Tree.{nothing, storage, stream, Content}
use Rattle.cfb_tree.specs.Directory.{greatest_entry, kind_storage, kind_stream, no_entry, none, some, Entry, Holds, Siblings}
use Rattle.cfb_tree.proofs.NamesRead.{all_append}
use Rattle.cfb_tree.proofs.OneContent.{Some_same}
use Rattle.cfb_tree.specs.Entries.{HasSize, children_of}
use Rattle.cfb_directory.proofs.Joining.{halves}
use Rattle.cfb_soundness.specs.Entries.{steps_at, AreTreeEntries}
use Rattle.cfb_soundness.specs.declared.entries.Step.{Step}
use Rattle.cfb_soundness.specs.declared.entries.Step.TheVariants.{Hanging, Met}

-- how many entries were met but not told
abbrev pub waiting : List Step → ℕ
waiting [] = 0
waiting (Hanging at ∷ steps) = waiting steps
waiting (Met id ∷ steps) = 1 + waiting steps

waiting_append : (xs ys : List Step) → waiting (xs ++ ys) ≡ waiting xs + waiting ys
waiting_append [] ys = omega arith
waiting_append (Hanging at ∷ xs) ys = waiting_append xs ys
waiting_append (Met id ∷ xs) ys = omega (arith, waiting_append xs ys)

-- every number of the list passes
below_each : (n : ℕ) (xs : List ℕ) → AllByRecursion (λ x. x < n) xs → (q : ℕ) → list_any (nat_eq q) xs ≡ true → q < n
below_each n [] all q any = absurd (cc)
below_each n (x ∷ xs) all q any = by_test (nat_eq q x) refl (below_each n xs all.1 q)
  where
    by_test : (b : Bool) → nat_eq q x ≡ b → (list_any (nat_eq q) xs ≡ true → q < n) → q < n
    by_test true is later = let same : q ≡ x = grind arith in omega (arith, same, all.0)
    by_test false is later = later (rw is at any)

regroup : (front : List ℕ) (at : ℕ) (rest : List ℕ) → front ++ (at ∷ rest) ≡ ((front ++ at ∷ []) ++ []) ++ rest
regroup front at rest = sym (ap (λ xs. xs ++ rest) (append-nil (front ++ at ∷ [])) ∙ append_assoc front (at ∷ []) rest)

module _ (directory : List Entry) where
  -- the entries that a step tells
  abbrev pub At : Step → List ℕ → Type 0
  At (Met id) all = all ≡ id ∷ []
  At (Hanging at) all = (children : List ℕ) × (content : Content) × Siblings directory at children × Holds directory HasSize children content all

  -- those that the steps tell, the last step first
  abbrev pub Pend : List Step → List ℕ → Type 0
  Pend [] all = all ≡ []
  Pend (step ∷ steps) all = (front : List ℕ) × (here : List ℕ) × Pend steps front × At step here × (all ≡ front ++ here)

  last_step : (steps : List Step) (step : Step) (all : List ℕ) → Pend (steps ++ step ∷ []) all
      → (here : List ℕ) × (rest : List ℕ) × At step here × Pend steps rest × (all ≡ here ++ rest)
  last_step [] step all (front, here, empty, at, is) = (here, [], at, refl, is ∙ ap (λ xs. xs ++ here) empty ∙ sym (append-nil here))
  last_step (first ∷ steps) step all (front, own, pend, at_first, is) =
      let (here, rest, at, later, front_is) = last_step steps step front pend in
      (here, rest ++ own, at, (rest, own, later, at_first, refl), is ∙ ap (λ xs. xs ++ own) front_is ∙ append_assoc here rest own)

  more_steps : (steps more : List Step) (rest first : List ℕ) → Pend steps rest → Pend more first → Pend (steps ++ more) (first ++ rest)
  more_steps [] more rest first empty pend = subst (Pend more) (sym (ap (λ xs. first ++ xs) empty ∙ append-nil first)) pend
  more_steps (step ∷ steps) more rest first (front, here, later, at, is) pend =
      (first ++ front, here, more_steps steps more front first later pend, at, ap (λ xs. first ++ xs) is ∙ sym (append_assoc first front here))

  waiting_few : (steps : List Step) (all : List ℕ) → Pend steps all → waiting steps ≤ length all
  waiting_few [] all empty = omega arith
  waiting_few (Hanging at ∷ steps) all (front, here, later, is_at, is) =
      omega (arith, waiting_few steps front later, ap length is, length-append front here)
  waiting_few (Met id ∷ steps) all (front, here, later, is_at, is) =
      omega (arith, waiting_few steps front later, ap length is, length-append front here, ap length is_at)

  -- an entry that hangs in a tree may be there
  abbrev pub Fits : ℕ → Type 0
  Fits id = (id ≤ greatest_entry) × (id < length directory)

  siblings_fit : (at : ℕ) (ids : List ℕ) → Siblings directory at ids → AllByRecursion Fits ids
  siblings_fit at ids (none is empty) = subst (AllByRecursion Fits) (sym empty) tt
  siblings_fit at ids (some e before after fits found left right whole) =
      subst (AllByRecursion Fits) (sym whole) (all_append Fits before (at ∷ after) (siblings_fit e.left before left) ((fits, slice_get_within directory at e found), siblings_fit e.right after right))

  all_fit : (content : Content) (ids all : List ℕ) → AllByRecursion Fits ids → Holds directory HasSize ids content all → AllByRecursion Fits all
  all_fit nothing ids all fits (empty, is) = subst (AllByRecursion Fits) (sym is) tt
  all_fit (stream n b x later) ids all fits (e, id, others, rest, is, whole, at, reads, onwards) =
      let here = subst (AllByRecursion Fits) is fits in
      subst (AllByRecursion Fits) (sym whole) (here.0, all_fit later others rest here.1 onwards)
  all_fit (storage n f inside later) ids all fits (e, id, others, children, within, rest, is, whole, at, siblings, in_it, onwards) =
      let here = subst (AllByRecursion Fits) is fits in
      subst (AllByRecursion Fits) (sym whole)
      (here.0, all_append Fits within rest (all_fit inside children within (siblings_fit e.child children siblings) in_it) (all_fit later others rest here.1 onwards))

  fit_below : (xs : List ℕ) → AllByRecursion Fits xs → AllByRecursion (λ x. x < length directory) xs × AllByRecursion (λ x. x < greatest_entry + 1) xs
  fit_below [] all = (tt, tt)
  fit_below (x ∷ xs) all = let rest = fit_below xs all.1 in ((all.0.1, rest.0), (omega (arith, all.0.0), rest.1))

  -- no entry stands twice in a tree, so it has no more than the directory, or than there are numbers
  tree_few : (all : List ℕ) → AllByRecursion Fits all → IsDistinct nat_eq all → (length all ≤ length directory) × (length all ≤ greatest_entry + 1)
  tree_few all fits once =
      let below = fit_below all fits in (
        length-le_from_distinct_below all (length directory) once (below_each (length directory) all below.0),
        length-le_from_distinct_below all (greatest_entry + 1) once (below_each (greatest_entry + 1) all below.1),
      )

  -- what hangs at an entry, by its steps
  around : (at : ℕ) (e : Entry) (here : List ℕ) → at ≤ greatest_entry → slice_get directory at ≡ Some e → At (Hanging at) here → Pend (steps_at e at) here
  around at e here fits found (children, content, none is empty, holds) = absurd (omega (arith, fits, is))
  around at e here fits found (children, content, some e' before after fits' found' left right whole, holds) =
      let same : e' ≡ e = Some_same (sym found' ∙ found) in
      let parts = halves directory HasSize before (at ∷ after) content here (subst (λ ids. Holds directory HasSize ids content here) whole holds) in
      second parts.second parts.second_all parts.holds_second parts.first_all parts.all_is
      (before, parts.first, subst (λ (x : Entry). Siblings directory x.left before) same left, parts.holds_first)
      (subst (λ (x : Entry). Siblings directory x.right after) same right)
    where
      second : (c : Content) (back : List ℕ) → Holds directory HasSize (at ∷ after) c back → (front : List ℕ) → here ≡ front ++ back
          → At (Hanging e.left) front → Siblings directory e.right after → Pend (steps_at e at) here
      second nothing back (wrong, is) front here_is lefts rights = absurd (cc)
      second (stream n b x later) back (e2, id, others, rest, is, back_is, isa, reads, onwards) front here_is lefts rights =
          let id_is : id ≡ at = cc in
          let others_are : others ≡ after = cc in
          let same : e2 ≡ e = Some_same (sym isa.found ∙ ap (slice_get directory) id_is ∙ found) in
          let kind : e.kind ≡ kind_stream = subst (λ (x : Entry). x.kind ≡ kind_stream) same isa.of_kind in
          let nowhere : children_of e ≡ no_entry = rw kind refl in (
            ((front ++ at ∷ []) ++ []),
            rest,
            (
              (front ++ at ∷ []),
              [],
              (front, at ∷ [], ([], front, refl, lefts, refl), refl, refl),
              ([], nothing, none nowhere refl, (refl, refl)),
              refl,
            ),
            (after, later, rights, subst (λ ids. Holds directory HasSize ids later rest) others_are onwards),
            here_is ∙ ap (λ xs. front ++ xs) back_is ∙ ap (λ k. front ++ (k ∷ rest)) id_is ∙ regroup front at rest,
          )
      second (storage n f inside later) back (e2, id, others, children, within, rest, is, back_is, isa, siblings, in_it, onwards) front here_is lefts rights =
          let id_is : id ≡ at = cc in
          let others_are : others ≡ after = cc in
          let same : e2 ≡ e = Some_same (sym isa.found ∙ ap (slice_get directory) id_is ∙ found) in
          let kind : e.kind ≡ kind_storage = subst (λ (x : Entry). x.kind ≡ kind_storage) same isa.of_kind in
          let where_children : children_of e ≡ e.child = rw kind refl in (
            ((front ++ at ∷ []) ++ within),
            rest,
            (
              (front ++ at ∷ []),
              within,
              (front, at ∷ [], ([], front, refl, lefts, refl), refl, refl),
              (children, inside, subst (λ k. Siblings directory k children) (sym where_children) (subst (λ (x : Entry). Siblings directory x.child children) same siblings), in_it),
              refl,
            ),
            (after, later, rights, subst (λ ids. Holds directory HasSize ids later rest) others_are onwards),
            here_is ∙ ap (λ xs. front ++ xs) back_is ∙ ends front id_is within rest,
          )
        where
          ends : (front : List ℕ) → id ≡ at → (within rest : List ℕ) → front ++ (id ∷ (within ++ rest)) ≡ ((front ++ at ∷ []) ++ within) ++ rest
          ends front id_is within rest = ap (λ k. front ++ (k ∷ (within ++ rest))) id_is ∙ simp append_assoc

-- the walk has come so far: the tree's entries are those that were told, and those that the steps tell; so many were met
pub record Walked (directory : List Entry) (start : ℕ) (ids : List ℕ) (steps : List Step) (met : ℕ) : Type 0 where
  pub tells : (children all : List ℕ) (content : Content) → Siblings directory start children → Holds directory HasSize children content all → IsDistinct nat_eq all
      → (rest : List ℕ) × Pend directory steps rest × (all ≡ ids ++ rest)
  pub counts : met ≡ length ids + waiting steps

module _ (directory : List Entry) (start : ℕ) where
  pub walk_begins : Walked directory start [] (Hanging start ∷ []) 0
  walk_begins = record {
    tells = λ children all content siblings holds once. (all, ([], all, refl, (children, content, siblings, holds), refl), refl);
    counts = omega arith;
  }

  -- an entry that was met is told
  pub walk_tells : (ids : List ℕ) (steps : List Step) (id met : ℕ) → Walked directory start ids (steps ++ Met id ∷ []) met → Walked directory start (ids ++ id ∷ []) steps met
  walk_tells ids steps id met it = record {
    tells = λ children all content siblings holds once.
        let (rest, pend, is) = it.tells children all content siblings holds once in
        let (here, later, at, on, rest_is) = last_step directory steps (Met id) rest pend in
        (later, on, is ∙ ap (λ xs. ids ++ xs) (rest_is ∙ ap (λ xs. xs ++ later) at) ∙ sym (append_assoc ids (id ∷ []) later));
    counts = omega (arith, it.counts, length-append ids (id ∷ []), waiting_append steps (Met id ∷ []));
  }

  -- what hangs at an entry is to be told
  pub walk_meets : (ids : List ℕ) (steps : List Step) (at met : ℕ) (e : Entry) → at ≤ greatest_entry → slice_get directory at ≡ Some e
      → Walked directory start ids (steps ++ Hanging at ∷ []) met → Walked directory start ids (steps ++ steps_at e at) (met + 1)
  walk_meets ids steps at met e fits found it = record {
    tells = λ children all content siblings holds once.
        let (rest, pend, is) = it.tells children all content siblings holds once in
        let (here, later, is_at, on, rest_is) = last_step directory steps (Hanging at) rest pend in
        (rest, subst (Pend directory (steps ++ steps_at e at)) (sym rest_is) (more_steps directory steps (steps_at e at) later here on (around directory at e here fits found is_at)), is);
    counts = omega (arith, it.counts, waiting_append steps (Hanging at ∷ []), waiting_append steps (steps_at e at));
  }

  -- at a link where no entry may be nothing hangs
  pub walk_passes : (ids : List ℕ) (steps : List Step) (at met : ℕ)
      → ((at ≤ greatest_entry) × (at < length directory) × (met ≤ greatest_entry) × (met < length directory) → ⊥)
      → Walked directory start ids (steps ++ Hanging at ∷ []) met → Walked directory start ids steps met
  walk_passes ids steps at met never it = record {
    tells = λ children all content siblings holds once.
        let (rest, pend, is) = it.tells children all content siblings holds once in
        let (here, later, (own, inside, hangs, held), on, rest_is) = last_step directory steps (Hanging at) rest pend in
        let few = tree_few directory all (all_fit directory content children all (siblings_fit directory start children siblings) holds) once in
        let sum = waiting_few directory steps later on in
        let long : length all ≡ length ids + (length here + length later) = omega (arith, ap length is, length-append ids rest, ap length rest_is, length-append here later) in
        let empty = nothing_here all own here inside hangs held (omega (arith, it.counts, waiting_append steps (Hanging at ∷ []), sum, long)) few in
        (later, on, is ∙ ap (λ xs. ids ++ xs) (rest_is ∙ ap (λ xs. xs ++ later) empty));
    counts = omega (arith, it.counts, waiting_append steps (Hanging at ∷ []));
  }
    where
      nothing_here : (all own here : List ℕ) (inside : Content) → Siblings directory at own → Holds directory HasSize own inside here
          → met + length here ≤ length all → (length all ≤ length directory) × (length all ≤ greatest_entry + 1) → here ≡ []
      nothing_here all own here nothing hangs held room few = held.1
      nothing_here all own here (stream n b x later) (none is no_ids) (e, id, others, rest, ids_are, here_is, isa, reads, onwards) room few = absurd (cc)
      nothing_here all own here (storage n f i later) (none is no_ids) (e, id, others, children, within, rest, ids_are, here_is, isa, siblings, in_it, onwards) room few = absurd (cc)
      nothing_here all own here (stream n b x later) (some e before after fits found left right whole) (e2, id, others, rest, ids_are, here_is, isa, reads, onwards) room few =
          absurd (never (fits, slice_get_within directory at e found, omega (arith, room, few.1, ap length here_is), omega (arith, room, few.0, ap length here_is)))
      nothing_here all own here (storage n f i later) (some e before after fits found left right whole) (e2, id, others, children, within, rest, ids_are, here_is, isa, siblings, in_it, onwards) room few =
          absurd (never (fits, slice_get_within directory at e found, omega (arith, room, few.1, ap length here_is), omega (arith, room, few.0, ap length here_is)))

  -- where no step is left all entries are told
  pub walk_ends : (root : Entry) (ids : List ℕ) (met : ℕ) → slice_get directory 0 ≡ Some root → start ≡ root.child → Walked directory start ids [] met → AreTreeEntries directory ids
  walk_ends root ids met found is it = λ other children all content found_other siblings holds once.
      let same : other ≡ root = Some_same (sym found_other ∙ found) in
      let at_start : Siblings directory start children = subst (λ k. Siblings directory k children) (ap (λ (e : Entry). e.child) same ∙ sym is) siblings in
      let (rest, empty, all_is) = it.tells children all content at_start holds once in
      sym (all_is ∙ ap (λ xs. ids ++ xs) empty ∙ append-nil ids)
