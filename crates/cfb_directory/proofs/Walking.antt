-- How far the walk over a tree of entries has come.
use Rattle.std.proofs.Common.{◌≡◌, ℕ, ◌+◌, ◌<◌, ◌≤◌, Bool, true, false, List, [], ◌∷◌, ◌++◌, length, length-set, get_or, set, ◌≢◌, refl, sym, ◌∙◌, ap, subst, append_assoc, append-nil, arith, replicate}
use Rattle.std.specs.Prelude.{Option, None, Some, nat_eq, slice_get}
use Rattle.std.specs.List.{IsDistinct}
use Rattle.std.proofs.lemmas.Option.{slice_get_within}
use Rattle.std.proofs.lemmas.List.{get_or-set_same, get_or-set_other, get_or-replicate, length-replicate}
use Rattle.cfb_sectors.specs.declared.validation.Validation.{Validation}
use Rattle.cfb_sectors.specs.declared.validation.Validation.TheVariants.{Permissive, Strict}
use Rattle.cfb_tree.specs.Names.{CaseTable}
use Rattle.cfb_tree.specs.Tree.{Tree, child_names}
use Rattle.cfb_tree.specs.Directory.{Entry, no_entry, kind_root}
use Rattle.cfb_tree.proofs.OneContent.{Some_same}
use Rattle.cfb_tree.specs.Entries.{HasSize}
use Rattle.cfb_directory.specs.declared.walk.Link.{Link}
use Rattle.cfb_directory.specs.Taken.{HasAny, IsFit, IsTakenAs, IsTakenAsRoot}
use Rattle.cfb_directory.specs.Walk.{child_at, links_at}
use Rattle.cfb_directory.proofs.Counting.{count_in, count_append, count_here, SameCounts, distinct_from_counts, counts_from_distinct}
use Rattle.cfb_directory.proofs.Parts.{Part, Node, no_part, part_none, node_of, part_of, no_bound, no_limit}

-- how often marks say that a number was seen
pub record AreMarked (marks : List Bool) (seen : List ℕ) : Type 0 where
  pub set : (n : ℕ) → n < length marks → get_or marks n false ≡ true → 0 < count_in n seen
  pub unset : (n : ℕ) → n < length marks → get_or marks n false ≡ false → count_in n seen ≡ 0

module _ (validation : Validation) (letters : CaseTable) (directory : List Entry) where
  -- what hangs at all these links, one after the other
  abbrev pub Hang : (Entry → List ℕ → Type 0) → List Link → List ℕ → Type 0
  Hang Reads [] all = all ≡ []
  Hang Reads (link ∷ links) all =
      (here : List ℕ) × (rest : List ℕ) × Part validation letters directory Reads link.at link.low link.high here × Hang Reads links rest × (all ≡ here ++ rest)

  hang_join : (Reads : Entry → List ℕ → Type 0) (links more : List Link) (all rest : List ℕ) → Hang Reads links all → Hang Reads more rest → Hang Reads (links ++ more) (all ++ rest)
  hang_join Reads [] more all rest h k = subst (Hang Reads more) (ap (λ xs. xs ++ rest) (sym h)) k
  hang_join Reads (link ∷ links) more all rest (here, later, part, hang, is) k =
      (here, later ++ rest, part, hang_join Reads links more later rest hang k, ap (λ xs. xs ++ rest) is ∙ append_assoc here later rest)

  hang_split : (Reads : Entry → List ℕ → Type 0) (links more : List Link) (all : List ℕ) → Hang Reads (links ++ more) all
      → (front : List ℕ) × (back : List ℕ) × Hang Reads links front × Hang Reads more back × (all ≡ front ++ back)
  hang_split Reads [] more all h = ([], all, refl, h, refl)
  hang_split Reads (link ∷ links) more all (here, rest, part, hang, is) =
      let (front, back, first, second, rest_is) = hang_split Reads links more rest hang in
      (here ++ front, back, (here, front, part, first, refl), second, is ∙ ap (λ xs. here ++ xs) rest_is ∙ sym (append_assoc here front back))

  -- the walk from the root's child has come so far: the tree's entries are those that were seen, and those at the links that are left
  pub record Walked (root : ℕ) (pending : List Link) (marks : List Bool) : Type 0 where
    pub seen : List ℕ
    pub size : length marks ≡ length directory
    pub marked : AreMarked marks seen
    pub once : (n : ℕ) → count_in n seen ≤ 1
    pub up : (all : List ℕ) → Hang HasSize pending all
        → (whole : List ℕ) × Part validation letters directory HasSize root None None whole × SameCounts (0 ∷ whole) (seen ++ all)
    pub down : (whole : List ℕ) → Part validation letters directory HasAny root None None whole
        → (all : List ℕ) × Hang HasAny pending all × SameCounts (0 ∷ whole) (seen ++ all)

  -- the walk begins
  pub begun : (root : ℕ) (marks : List Bool) → length marks ≡ length directory → AreMarked marks (0 ∷ [])
      → Walked root (record { at = root; low = None; high = None } ∷ []) marks
  unfolding IsDistinct
  begun root marks size marked = record {
    seen = 0 ∷ [];
    size = size;
    marked = marked;
    once = λ n. counts_from_distinct (0 ∷ []) (tt, tt) n;
    up = λ all (here, rest, part, none, is). (here, part, λ n. ap (count_in n) (ap (λ xs. 0 ∷ xs) (sym (is ∙ ap (λ xs. here ++ xs) none ∙ append-nil here))));
    down = λ whole part. (whole ++ [], (whole, [], part, refl, refl), λ n. ap (count_in n) (ap (λ xs. 0 ∷ xs) (sym (append-nil whole))));
  }

  -- a link to no entry is dropped
  pub dropped : (root : ℕ) (links : List Link) (link : Link) (marks : List Bool) → link.at ≡ no_entry → Walked root (links ++ link ∷ []) marks → Walked root links marks
  dropped root links link marks is it = record {
    seen = it.seen;
    size = it.size;
    marked = it.marked;
    once = it.once;
    up = λ all hang.
        let nothing_there : Part validation letters directory HasSize link.at link.low link.high [] =
        subst (λ k. Part validation letters directory HasSize k link.low link.high []) (sym is) (no_part validation letters directory HasSize link.low link.high) in
        let (whole, part, counts) = it.up (all ++ []) (hang_join HasSize links (link ∷ []) all [] hang ([], [], nothing_there, refl, refl)) in
        (whole, part, λ n. counts n ∙ ap (λ xs. count_in n (it.seen ++ xs)) (append-nil all));
    down = λ whole part.
        let (all, hang, counts) = it.down whole part in
        let (front, back, first, (here, rest, hangs, none, here_is), all_is) = hang_split HasAny links (link ∷ []) all hang in
        let empty : here ≡ [] = part_none validation letters directory HasAny link.low link.high here (subst (λ k. Part validation letters directory HasAny k link.low link.high here) is hangs) in
        let back_is : back ≡ [] = here_is ∙ ap (λ xs. xs ++ rest) empty ∙ none in
        (front, first, λ n. counts n ∙ ap (λ xs. count_in n (it.seen ++ xs)) (all_is ∙ ap (λ xs. front ++ xs) back_is ∙ append-nil front));
  }

  -- at a link that is left hangs what the tree has there
  pub hung : (root : ℕ) (links : List Link) (link : Link) (marks : List Bool) → (it : Walked root (links ++ link ∷ []) marks) → (link.at ≡ no_entry → ⊥)
      → (whole : List ℕ) → Part validation letters directory HasAny root None None whole
      → (front all : List ℕ) × (node : Node validation letters directory HasAny link.at link.low link.high all) × Hang HasAny links front
      × ((n : ℕ) → count_in n (0 ∷ whole) ≡ count_in n it.seen + (count_in n front + count_in n all))
  hung root links link marks it some_entry whole part =
      let (all, hang, counts) = it.down whole part in
      let (front, back, first, (here, rest, hangs, none, back_is), all_is) = hang_split HasAny links (link ∷ []) all hang in
      let whole_is : all ≡ front ++ (here ++ []) = all_is ∙ ap (λ xs. front ++ xs) (back_is ∙ ap (λ xs. here ++ xs) none) in (
        front,
        here,
        node_of validation letters directory HasAny link.at link.low link.high here some_entry hangs,
        first,
        λ n. counts n ∙ count_append n it.seen all ∙ ap (λ xs. count_in n it.seen + count_in n xs) whole_is ∙ tail n (count_in n it.seen) front here,
      )
    where
      tail : (n k : ℕ) (front here : List ℕ) → k + count_in n (front ++ (here ++ [])) ≡ k + (count_in n front + count_in n here)
      tail n k front here = omega (arith, count_append n front (here ++ []), count_append n here [])

  in_node : (Reads : Entry → List ℕ → Type 0) (at : ℕ) (low high : Option ℕ) (all : List ℕ) (node : Node validation letters directory Reads at low high all) (n : ℕ)
      → count_in n all ≡ count_in n (at ∷ []) + (count_in n node.lefts + (count_in n node.own + count_in n node.rights))
  in_node Reads at low high all node n =
      ap (count_in n) node.all_is ∙ parts at node.lefts node.own node.rights
    where
      parts : (at : ℕ) (l o r : List ℕ) → count_in n (l ++ at ∷ (o ++ r)) ≡ count_in n (at ∷ []) + (count_in n l + (count_in n o + count_in n r))
      parts at l o r = omega (arith, count_append n l (at ∷ (o ++ r)), count_append n o r)

  -- an entry that was seen hangs at no link of a tree
  pub seen_twice : (root : ℕ) (links : List Link) (link : Link) (marks : List Bool) → Walked root (links ++ link ∷ []) marks → (link.at ≡ no_entry → ⊥)
      → link.at < length marks → get_or marks link.at false ≡ true
      → (whole : List ℕ) → Part validation letters directory HasAny root None None whole → IsDistinct nat_eq (0 ∷ whole) → ⊥
  seen_twice root links link marks it some_entry within set whole part distinct =
      let (front, all, node, first, counts) = hung root links link marks it some_entry whole part in
      let at = link.at in
      let here = in_node HasAny at link.low link.high all node at in
      omega (arith, counts_from_distinct (0 ∷ whole) distinct at, counts at, here, count_here at [], it.marked.set at within set)

  same_count : (n at : ℕ) (n_seen : ℕ) (f l o r : List ℕ) (all : List ℕ) → count_in n all ≡ count_in n (at ∷ []) + (count_in n l + (count_in n o + count_in n r))
      → n_seen + (count_in n f + count_in n all) ≡ (count_in n (at ∷ []) + n_seen) + count_in n (f ++ (l ++ (r ++ (o ++ []))))
  same_count n at n_seen f l o r all e =
      omega (arith, e, count_append n f (l ++ (r ++ (o ++ []))), count_append n l (r ++ (o ++ [])), count_append n r (o ++ []), count_append n o [])

  -- the entry at a link is seen, and its links are left
  pub went : (root : ℕ) (links : List Link) (link : Link) (marks : List Bool) → Walked root (links ++ link ∷ []) marks → (link.at ≡ no_entry → ⊥)
      → (fit : IsFit validation letters directory link.low link.high link.at) → get_or marks link.at false ≡ false
      → Walked root (links ++ links_at fit.entry link) (set marks link.at true)
  went root links link marks it some_entry fit clear =
      let at = link.at in
      let within : at < length marks = omega (arith, it.size, slice_get_within directory at fit.entry fit.found) in
      let fresh : count_in at it.seen ≡ 0 = it.marked.unset at within clear in
      record {
        seen = at ∷ it.seen;
        size = simp length-set it.size;
        marked = record {
          set = λ n below is. by_set n (nat_eq n at) refl below is;
          unset = λ n below is. by_unset n (nat_eq n at) refl within below is;
        };
        once = λ n. by_once n (nat_eq n at) refl fresh (it.once n);
        up = λ all hang.
            let (front, back, first, (l, rest, left, (r, rest', right, (o, rest'', inner, none, e''), e'), e), all_is) = hang_split HasSize links (links_at fit.entry link) all hang in
            let node : Node validation letters directory HasSize at link.low link.high (l ++ at ∷ (o ++ r)) =
            record { fit = fit; lefts = l; own = o; rights = r; all_is = refl; left = left; within = inner; right = right } in
            let sizes : (e : Entry) → (content : List ℕ) × HasSize e content = λ e. (replicate e.size 0, simp length-replicate refl) in
            let part = part_of validation letters directory HasSize sizes at link.low link.high (l ++ at ∷ (o ++ r)) node in
            let (whole, tree, counts) = it.up (front ++ ((l ++ at ∷ (o ++ r)) ++ [])) (hang_join HasSize links (link ∷ []) front ((l ++ at ∷ (o ++ r)) ++ []) first (l ++ at ∷ (o ++ r), [], part, refl, refl)) in
            let all_there : all ≡ front ++ (l ++ (r ++ (o ++ []))) =
            all_is ∙ ap (λ xs. front ++ xs) (e ∙ ap (λ xs. l ++ xs) (e' ∙ ap (λ xs. r ++ xs) (e'' ∙ ap (λ xs. o ++ xs) none))) in (
              whole,
              tree,
              λ n.
                  counts n ∙ count_append n it.seen (front ++ ((l ++ at ∷ (o ++ r)) ++ []))
                  ∙ ends n (count_in n it.seen) front (l ++ at ∷ (o ++ r))
                  ∙ same_count n at (count_in n it.seen) front l o r (l ++ at ∷ (o ++ r)) (in_node HasSize at link.low link.high (l ++ at ∷ (o ++ r)) node n)
                  ∙ ap (λ xs. (count_in n (at ∷ []) + count_in n it.seen) + count_in n xs) (sym all_there)
                  ∙ again n at it.seen all,
            );
        down = λ whole part.
            let (front, all, node, first, counts) = hung root links link marks it some_entry whole part in
            let same : node.fit.entry ≡ fit.entry = Some_same (sym node.fit.found ∙ fit.found) in
            let left = subst (λ (e : Entry). Part validation letters directory HasAny e.left link.low (Some at) node.lefts) same node.left in
            let right = subst (λ (e : Entry). Part validation letters directory HasAny e.right (Some at) link.high node.rights) same node.right in
            let inner = subst (λ (e : Entry). Part validation letters directory HasAny (child_at e) None None node.own) same node.within in (
              front ++ (node.lefts ++ (node.rights ++ (node.own ++ []))),
              hang_join HasAny links (links_at fit.entry link) front (node.lefts ++ (node.rights ++ (node.own ++ []))) first
                  (node.lefts, node.rights ++ (node.own ++ []), left, (node.rights, node.own ++ [], right, (node.own, [], inner, refl, refl), refl), refl),
              λ n. counts n
                  ∙ same_count n at (count_in n it.seen) front node.lefts node.own node.rights all (in_node HasAny at link.low link.high all node n)
                  ∙ again n at it.seen (front ++ (node.lefts ++ (node.rights ++ (node.own ++ [])))),
            );
      }
    where
      ends : (n k : ℕ) (front here : List ℕ) → k + count_in n (front ++ (here ++ [])) ≡ k + (count_in n front + count_in n here)
      ends n k front here = omega (arith, count_append n front (here ++ []), count_append n here [])

      again : (n at : ℕ) (seen all : List ℕ) → (count_in n (at ∷ []) + count_in n seen) + count_in n all ≡ count_in n ((at ∷ seen) ++ all)
      again n at seen all = omega (arith, count_append n seen all)

      by_set : (n : ℕ) (b : Bool) → nat_eq n link.at ≡ b → n < length (set marks link.at true) → get_or (set marks link.at true) n false ≡ true → 0 < count_in n (link.at ∷ it.seen)
      by_set n true same below is = rw same (omega arith)
      by_set n false other below is =
          let apart : n ≢ link.at = grind arith in
          rw other (omega (arith, it.marked.set n (simp length-set at below) (sym (get_or-set_other marks link.at n true false apart) ∙ is)))

      by_unset : (n : ℕ) (b : Bool) → nat_eq n link.at ≡ b → link.at < length marks → n < length (set marks link.at true) → get_or (set marks link.at true) n false ≡ false → count_in n (link.at ∷ it.seen) ≡ 0
      by_unset n true same within below is =
          let here : n ≡ link.at = grind arith in
          let never : true ≡ false = sym (get_or-set_same marks link.at true false within) ∙ ap (λ k. get_or (set marks link.at true) k false) (sym here) ∙ is in absurd (cc)
      by_unset n false other within below is =
          let apart : n ≢ link.at = grind arith in
          rw other (omega (arith, it.marked.unset n (simp length-set at below) (sym (get_or-set_other marks link.at n true false apart) ∙ is)))

      by_once : (n : ℕ) (b : Bool) → nat_eq n link.at ≡ b → count_in link.at it.seen ≡ 0 → count_in n it.seen ≤ 1 → count_in n (link.at ∷ it.seen) ≤ 1
      by_once n true same fresh once =
          let here : n ≡ link.at = grind arith in
          let zero_times : count_in n it.seen ≡ 0 = rw here fresh in rw same (omega (arith, zero_times))
      by_once n false other fresh once = rw other (omega (arith, once))

  -- a tree of the root's child
  pub part_from : (tree : Tree) (it : IsTakenAs validation letters HasAny directory tree) → Part validation letters directory HasAny it.holds.root.child None None it.holds.ids
  part_from tree it = record {
    ids = it.holds.children;
    content = tree.content;
    siblings = it.holds.siblings;
    holds = it.holds.holds;
    rising = it.holds.ordered.0;
    inside = it.holds.ordered.1;
    over = no_bound validation letters directory HasAny (child_names tree.content);
    under = no_limit validation letters directory HasAny (child_names tree.content);
    taken = it.below;
  }

  -- where no link is left all was seen, and the directory is a tree
  pub arrived : (root : Entry) (marks : List Bool) → slice_get directory 0 ≡ Some root → IsTakenAsRoot validation root → root.kind ≡ kind_root
      → Walked root.child [] marks → (tree : Tree) × IsTakenAs validation letters HasSize directory tree
  arrived root marks found taken kind it =
      let (whole, part, counts) = it.up [] refl in (
        record { root = root.facts; content = part.content },
        record {
          holds = record {
            root = root;
            root_found = found;
            root_kind = kind;
            facts = refl;
            children = part.ids;
            ids = whole;
            siblings = part.siblings;
            holds = part.holds;
            once = distinct_from_counts (0 ∷ whole) (λ n. subst (λ k. k ≤ 1) (sym (counts n ∙ ap (count_in n) (append-nil it.seen))) (it.once n));
            ordered = (part.rising, part.inside);
          };
          root = taken;
          below = part.taken;
        },
      )

  -- the part that a tree of this root has
  root_part : (root : Entry) (tree : Tree) (it : IsTakenAs validation letters HasAny directory tree) → slice_get directory 0 ≡ Some root
      → Part validation letters directory HasAny root.child None None it.holds.ids
  root_part root tree it found =
      let same : it.holds.root ≡ root = Some_same (sym it.holds.root_found ∙ found) in
      subst (λ (e : Entry). Part validation letters directory HasAny e.child None None it.holds.ids) same (part_from tree it)

  -- no reader takes the directory as a tree where an entry doesn't fit, or is met again
  pub unfit : (root : Entry) (links : List Link) (link : Link) (marks : List Bool) → slice_get directory 0 ≡ Some root → Walked root.child (links ++ link ∷ []) marks
      → (link.at ≡ no_entry → ⊥) → (IsFit validation letters directory link.low link.high link.at → ⊥) → (tree : Tree) → IsTakenAs validation letters HasAny directory tree → ⊥
  unfit root links link marks found walked some_entry wrong tree it =
      let (front, all, node, first, counts) = hung root.child links link marks walked some_entry it.holds.ids (root_part root tree it found) in
      wrong node.fit

  pub repeated : (root : Entry) (links : List Link) (link : Link) (marks : List Bool) → slice_get directory 0 ≡ Some root → Walked root.child (links ++ link ∷ []) marks
      → (link.at ≡ no_entry → ⊥) → link.at < length marks → get_or marks link.at false ≡ true → (tree : Tree) → IsTakenAs validation letters HasAny directory tree → ⊥
  repeated root links link marks found walked some_entry within set tree it =
      seen_twice root.child links link marks walked some_entry within set it.holds.ids (root_part root tree it found) it.holds.once

  pub at_within : (root : ℕ) (pending : List Link) (marks : List Bool) (low high : Option ℕ) (at : ℕ) → Walked root pending marks → IsFit validation letters directory low high at → at < length marks
  at_within root pending marks low high at walked fit = omega (arith, walked.size, slice_get_within directory at fit.entry fit.found)

-- before the walk the root alone is marked
pub first_marked : (n : ℕ) → 0 < n → AreMarked (set (replicate n false) 0 true) (0 ∷ [])
first_marked n some_there = record { set = λ k below is. by_set k (nat_eq k 0) refl (simp (length-set, length-replicate) at below) is; unset = λ k below is. by_unset k (nat_eq k 0) refl is }
  where
    long : 0 < length (replicate n false)
    long = simp length-replicate some_there

    by_set : (k : ℕ) (b : Bool) → nat_eq k 0 ≡ b → k < n → get_or (set (replicate n false) 0 true) k false ≡ true → 0 < count_in k (0 ∷ [])
    by_set k true same below is = rw same (omega arith)
    by_set k false other below is =
        let apart : k ≢ 0 = grind arith in
        let never : false ≡ true = sym (get_or-replicate n k false false below) ∙ sym (get_or-set_other (replicate n false) 0 k true false apart) ∙ is in absurd (cc)

    by_unset : (k : ℕ) (b : Bool) → nat_eq k 0 ≡ b → get_or (set (replicate n false) 0 true) k false ≡ false → count_in k (0 ∷ []) ≡ 0
    by_unset k true same is =
        let here : k ≡ 0 = grind arith in
        let never : true ≡ false = sym (get_or-set_same (replicate n false) 0 true false long) ∙ ap (λ j. get_or (set (replicate n false) 0 true) j false) (sym here) ∙ is in absurd (cc)
    by_unset k false other is = rw other (omega arith)

-- a root that is taken is of its kind
pub kind_of_root : (v : Validation) (e : Entry) → IsTakenAsRoot v e → e.kind ≡ kind_root
kind_of_root Permissive e h = h
kind_of_root Strict e h = h.0.0
