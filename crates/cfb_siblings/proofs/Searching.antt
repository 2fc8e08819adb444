-- The search for a name among siblings, step by step.
use Rattle.std.proofs.Common.{◌≡◌, ℕ, ◌+◌, ◌≤◌, length, length-append, List, [], ◌∷◌, ◌++◌, refl, sym, ◌∙◌, ap, subst, append_assoc, append-nil, arith}
use Rattle.std.specs.Prelude.{slice_get, Some, None}
use Rattle.std.specs.List.{AllByRecursion}
use Rattle.std.specs.List.Sorted.{IsStrictlySortedBy}
use Rattle.std.specs.declared.cmp.Ordering.TheVariants.{Less, Greater}
use Rattle.cfb_tree.specs.Names.{CaseTable, name_cmp}
use Rattle.cfb_tree.specs.Tree.{Content, nothing, stream, storage, child_names}
use Rattle.cfb_tree.specs.Directory.{Entry, Siblings, none, some, Holds, HasName, no_entry, greatest_entry}
use Rattle.cfb_tree.proofs.NameOrder.{name_cmp_total}
use Rattle.cfb_tree.proofs.NamesRead.{all_append}
use Rattle.cfb_tree.proofs.OneContent.{name_unique, Some_same}
use Rattle.cfb_tree.specs.Objects.{Object, a_stream, a_storage, before, name_of, child, joined_contents, IsObject}
use Rattle.cfb_siblings.specs.declared.links.Link.{Link}
use Rattle.cfb_siblings.specs.declared.links.Link.TheVariants.{Child, Left, Right}
use Rattle.cfb_siblings.specs.Places.{first, to_left, to_right}
use Rattle.cfb_siblings.proofs.Records.{Searched}
use Rattle.cfb_siblings.proofs.Lists.{all_map, sorted_around, sorted_parts}
use Rattle.cfb_siblings.proofs.Joining.{joined_assoc, joined_nothing, joined_before, names_joined, names_before, halves, join, headed, head}
use Rattle.cfb_siblings.proofs.Naming.{less_turned, greater_turned, child_past, child_none, others_below, others_above}

module _ (directory : List Entry) (Reads : Entry → List ℕ → Type 0) where
  pub object_named : (p : ℕ) (o : Object) (own : List ℕ) (e : Entry) → IsObject directory Reads p o own → slice_get directory p ≡ Some e → HasName e (name_of o)
  object_named p (a_stream n s x) own e (f, at, reads, is) found = subst (λ y. HasName y n) (Some_same (sym at.found ∙ found)) at.named
  object_named p (a_storage n f i) own e (g, children, at, siblings, inside) found = subst (λ y. HasName y n) (Some_same (sym at.found ∙ found)) at.named

  pub nothing_held : (c : Content) (all : List ℕ) → Holds directory Reads [] c all → (c ≡ nothing) × (all ≡ [])
  nothing_held nothing all (is, empty) = (refl, empty)
  nothing_held (stream n s x l) all (e, id, others, rest, is, all_is, at, reads, later) = absurd (cc)
  nothing_held (storage n f i l) all (e, id, others, children, within, rest, is, all_is, at, siblings, inside, later) = absurd (cc)

  pub no_siblings : (id : ℕ) (ids : List ℕ) → id ≡ no_entry → Siblings directory id ids → ids ≡ []
  no_siblings id ids is (none is' empty) = empty
  no_siblings id ids is (some e before after fits found left right whole) = absurd (omega (arith, is, fits))

  -- an entry among siblings, with what hangs at it on both sides
  pub record Middle (at : ℕ) (e : Entry) (here : List ℕ) (c : Content) (all : List ℕ) : Type 0 where
    pub fits : at ≤ greatest_entry
    pub front : List ℕ
    pub back : List ℕ
    pub on_left : Siblings directory e.left front
    pub on_right : Siblings directory e.right back
    pub here_is : here ≡ front ++ at ∷ back
    pub earlier : Content
    pub object : Object
    pub later : Content
    pub earlier_all : List ℕ
    pub own : List ℕ
    pub later_all : List ℕ
    pub content_is : c ≡ joined_contents earlier (before object later)
    pub all_is : all ≡ earlier_all ++ at ∷ (own ++ later_all)
    pub holds_earlier : Holds directory Reads front earlier earlier_all
    pub is_object : IsObject directory Reads at object own
    pub holds_later : Holds directory Reads back later later_all

  pub middle : (at : ℕ) (e : Entry) (here : List ℕ) (c : Content) (all : List ℕ) → (at ≡ no_entry → ⊥) → slice_get directory at ≡ Some e
      → Siblings directory at here → Holds directory Reads here c all → Middle at e here c all
  middle at e here c all some_entry found (none is empty) h = absurd (some_entry is)
  middle at e here c all some_entry found (some f front back fits found' left right whole) h =
      let same : f ≡ e = Some_same (sym found' ∙ found) in
      let parts = halves directory Reads front (at ∷ back) c all (subst (λ ids. Holds directory Reads ids c all) whole h) in
      let own = headed directory Reads at back parts.second parts.second_all parts.holds_second in
      record {
        fits = fits;
        front = front;
        back = back;
        here_is = whole;
        on_left = subst (λ y. Siblings directory y.left front) same left;
        on_right = subst (λ y. Siblings directory y.right back) same right;
        earlier = parts.first;
        object = own.object;
        later = own.later;
        earlier_all = parts.first_all;
        own = own.own;
        later_all = own.rest;
        content_is = parts.content_is ∙ ap (joined_contents parts.first) own.content_is;
        all_is = parts.all_is ∙ ap (λ ids. parts.first_all ++ ids) own.all_is;
        holds_earlier = parts.holds_first;
        is_object = own.is_object;
        holds_later = own.holds_later;
      }

module _ (directory : List Entry) (Reads : Entry → List ℕ → Type 0) (letters : CaseTable) (wanted : List ℕ) (owner root : ℕ)
    (ids : List ℕ) (c : Content) (all : List ℕ) where
  -- the search begins
  pub begun : Siblings directory root ids → Holds directory Reads ids c all
      → Searched directory Reads letters wanted owner root ids c all (Child owner) root 0
  begun siblings holds = record {
    front = [];
    here = ids;
    back = [];
    earlier = nothing;
    there = c;
    later = nothing;
    earlier_all = [];
    there_all = all;
    later_all = [];
    ids_are = rw append-nil;
    content_is = sym (joined_nothing c);
    all_is = rw append-nil;
    hangs = first refl refl refl refl;
    siblings = siblings;
    holds_earlier = (refl, refl);
    holds_there = holds;
    holds_later = (refl, refl);
    below = tt;
    above = tt;
    bound = omega arith;
  }

  module _ (link : Link) (at steps : ℕ) (so_far : Searched directory Reads letters wanted owner root ids c all link at steps) where
    -- it ended at a link to no entry, and there is no such name
    pub ended : at ≡ no_entry → (so_far.here ≡ []) × (so_far.there ≡ nothing) × (so_far.there_all ≡ [])
    ended is =
        let empty : so_far.here ≡ [] = no_siblings directory Reads at so_far.here is so_far.siblings in
        let held = nothing_held directory Reads so_far.there so_far.there_all
        (subst (λ xs. Holds directory Reads xs so_far.there so_far.there_all) empty so_far.holds_there) in
        (empty, held.0, held.1)

    pub not_found : at ≡ no_entry → child letters c wanted ≡ None
    not_found is =
        let parts : c ≡ joined_contents so_far.earlier so_far.later =
        so_far.content_is ∙ ap (λ t. joined_contents so_far.earlier (joined_contents t so_far.later)) ((ended is).1) in
        ap (λ t. child letters t wanted) parts
        ∙ child_past letters wanted so_far.earlier so_far.later (others_below letters wanted so_far.earlier so_far.below)
        ∙ child_none letters wanted so_far.later (others_above letters wanted so_far.later so_far.above)

    module _ (e : Entry) (name : List ℕ) (rising : IsStrictlySortedBy (name_cmp letters) (child_names c)) (some_entry : at ≡ no_entry → ⊥)
        (found : slice_get directory at ≡ Some e) (named : HasName e name) where
      -- the entry that the search came to
      pub seen : Middle directory Reads at e so_far.here so_far.there so_far.there_all
      seen = middle directory Reads at e so_far.here so_far.there so_far.there_all some_entry found so_far.siblings so_far.holds_there

      name_is : (m : Middle directory Reads at e so_far.here so_far.there so_far.there_all) → name ≡ name_of m.object
      name_is m = name_unique e name (name_of m.object) named (object_named directory Reads at m.object m.own e m.is_object found)

      -- names on both sides of it
      around : (m : Middle directory Reads at e so_far.here so_far.there so_far.there_all)
          → AllByRecursion (λ y. name_cmp letters y name ≡ Less) (child_names m.earlier)
          × AllByRecursion (λ y. name_cmp letters name y ≡ Less) (child_names m.later)
      around m =
          let whole : child_names c ≡ child_names so_far.earlier ++ ((child_names m.earlier ++ name ∷ child_names m.later) ++ child_names so_far.later) =
          ap child_names so_far.content_is ∙ names_joined so_far.earlier (joined_contents so_far.there so_far.later)
          ∙ ap (λ ns. child_names so_far.earlier ++ ns) (names_joined so_far.there so_far.later)
          ∙ ap (λ t. child_names so_far.earlier ++ (child_names t ++ child_names so_far.later)) m.content_is
          ∙ ap (λ ns. child_names so_far.earlier ++ (ns ++ child_names so_far.later)) (names_joined m.earlier (before m.object m.later)
          ∙ ap (λ ns. child_names m.earlier ++ ns) (names_before m.object m.later)
          ∙ ap (λ n. child_names m.earlier ++ n ∷ child_names m.later) (sym (name_is m))) in
          let all_rise = subst (IsStrictlySortedBy (name_cmp letters)) whole rising in
          let inner = (sorted_parts (name_cmp letters) (child_names so_far.earlier)
          ((child_names m.earlier ++ name ∷ child_names m.later) ++ child_names so_far.later) all_rise).1 in
          sorted_around (name_cmp letters) (child_names m.earlier) name (child_names m.later)
          ((sorted_parts (name_cmp letters) (child_names m.earlier ++ name ∷ child_names m.later) (child_names so_far.later) inner).0)

      pub go_left : name_cmp letters wanted name ≡ Less
          → Searched directory Reads letters wanted owner root ids c all (Left at) e.left (steps + 1)
      go_left less =
          let m = seen in
          record {
            front = so_far.front;
            here = m.front;
            back = at ∷ (m.back ++ so_far.back);
            earlier = so_far.earlier;
            there = m.earlier;
            later = before m.object (joined_contents m.later so_far.later);
            earlier_all = so_far.earlier_all;
            there_all = m.earlier_all;
            later_all = at ∷ (m.own ++ (m.later_all ++ so_far.later_all));
            ids_are = so_far.ids_are ∙ ap (λ xs. so_far.front ++ (xs ++ so_far.back)) m.here_is ∙ simp append_assoc refl;
            content_is = so_far.content_is
                ∙ ap (λ t. joined_contents so_far.earlier (joined_contents t so_far.later)) m.content_is
                ∙ ap (joined_contents so_far.earlier) (joined_assoc m.earlier (before m.object m.later) so_far.later
                ∙ ap (joined_contents m.earlier) (joined_before m.object m.later so_far.later));
            all_is = so_far.all_is ∙ ap (λ xs. so_far.earlier_all ++ (xs ++ so_far.later_all)) m.all_is ∙ simp append_assoc refl;
            hangs = to_left link at e m.back so_far.back so_far.hangs m.fits found m.on_right refl refl refl;
            siblings = m.on_left;
            holds_earlier = so_far.holds_earlier;
            holds_there = m.holds_earlier;
            holds_later = head directory Reads at (m.back ++ so_far.back) m.object (joined_contents m.later so_far.later) m.own
                (m.later_all ++ so_far.later_all) m.is_object
                (join directory Reads m.back so_far.back m.later so_far.later m.later_all so_far.later_all m.holds_later so_far.holds_later);
            below = so_far.below;
            above = rw (names_before m.object (joined_contents m.later so_far.later), names_joined m.later so_far.later, ← name_is m) (
              less,
              all_append (λ n. name_cmp letters wanted n ≡ Less) (child_names m.later) (child_names so_far.later)
                  (all_map (λ n. name_cmp letters name n ≡ Less) (λ n. name_cmp letters wanted n ≡ Less) (child_names m.later)
                  (λ n above. (name_cmp_total letters).trans wanted name n less above) ((around m).1)) so_far.above,
            );
            bound = omega (arith, so_far.bound, ap length m.here_is, length-append m.front (at ∷ m.back));
          }

      pub go_right : name_cmp letters wanted name ≡ Greater
          → Searched directory Reads letters wanted owner root ids c all (Right at) e.right (steps + 1)
      go_right greater =
          let m = seen in
          record {
            front = so_far.front ++ (m.front ++ at ∷ []);
            here = m.back;
            back = so_far.back;
            earlier = joined_contents so_far.earlier (joined_contents m.earlier (before m.object nothing));
            there = m.later;
            later = so_far.later;
            earlier_all = so_far.earlier_all ++ (m.earlier_all ++ at ∷ (m.own ++ []));
            there_all = m.later_all;
            later_all = so_far.later_all;
            ids_are = so_far.ids_are ∙ ap (λ xs. so_far.front ++ (xs ++ so_far.back)) m.here_is ∙ simp append_assoc refl;
            content_is = so_far.content_is
                ∙ ap (λ t. joined_contents so_far.earlier (joined_contents t so_far.later)) m.content_is
                ∙ simp (joined_assoc, joined_before) refl;
            all_is = so_far.all_is ∙ ap (λ xs. so_far.earlier_all ++ (xs ++ so_far.later_all)) m.all_is ∙ simp (append_assoc, append-nil) refl;
            hangs = to_right link at e m.front so_far.front so_far.hangs m.fits found m.on_left refl refl refl;
            siblings = m.on_right;
            holds_earlier = join directory Reads so_far.front (m.front ++ at ∷ []) so_far.earlier (joined_contents m.earlier (before m.object nothing))
                so_far.earlier_all (m.earlier_all ++ at ∷ (m.own ++ [])) so_far.holds_earlier
                (join directory Reads m.front (at ∷ []) m.earlier (before m.object nothing) m.earlier_all (at ∷ (m.own ++ [])) m.holds_earlier
                (head directory Reads at [] m.object nothing m.own [] m.is_object (refl, refl)));
            holds_there = m.holds_later;
            holds_later = so_far.holds_later;
            below = rw (
              names_joined so_far.earlier (joined_contents m.earlier (before m.object nothing)),
              names_joined m.earlier (before m.object nothing),
              names_before m.object nothing,
              ← name_is m,
            )
                (all_append (λ n. name_cmp letters wanted n ≡ Greater) (child_names so_far.earlier) (child_names m.earlier ++ name ∷ [])
                so_far.below (all_append (λ n. name_cmp letters wanted n ≡ Greater) (child_names m.earlier) (name ∷ [])
                (all_map (λ n. name_cmp letters n name ≡ Less) (λ n. name_cmp letters wanted n ≡ Greater) (child_names m.earlier)
                (λ n under. less_turned letters wanted n
                ((name_cmp_total letters).trans n name wanted under (greater_turned letters wanted name greater))) ((around m).0))
                (greater, tt)));
            above = so_far.above;
            bound = omega (arith, so_far.bound, ap length m.here_is, length-append m.front (at ∷ m.back));
          }
