-- A part of a tree of siblings, and the node that it hangs by.
use Rattle.std.proofs.Common.{◌≡◌, ℕ, List, [], ◌∷◌, ◌++◌, refl, sym, ◌∙◌, ap, subst, arith, ◌⊎◌, inl, inr}
use Rattle.std.specs.Prelude.{Option, Some, None, slice_get, IfSome, ⊤}
use Rattle.std.specs.List.{AllByRecursion}
use Rattle.std.specs.List.Sorted.{IsStrictlySortedBy}
use Rattle.std.specs.declared.cmp.Ordering.TheVariants.{Less}
use Rattle.cfb_sectors.specs.declared.validation.Validation.{Validation}
use Rattle.cfb_sectors.specs.declared.validation.Validation.TheVariants.{Permissive, Strict}
use Rattle.cfb_tree.specs.Names.{CaseTable, name_cmp}
use Rattle.cfb_tree.specs.Tree.{Content, nothing, stream, storage, child_names, IsOrderedInside}
use Rattle.cfb_tree.specs.Directory.{Entry, HasName, Siblings, none, some, Holds, no_entry, kind_storage, kind_stream}
use Rattle.cfb_tree.specs.Objects.{Object, a_stream, a_storage, before, name_of, joined_contents, IsObject}
use Rattle.cfb_tree.proofs.NameOrder.{name_cmp_total}
use Rattle.cfb_tree.proofs.NamesRead.{all_append}
use Rattle.cfb_tree.proofs.OneContent.{name_unique, Some_same}
use Rattle.cfb_directory.specs.Walk.{child_at}
use Rattle.cfb_directory.specs.Taken.{IsTakenIn, IsBehind, IsAhead, IsFit}
use Rattle.cfb_directory.proofs.Lists.{sorted_parts, sorted_around, sorted_between}
use Rattle.cfb_directory.proofs.Joining.{halves, headed, join, head}
use Rattle.cfb_siblings.proofs.Joining.{names_before, names_joined}
use Rattle.cfb_siblings.proofs.Lists.{all_map, all_parts}

module _ (letters : CaseTable) (directory : List Entry) where
  -- the name comes behind that of the entry, where there is one
  abbrev pub IsOver : Option ℕ → List ℕ → Type 0
  IsOver None name = ⊤
  IsOver (Some id) name = (e : Entry) × (other : List ℕ) × (slice_get directory id ≡ Some e) × HasName e other × (name_cmp letters other name ≡ Less)

  abbrev pub IsUnder : Option ℕ → List ℕ → Type 0
  IsUnder None name = ⊤
  IsUnder (Some id) name = (e : Entry) × (other : List ℕ) × (slice_get directory id ≡ Some e) × HasName e other × (name_cmp letters name other ≡ Less)

  over_from : (low : Option ℕ) (id : ℕ) (e : Entry) (name : List ℕ) → slice_get directory id ≡ Some e → HasName e name → IsBehind letters directory low id → IsOver low name
  over_from None id e name found named h = tt
  over_from (Some low) id e name found named h =
      let same : h.second ≡ e = Some_same (sym h.second_found ∙ found) in
      let names : h.second_name ≡ name = name_unique e h.second_name name (subst (λ y. HasName y h.second_name) same h.second_named) named in
      (h.first, h.first_name, h.first_found, h.first_named, ap (name_cmp letters h.first_name) (sym names) ∙ h.less)

  under_from : (high : Option ℕ) (id : ℕ) (e : Entry) (name : List ℕ) → slice_get directory id ≡ Some e → HasName e name → IsAhead letters directory high id → IsUnder high name
  under_from None id e name found named h = tt
  under_from (Some high) id e name found named h =
      let same : h.first ≡ e = Some_same (sym h.first_found ∙ found) in
      let names : h.first_name ≡ name = name_unique e h.first_name name (subst (λ y. HasName y h.first_name) same h.first_named) named in
      (h.second, h.second_name, h.second_found, h.second_named, ap (λ n. name_cmp letters n h.second_name) (sym names) ∙ h.less)

  behind_from : (low : Option ℕ) (id : ℕ) (e : Entry) (name : List ℕ) → slice_get directory id ≡ Some e → HasName e name → IsOver low name → IsBehind letters directory low id
  behind_from None id e name found named h = tt
  behind_from (Some low) id e name found named (f, other, first_found, first_named, less) = record {
    first = f;
    second = e;
    first_name = other;
    second_name = name;
    first_found = first_found;
    second_found = found;
    first_named = first_named;
    second_named = named;
    less = less;
  }

  ahead_from : (high : Option ℕ) (id : ℕ) (e : Entry) (name : List ℕ) → slice_get directory id ≡ Some e → HasName e name → IsUnder high name → IsAhead letters directory high id
  ahead_from None id e name found named h = tt
  ahead_from (Some high) id e name found named (f, other, second_found, second_named, less) = record {
    first = e;
    second = f;
    first_name = name;
    second_name = other;
    first_found = found;
    second_found = second_found;
    first_named = named;
    second_named = second_named;
    less = less;
  }

  over_more : (low : Option ℕ) (name more : List ℕ) → name_cmp letters name more ≡ Less → IsOver low name → IsOver low more
  over_more None name more less h = tt
  over_more (Some low) name more less (e, other, found, named, under) = (e, other, found, named, (name_cmp_total letters).trans other name more under less)

  under_less : (high : Option ℕ) (name fewer : List ℕ) → name_cmp letters fewer name ≡ Less → IsUnder high name → IsUnder high fewer
  under_less None name fewer less h = tt
  under_less (Some high) name fewer less (e, other, found, named, under) = (e, other, found, named, (name_cmp_total letters).trans fewer name other less under)

pub inside_parts : (letters : CaseTable) (a b : Content) → IsOrderedInside letters (joined_contents a b) → IsOrderedInside letters a × IsOrderedInside letters b
inside_parts letters nothing b h = (tt, h)
inside_parts letters (stream n s x l) b h = inside_parts letters l b h
inside_parts letters (storage n f i l) b h = let rest = inside_parts letters l b h.2 in ((h.0, h.1, rest.0), rest.1)

inside_both : (letters : CaseTable) (a b : Content) → IsOrderedInside letters a → IsOrderedInside letters b → IsOrderedInside letters (joined_contents a b)
inside_both letters nothing b h k = k
inside_both letters (stream n s x l) b h k = inside_both letters l b h k
inside_both letters (storage n f i l) b h k = (h.0, h.1, inside_both letters l b h.2 k)

module _ (validation : Validation) (letters : CaseTable) (directory : List Entry) (Reads : Entry → List ℕ → Type 0) where
  -- all that hangs at a link is a part of a tree, between two siblings
  pub record Part (at : ℕ) (low high : Option ℕ) (all : List ℕ) : Type 0 where
    pub ids : List ℕ
    pub content : Content
    pub siblings : Siblings directory at ids
    pub holds : Holds directory Reads ids content all
    pub rising : IsStrictlySortedBy (name_cmp letters) (child_names content)
    pub inside : IsOrderedInside letters content
    pub over : AllByRecursion (IsOver letters directory low) (child_names content)
    pub under : AllByRecursion (IsUnder letters directory high) (child_names content)
    pub taken : AllByRecursion (λ id. IfSome (slice_get directory id) (IsTakenIn validation directory)) all

  pub no_part : (low high : Option ℕ) → Part no_entry low high []
  unfolding IsStrictlySortedBy
  no_part low high = record { ids = []; content = nothing; siblings = none refl refl; holds = (refl, refl); rising = tt; inside = tt; over = tt; under = tt; taken = tt }

  pub part_none : (low high : Option ℕ) (all : List ℕ) → Part no_entry low high all → all ≡ []
  part_none low high all h = held_none h.ids h.content all h.siblings h.holds
    where
      held_none : (ids : List ℕ) (c : Content) (all : List ℕ) → Siblings directory no_entry ids → Holds directory Reads ids c all → all ≡ []
      held_none ids nothing all s (is, empty) = empty
      held_none ids (stream n s x l) all (none is empty) (e, id, others, rest, ids_are, all_are, at, reads, later) = absurd (cc)
      held_none ids (storage n f i l) all (none is empty) (e, id, others, children, within, rest, ids_are, all_are, at, siblings, inside, later) = absurd (cc)
      held_none ids c all (some e before after fits found left right whole) h = absurd (omega (arith, fits))

  -- a node with the parts that hang at it
  pub record Node (at : ℕ) (low high : Option ℕ) (all : List ℕ) : Type 0 where
    pub fit : IsFit validation letters directory low high at
    pub lefts : List ℕ
    pub own : List ℕ
    pub rights : List ℕ
    pub all_is : all ≡ lefts ++ at ∷ (own ++ rights)
    pub left : Part fit.entry.left low (Some at) lefts
    pub within : Part (child_at fit.entry) None None own
    pub right : Part fit.entry.right (Some at) high rights

  is_storage_taken : (e : Entry) → IsTakenIn validation directory e → (e.kind ≡ kind_storage) ⊎ (e.kind ≡ kind_stream)
  is_storage_taken e h = by_way validation h
    where
      by_way : (v : Validation) → IsTakenIn v directory e → (e.kind ≡ kind_storage) ⊎ (e.kind ≡ kind_stream)
      by_way Permissive h = h
      by_way Strict h = h.0.0

  child_of_storage : (e : Entry) → e.kind ≡ kind_storage → child_at e ≡ e.child
  child_of_storage e is = rw is refl

  child_of_stream : (e : Entry) → e.kind ≡ kind_stream → child_at e ≡ no_entry
  child_of_stream e is = rw is refl

  pub no_bound : (names : List (List ℕ)) → AllByRecursion (IsOver letters directory None) names
  no_bound [] = tt
  no_bound (name ∷ names) = (tt, no_bound names)

  pub no_limit : (names : List (List ℕ)) → AllByRecursion (IsUnder letters directory None) names
  no_limit [] = tt
  no_limit (name ∷ names) = (tt, no_limit names)

  taken_here : (id : ℕ) (e : Entry) → slice_get directory id ≡ Some e → IfSome (slice_get directory id) (IsTakenIn validation directory) → IsTakenIn validation directory e
  taken_here id e found h = subst (λ o. IfSome o (IsTakenIn validation directory)) found h

  -- what is inside of an object is a part of the tree too
  within_object : (at : ℕ) (e : Entry) (o : Object) (own : List ℕ) (later : Content) → slice_get directory at ≡ Some e → IsObject directory Reads at o own
      → IsOrderedInside letters (before o later)
      → AllByRecursion (λ id. IfSome (slice_get directory id) (IsTakenIn validation directory)) own
      → Part (child_at e) None None own × IsOrderedInside letters later
  within_object at e (a_stream n s x) own later found (f, is, reads, empty) ordered taken =
      let same : f ≡ e = Some_same (sym is.found ∙ found) in
      let kind : e.kind ≡ kind_stream = ap (λ y. y.kind) (sym same) ∙ is.of_kind in
      (subst (λ k. Part k None None own) (sym (child_of_stream e kind)) (subst (Part no_entry None None) (sym empty) (no_part None None)), ordered)
  within_object at e (a_storage n f i) own later found (g, children, is, siblings, holds) ordered taken =
      let same : g ≡ e = Some_same (sym is.found ∙ found) in
      let kind : e.kind ≡ kind_storage = ap (λ y. y.kind) (sym same) ∙ is.of_kind in (
        subst (λ k. Part k None None own) (ap (λ y. y.child) same ∙ sym (child_of_storage e kind)) record {
          ids = children;
          content = i;
          siblings = siblings;
          holds = holds;
          rising = ordered.0;
          inside = ordered.1;
          over = no_bound (child_names i);
          under = no_limit (child_names i);
          taken = taken;
        },
        ordered.2,
      )

  object_name : (at : ℕ) (o : Object) (own : List ℕ) (e : Entry) → IsObject directory Reads at o own → slice_get directory at ≡ Some e → HasName e (name_of o)
  object_name at (a_stream n s x) own e (f, is, reads, empty) found = subst (λ y. HasName y n) (Some_same (sym is.found ∙ found)) is.named
  object_name at (a_storage n f i) own e (g, children, is, siblings, holds) found = subst (λ y. HasName y n) (Some_same (sym is.found ∙ found)) is.named

  -- a part that isn't empty hangs by a node
  pub node_of : (at : ℕ) (low high : Option ℕ) (all : List ℕ) → (at ≡ no_entry → ⊥) → Part at low high all → Node at low high all
  node_of at low high all some_entry h = by_siblings h.siblings
    where
      by_siblings : Siblings directory at h.ids → Node at low high all
      by_siblings (none is empty) = absurd (some_entry is)
      by_siblings (some e front back fits found on_left on_right whole) =
          let Taken = λ (id : ℕ). IfSome (slice_get directory id) (IsTakenIn validation directory) in
          let parts = halves directory Reads front (at ∷ back) h.content all (subst (λ ids. Holds directory Reads ids h.content all) whole h.holds) in
          let own = headed directory Reads at back parts.second parts.second_all parts.holds_second in
          let name = name_of own.object in
          let named = object_name at own.object own.own e own.is_object found in
          let content_is : h.content ≡ joined_contents parts.first (before own.object own.later) = parts.content_is ∙ ap (joined_contents parts.first) own.content_is in
          let names : child_names h.content ≡ child_names parts.first ++ name ∷ child_names own.later =
          ap child_names content_is ∙ names_joined parts.first (before own.object own.later) ∙ ap (λ ns. child_names parts.first ++ ns) (names_before own.object own.later) in
          let rising = subst (IsStrictlySortedBy (name_cmp letters)) names h.rising in
          let around = sorted_around (name_cmp letters) (child_names parts.first) name (child_names own.later) rising in
          let halves_rise = sorted_parts (name_cmp letters) (child_names parts.first) (name ∷ child_names own.later) rising in
          let later_rises = sorted_parts (name_cmp letters) (name ∷ []) (child_names own.later) halves_rise.1 in
          let over = all_parts (IsOver letters directory low) (child_names parts.first) (name ∷ child_names own.later) (subst (AllByRecursion (IsOver letters directory low)) names h.over) in
          let under = all_parts (IsUnder letters directory high) (child_names parts.first) (name ∷ child_names own.later) (subst (AllByRecursion (IsUnder letters directory high)) names h.under) in
          let all_is : all ≡ parts.first_all ++ at ∷ (own.own ++ own.rest) = parts.all_is ∙ ap (λ ids. parts.first_all ++ ids) own.all_is in
          let taken = all_parts Taken parts.first_all (at ∷ (own.own ++ own.rest)) (subst (AllByRecursion Taken) all_is h.taken) in
          let taken_more = all_parts Taken own.own own.rest taken.1.1 in
          let inside = inside_parts letters parts.first (before own.object own.later) (subst (IsOrderedInside letters) content_is h.inside) in
          let within = within_object at e own.object own.own own.later found own.is_object inside.1 taken_more.0 in
          record {
            fit = record {
              fits = fits;
              entry = e;
              found = found;
              name = name;
              named = named;
              taken = taken_here at e found taken.1.0;
              behind = behind_from letters directory low at e name found named over.1.0;
              ahead = ahead_from letters directory high at e name found named under.1.0;
            };
            lefts = parts.first_all;
            own = own.own;
            rights = own.rest;
            all_is = all_is;
            left = record {
              ids = front;
              content = parts.first;
              siblings = on_left;
              holds = parts.holds_first;
              rising = halves_rise.0;
              inside = inside.0;
              over = over.0;
              under = all_map (λ n. name_cmp letters n name ≡ Less) (IsUnder letters directory (Some at)) (child_names parts.first) (λ n less. (e, name, found, named, less)) around.0;
              taken = taken.0;
            };
            within = within.0;
            right = record {
              ids = back;
              content = own.later;
              siblings = on_right;
              holds = own.holds_later;
              rising = later_rises.1;
              inside = within.1;
              over = all_map (λ n. name_cmp letters name n ≡ Less) (IsOver letters directory (Some at)) (child_names own.later) (λ n less. (e, name, found, named, less)) around.1;
              under = under.1.1;
              taken = taken_more.1;
            };
          }

  -- an entry as an object, with what hangs at it
  pub record Made (at : ℕ) (e : Entry) (name : List ℕ) (own : List ℕ) : Type 0 where
    pub object : Object
    pub called : name_of object ≡ name
    pub is : IsObject directory Reads at object own
    pub ordered : (later : Content) → IsOrderedInside letters later → IsOrderedInside letters (before object later)

  made : ((e : Entry) → (content : List ℕ) × Reads e content) → (at : ℕ) (e : Entry) (name own : List ℕ) → slice_get directory at ≡ Some e → HasName e name
      → (e.kind ≡ kind_storage) ⊎ (e.kind ≡ kind_stream) → Part (child_at e) None None own → Made at e name own
  made reads at e name own found named (inl kind) within =
      let inside : Part e.child None None own = subst (λ k. Part k None None own) (child_of_storage e kind) within in
      record {
        object = a_storage name e.facts inside.content;
        called = refl;
        is = (e, inside.ids, record { found = found; of_kind = kind; named = named; has_facts = refl }, inside.siblings, inside.holds);
        ordered = λ later h. (inside.rising, inside.inside, h);
      }
  made reads at e name own found named (inr kind) within =
      let empty : own ≡ [] = part_none None None own (subst (λ k. Part k None None own) (child_of_stream e kind) within) in
      record {
        object = a_stream name e.facts.state_bits (reads e).0;
        called = refl;
        is = (e, record { found = found; of_kind = kind; named = named; bits = refl }, (reads e).1, empty);
        ordered = λ later h. h;
      }

  -- a node with its parts is a part
  pub part_of : ((e : Entry) → (content : List ℕ) × Reads e content) → (at : ℕ) (low high : Option ℕ) (all : List ℕ) → Node at low high all → Part at low high all
  part_of reads at low high all node =
      let Taken = λ (id : ℕ). IfSome (slice_get directory id) (IsTakenIn validation directory) in
      let e = node.fit.entry in
      let found = node.fit.found in
      let name = node.fit.name in
      let named = node.fit.named in
      let left = node.left in
      let right = node.right in
      let object = made reads at e name node.own found named (is_storage_taken e node.fit.taken) node.within in
      let is_under : (n : List ℕ) → IsUnder letters directory (Some at) n → name_cmp letters n name ≡ Less =
      λ n (f, other, found', named', less).
      let same : f ≡ e = Some_same (sym found' ∙ found) in
      let names : other ≡ name = name_unique e other name (subst (λ y. HasName y other) same named') named in
      ap (name_cmp letters n) (sym names) ∙ less in
      let is_over : (n : List ℕ) → IsOver letters directory (Some at) n → name_cmp letters name n ≡ Less =
      λ n (f, other, found', named', less).
      let same : f ≡ e = Some_same (sym found' ∙ found) in
      let names : other ≡ name = name_unique e other name (subst (λ y. HasName y other) same named') named in
      ap (λ m. name_cmp letters m n) (sym names) ∙ less in
      let below = all_map (IsUnder letters directory (Some at)) (λ n. name_cmp letters n name ≡ Less) (child_names left.content) is_under left.under in
      let above = all_map (IsOver letters directory (Some at)) (λ n. name_cmp letters name n ≡ Less) (child_names right.content) is_over right.over in
      let names : child_names (joined_contents left.content (before object.object right.content)) ≡ child_names left.content ++ name ∷ child_names right.content =
      names_joined left.content (before object.object right.content) ∙ ap (λ ns. child_names left.content ++ ns) (names_before object.object right.content)
      ∙ ap (λ n. child_names left.content ++ n ∷ child_names right.content) object.called in
      let over_here = over_from letters directory low at e name found named node.fit.behind in
      let under_here = under_from letters directory high at e name found named node.fit.ahead in
      record {
        ids = left.ids ++ at ∷ right.ids;
        content = joined_contents left.content (before object.object right.content);
        siblings = some e left.ids right.ids node.fit.fits found left.siblings right.siblings refl;
        holds = subst (Holds directory Reads (left.ids ++ at ∷ right.ids) (joined_contents left.content (before object.object right.content))) (sym node.all_is)
            (join directory Reads left.ids (at ∷ right.ids) left.content (before object.object right.content) node.lefts (at ∷ (node.own ++ node.rights)) left.holds
            (head directory Reads at right.ids object.object right.content node.own node.rights object.is right.holds));
        rising = subst (IsStrictlySortedBy (name_cmp letters)) (sym names)
            (sorted_between (name_cmp letters) (name_cmp_total letters).trans (child_names left.content) name (child_names right.content) left.rising right.rising below above);
        inside = inside_both letters left.content (before object.object right.content) left.inside (object.ordered right.content right.inside);
        over = subst (AllByRecursion (IsOver letters directory low)) (sym names)
            (all_append (IsOver letters directory low) (child_names left.content) (name ∷ child_names right.content) left.over
            (over_here, all_map (λ n. name_cmp letters name n ≡ Less) (IsOver letters directory low) (child_names right.content) (λ n less. over_more letters directory low name n less over_here) above));
        under = subst (AllByRecursion (IsUnder letters directory high)) (sym names)
            (all_append (IsUnder letters directory high) (child_names left.content) (name ∷ child_names right.content)
            (all_map (λ n. name_cmp letters n name ≡ Less) (IsUnder letters directory high) (child_names left.content) (λ n less. under_less letters directory high name n less under_here) below)
            (under_here, right.under));
        taken = subst (AllByRecursion Taken) (sym node.all_is)
            (all_append Taken node.lefts (at ∷ (node.own ++ node.rights)) left.taken
            (subst (λ o. IfSome o (IsTakenIn validation directory)) (sym found) node.fit.taken, all_append Taken node.own node.rights node.within.taken right.taken));
      }
