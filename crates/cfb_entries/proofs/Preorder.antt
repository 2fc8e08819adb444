-- A walk over a tree of entries, each storage before what it holds.
use Rattle.std.proofs.Common.{◌≡◌, ℕ, ◌+◌, ◌<◌, ◌≤◌, ◌||◌, false, suc, zero, List, [], ◌∷◌, ◌++◌, length, length-append, map, refl, sym, ◌∙◌, ap, subst, append_assoc, append-nil, arith, reverse}
use Rattle.std.specs.Prelude.{slice_get, Some, None, nat_eq}
use Rattle.std.specs.List.{AllByRecursion, IsDistinct}
use Rattle.std.proofs.lemmas.Grind.{reverse_onto}
use Rattle.std.proofs.lemmas.List.{length-map, map-append}
use Rattle.std.proofs.lemmas.Option.{slice_get_within}
use Rattle.std.proofs.lemmas.Map.Steps.{length-le_from_distinct_below}
use Rattle.cfb_spec.specs.TreeRules.{ShownObject, shown, all_shown, children_shown}
use Rattle.cfb_tree.specs.Directory.{Entry, HasName, IsStream, IsStorage, Siblings, none, Holds, no_entry, kind_stream, kind_storage}
use Rattle.cfb_tree.specs.EntryViews.{entry_in}
use Rattle.cfb_tree.specs.declared.entry.DirEntry.{DirEntry}
use Rattle.cfb_tree.specs.Objects.{Object, a_stream, a_storage, name_of, inside_of, IsObject}
use Rattle.cfb_tree.specs.Paths.{Path, path_text}
use Rattle.cfb_tree.specs.Tree.{Content, nothing, stream, storage}
use Rattle.cfb_tree.proofs.NamesRead.{all_append}
use Rattle.cfb_tree.proofs.OneContent.{name_unique, Some_same}
use Rattle.cfb_tree.specs.Entries.{HasSize, children_of}
use Rattle.cfb_entries.specs.Holding.{IsHeldAt}
use Rattle.cfb_entries.specs.Listed.{Listed, listed, listed_at, prefix_of_listed, prefix_text, is_root_path}
use Rattle.cfb_entries.proofs.Texts.{prefix_more}
use Rattle.cfb_entries.specs.Walk.{pending_at}
use Rattle.cfb_entries.specs.declared.walking.Pending.{Pending}
use Rattle.cfb_siblings.proofs.Bounds.{member_below}

reverse_cons : {A : Type 0} (x : A) (xs : List A) → reverse (x ∷ xs) ≡ reverse xs ++ x ∷ []
reverse_cons x xs = reverse_onto xs x []

-- ---- paths

pub path_child : (front : Path) (name : List ℕ) → path_text (front ++ name ∷ []) ≡ prefix_text front ++ 47 ∷ name
path_child [] name = ap (λ xs. 47 ∷ xs) (append-nil name)
path_child (part ∷ front) name = prefix_more (part ∷ front) name

pub below_root : (front : Path) (name : List ℕ) → is_root_path (front ++ name ∷ []) ≡ false
below_root [] name = refl
below_root (part ∷ front) name = refl

-- what stands in front of the slash of a child of an object below the root
pub shown_prefix : (front : Path) (o : Object) → prefix_of_listed (listed (shown (front ++ name_of o ∷ []) o)) ≡ prefix_text (front ++ name_of o ∷ [])
shown_prefix front (a_stream n b x) = rw below_root (path_child front n ∙ sym (prefix_more front n))
shown_prefix front (a_storage n f i) = rw below_root (path_child front n ∙ sym (prefix_more front n))

-- an object and what it holds, as it is listed
abbrev pub object_shown : Path → Object → List ShownObject
object_shown front o = shown (front ++ name_of o ∷ []) o ∷ all_shown (front ++ name_of o ∷ []) (inside_of o)

list_keeps : (L more : List Listed) (k : ℕ) (l : Listed) → slice_get L k ≡ Some l → slice_get (L ++ more) k ≡ Some l
list_keeps [] more k l h = absurd (cc)
list_keeps (x ∷ L) more zero l h = h
list_keeps (x ∷ L) more (suc k) l h = list_keeps L more k l h

pub last_got : (L : List Listed) (l : Listed) (k : ℕ) → k ≡ length L → slice_get (L ++ l ∷ []) k ≡ Some l
last_got [] l k is = subst (λ n. slice_get (l ∷ []) n ≡ Some l) (sym is) refl
last_got (x ∷ L) l zero is = absurd (omega (arith, is))
last_got (x ∷ L) l (suc k) is = last_got L l k (omega (arith, is))

module _ (directory : List Entry) where
  all_within : (c : Content) (ids all : List ℕ) → Holds directory HasSize ids c all → AllByRecursion (λ k. k < length directory) all
  all_within nothing ids all (is, empty) = subst (AllByRecursion (λ k. k < length directory)) (sym empty) tt
  all_within (stream n b x l) ids all (e, id, others, rest, is, all_is, at, reads, later) =
      subst (AllByRecursion (λ k. k < length directory)) (sym all_is) (slice_get_within directory id e at.found, all_within l others rest later)
  all_within (storage n f i l) ids all (e, id, others, children, within, rest, is, all_is, at, siblings, inside, later) =
      subst (AllByRecursion (λ k. k < length directory)) (sym all_is)
      (slice_get_within directory id e at.found, all_append (λ k. k < length directory) within rest (all_within i children within inside) (all_within l others rest later))

  -- entries of which none stands twice are no more than there are
  pub all_fit : (c : Content) (ids all : List ℕ) → Holds directory HasSize ids c all → IsDistinct nat_eq all → length all ≤ length directory
  all_fit c ids all holds once =
      length-le_from_distinct_below all (length directory) once (λ q m. member_below q (length directory) all (all_within c ids all holds) m)

  pub outer_fewer : (c : Content) (ids all : List ℕ) → Holds directory HasSize ids c all → length ids ≤ length all
  outer_fewer nothing ids all (is, empty) = omega (arith, ap length is)
  outer_fewer (stream n b x l) ids all (e, id, others, rest, is, all_is, at, reads, later) =
      omega (arith, ap length is, ap length all_is, outer_fewer l others rest later)
  outer_fewer (storage n f i l) ids all (e, id, others, children, within, rest, is, all_is, at, siblings, inside, later) =
      omega (arith, ap length is, ap length all_is, length-append within rest, outer_fewer l others rest later)

  -- what an entry has inside hangs at its link
  pub inside_held : (id : ℕ) (o : Object) (own : List ℕ) (e : Entry) → IsObject directory HasSize id o own → slice_get directory id ≡ Some e
      → (children : List ℕ) × Siblings directory (children_of e) children × Holds directory HasSize children (inside_of o) own
  inside_held id (a_stream n b x) own e (g, at, reads, empty) found =
      let is : g ≡ e = Some_same (sym at.found ∙ found) in
      let kind : e.kind ≡ kind_stream = ap (λ y. y.kind) (sym is) ∙ at.of_kind in
      let nowhere : children_of e ≡ no_entry = rw kind refl in
      ([], none nowhere refl, (refl, empty))
  inside_held id (a_storage n f i) own e (g, children, at, siblings, inside) found =
      let is : g ≡ e = Some_same (sym at.found ∙ found) in
      let kind : e.kind ≡ kind_storage = ap (λ y. y.kind) (sym is) ∙ at.of_kind in
      let here : g.child ≡ children_of e = ap (λ y. y.child) is ∙ rw kind refl in
      (children, subst (λ k. Siblings directory k children) here siblings, inside)

  pub object_named : (id : ℕ) (o : Object) (own : List ℕ) (e : Entry) → IsObject directory HasSize id o own → slice_get directory id ≡ Some e → HasName e (name_of o)
  object_named id (a_stream n b x) own e (f, at, reads, empty) found = subst (λ y. HasName y n) (Some_same (sym at.found ∙ found)) at.named
  object_named id (a_storage n f i) own e (g, children, at, siblings, inside) found = subst (λ y. HasName y n) (Some_same (sym at.found ∙ found)) at.named

  -- an entry is listed as the object that it is
  pub listed_as : (id : ℕ) (o : Object) (own : List ℕ) (e : Entry) (name : List ℕ) (path : Path) → IsObject directory HasSize id o own
      → slice_get directory id ≡ Some e → HasName e name → is_root_path path ≡ false → listed_at e (path_text path) name ≡ listed (shown path o)
  listed_as id (a_stream n b x) own e name path (g, at, reads, empty) found named below =
      let is : g ≡ e = Some_same (sym at.found ∙ found) in
      let kind : e.kind ≡ kind_stream = ap (λ y. y.kind) (sym is) ∙ at.of_kind in
      let names : n ≡ name = name_unique e n name (subst (λ y. HasName y n) is at.named) named in
      let size : length x ≡ e.size = reads ∙ ap (λ y. y.size) is in
      let bits : e.facts.state_bits ≡ b = ap (λ y. y.facts.state_bits) (sym is) ∙ at.bits in
      rw (kind, sym names, below, size, bits) refl
  listed_as id (a_storage n f i) own e name path (g, children, at, siblings, inside) found named below =
      let is : g ≡ e = Some_same (sym at.found ∙ found) in
      let kind : e.kind ≡ kind_storage = ap (λ y. y.kind) (sym is) ∙ at.of_kind in
      let names : n ≡ name = name_unique e n name (subst (λ y. HasName y n) is at.named) named in
      let facts : e.facts ≡ f = ap (λ y. y.facts) (sym is) ∙ at.has_facts in
      rw (kind, sym names, below, facts) refl

  pub listed_object : (id : ℕ) (o : Object) (own : List ℕ) (e : Entry) (name : List ℕ) (front : Path) → IsObject directory HasSize id o own
      → slice_get directory id ≡ Some e → HasName e name → listed_at e (prefix_text front ++ 47 ∷ name) name ≡ listed (shown (front ++ name_of o ∷ []) o)
  listed_object id o own e name front is found named =
      let same : name_of o ≡ name = name_unique e (name_of o) name (object_named id o own e is found) named in
      ap (λ text. listed_at e text name) (sym (path_child front name) ∙ ap (λ n. path_text (front ++ n ∷ [])) (sym same))
      ∙ listed_as id o own e name (front ++ name_of o ∷ []) is found named (below_root front (name_of o))

  -- what is to be listed of these entries, the last one first, and how many entries that are
  abbrev pub Left : List Listed → List Pending → List ShownObject → ℕ → Type 0
  Left L [] rest count = (rest ≡ []) × (count ≡ 0)
  Left L (p ∷ ps) rest count =
      (o : Object) × (own : List ℕ) × (front : Path) × (l : Listed) × (sooner : List ShownObject) × (others : ℕ) × IsObject directory HasSize p.id o own
      × (slice_get L p.parent ≡ Some l) × (prefix_of_listed l ≡ prefix_text front) × Left L ps sooner others
      × (rest ≡ sooner ++ object_shown front o) × (count ≡ others + (1 + length own))

  left_push : (L : List Listed) (ps : List Pending) (rest : List ShownObject) (count : ℕ) (p : Pending) (o : Object) (own : List ℕ) (front : Path) (l : Listed)
      → IsObject directory HasSize p.id o own → slice_get L p.parent ≡ Some l → prefix_of_listed l ≡ prefix_text front → Left L ps rest count
      → Left L (ps ++ p ∷ []) (object_shown front o ++ rest) (count + (1 + length own))
  left_push L [] rest count p o own front l is got prefix (none_left, zero_left) =
      (o, own, front, l, [], 0, is, got, prefix, (refl, refl), ap (λ xs. object_shown front o ++ xs) none_left ∙ append-nil (object_shown front o), omega (arith, zero_left))
  left_push L (q ∷ ps) rest count p o own front l is got prefix (o', own', front', l', sooner, others, is', got', prefix', below, rest_is, count_is) = (
    o',
    own',
    front',
    l',
    object_shown front o ++ sooner,
    others + (1 + length own),
    is',
    got',
    prefix',
    left_push L ps sooner others p o own front l is got prefix below,
    ap (λ xs. object_shown front o ++ xs) rest_is ∙ sym (append_assoc (object_shown front o) sooner (object_shown front' o')),
    omega (arith, count_is),
  )

  turn : (ids others : List ℕ) (id parent : ℕ) (ps : List Pending) (shown_rest : List ShownObject) (n m : ℕ) (L : List Listed) → ids ≡ id ∷ others → m ≡ n
      → Left L ((ps ++ pending_at parent (reverse others)) ++ record { id = id; parent = parent } ∷ []) shown_rest m
      → Left L (ps ++ pending_at parent (reverse ids)) shown_rest n
  turn ids others id parent ps shown_rest n m L is counts h =
      subst (λ qs. Left L qs shown_rest n)
      (append_assoc ps (pending_at parent (reverse others)) (record { id = id; parent = parent } ∷ [])
      ∙ ap (λ qs. ps ++ qs) (sym (map-append (λ k. record { id = k; parent = parent }) (reverse others) (id ∷ [])))
      ∙ ap (λ ks. ps ++ pending_at parent ks) (sym (ap reverse is ∙ reverse_cons id others)))
      (subst (Left L ((ps ++ pending_at parent (reverse others)) ++ record { id = id; parent = parent } ∷ []) shown_rest) counts h)

  -- the children of a storage in the list
  pub left_more : (c : Content) (ids all : List ℕ) (L : List Listed) (ps : List Pending) (rest : List ShownObject) (count parent : ℕ) (front : Path) (l : Listed)
      → Holds directory HasSize ids c all → slice_get L parent ≡ Some l → prefix_of_listed l ≡ prefix_text front → Left L ps rest count
      → Left L (ps ++ pending_at parent (reverse ids)) (all_shown front c ++ rest) (count + length all)
  left_more nothing ids all L ps rest count parent front l (is, empty) got prefix kept =
      rw (is, empty) (subst (λ qs. Left L qs rest (count + 0)) (sym (append-nil ps)) (subst (Left L ps rest) (omega arith) kept))
  left_more (stream n b x c) ids all L ps rest count parent front l (e, id, others, more, is, all_is, at, reads, later) got prefix kept =
      let p : Pending = record { id = id; parent = parent } in
      let behind = left_more c others more L ps rest count parent front l later got prefix kept in
      let here = left_push L (ps ++ pending_at parent (reverse others)) (all_shown front c ++ rest) (count + length more) p (a_stream n b x) [] front l
      (e, at, reads, refl) got prefix behind in
      turn ids others id parent ps (all_shown front (stream n b x c) ++ rest) (count + length all) (count + length more + (1 + 0)) L is (omega (arith, ap length all_is)) here
  left_more (storage n f i c) ids all L ps rest count parent front l (e, id, others, children, within, more, is, all_is, at, siblings, inside, later) got prefix kept =
      let behind = left_more c others more L ps rest count parent front l later got prefix kept in
      let here = left_push L (ps ++ pending_at parent (reverse others)) (all_shown front c ++ rest) (count + length more) (record { id = id; parent = parent }) (a_storage n f i) within front l
      (e, children, at, siblings, inside) got prefix behind in
      turn ids others id parent ps (all_shown front (storage n f i c) ++ rest) (count + length all) (count + length more + (1 + length within)) L is
      (omega (arith, ap length all_is, length-append within more))
      (subst (λ xs. Left L ((ps ++ pending_at parent (reverse others)) ++ record { id = id; parent = parent } ∷ []) xs (count + length more + (1 + length within)))
      (sym (append_assoc (object_shown front (a_storage n f i)) (all_shown front c) rest)) here)

  -- what is to come at the last entry
  pub record Popped (L : List Listed) (ps : List Pending) (p : Pending) (rest : List ShownObject) (count : ℕ) : Type 0 where
    pub object : Object
    pub own : List ℕ
    pub front : Path
    pub holder : Listed
    pub later : List ShownObject
    pub fewer : ℕ
    pub is_object : IsObject directory HasSize p.id object own
    pub got : slice_get L p.parent ≡ Some holder
    pub prefix : prefix_of_listed holder ≡ prefix_text front
    pub kept : Left L ps later fewer
    pub rest_is : rest ≡ object_shown front object ++ later
    pub count_is : count ≡ fewer + (1 + length own)

  pub left_pop : (L : List Listed) (ps : List Pending) (p : Pending) (rest : List ShownObject) (count : ℕ) → Left L (ps ++ p ∷ []) rest count → Popped L ps p rest count
  left_pop L [] p rest count (o, own, front, l, sooner, others, is, got, prefix, (none_left, zero_left), rest_is, count_is) = record {
    object = o;
    own = own;
    front = front;
    holder = l;
    later = [];
    fewer = 0;
    is_object = is;
    got = got;
    prefix = prefix;
    kept = (refl, refl);
    rest_is = rest_is ∙ ap (λ xs. xs ++ object_shown front o) none_left ∙ sym (append-nil (object_shown front o));
    count_is = omega (arith, count_is, zero_left);
  }
  left_pop L (q ∷ ps) p rest count (o, own, front, l, sooner, others, is, got, prefix, below, rest_is, count_is) =
      let it = left_pop L ps p sooner others below in
      record {
        object = it.object;
        own = it.own;
        front = it.front;
        holder = it.holder;
        later = it.later ++ object_shown front o;
        fewer = it.fewer + (1 + length own);
        is_object = it.is_object;
        got = it.got;
        prefix = it.prefix;
        kept = (o, own, front, l, it.later, it.fewer, is, got, prefix, it.kept, refl, refl);
        rest_is = rest_is ∙ ap (λ xs. xs ++ object_shown front o) it.rest_is ∙ append_assoc (object_shown it.front it.object) it.later (object_shown front o);
        count_is = omega (arith, count_is, it.count_is);
      }

  left_longer : (L : List Listed) (x : Listed) (ps : List Pending) (rest : List ShownObject) (count : ℕ) → Left L ps rest count → Left (L ++ x ∷ []) ps rest count
  left_longer L x [] rest count h = h
  left_longer L x (p ∷ ps) rest count (o, own, front, l, sooner, others, is, got, prefix, below, rest_is, count_is) =
      (o, own, front, l, sooner, others, is, list_keeps L (x ∷ []) p.parent l got, prefix, left_longer L x ps sooner others below, rest_is, count_is)

  -- how far the walk has come: what is listed, and what is to come, are the whole
  pub record Walked (L : List Listed) (ps : List Pending) (whole : List Listed) : Type 0 where
    pub rest : List ShownObject
    pub count : ℕ
    pub kept : Left L ps rest count
    pub whole_is : L ++ map listed rest ≡ whole
    pub room : length L + count ≤ length directory + 1

  pub walked_first : (link : ℕ) (c : Content) (held : IsHeldAt directory link c) (top : Listed) (L : List Listed) (ps more : List Pending) (front : Path) → L ≡ top ∷ []
      → ps ≡ [] → more ≡ ps ++ pending_at 0 (reverse held.children) → prefix_of_listed top ≡ prefix_text front
      → Walked L more (top ∷ map listed (all_shown front c))
  walked_first link c held top L ps more front L_is none_yet more_is prefix = record {
    rest = all_shown front c ++ [];
    count = 0 + length held.ids;
    kept = subst (λ qs. Left L qs (all_shown front c ++ []) (0 + length held.ids)) (ap (λ qs. qs ++ pending_at 0 (reverse held.children)) (sym none_yet) ∙ sym more_is)
        (left_more c held.children held.ids L [] [] 0 0 front top held.holds (subst (λ M. slice_get M 0 ≡ Some top) (sym L_is) refl) prefix (refl, refl));
    whole_is = ap (λ M. M ++ map listed (all_shown front c ++ [])) L_is ∙ ap (λ xs. top ∷ map listed xs) (append-nil (all_shown front c));
    room = omega (arith, ap length L_is, all_fit c held.children held.ids held.holds held.once);
  }

  module _ (L : List Listed) (ps : List Pending) (p : Pending) (whole : List Listed) (it : Walked L (ps ++ p ∷ []) whole) where
    abbrev pub popped : Popped L ps p it.rest it.count
    popped = left_pop L ps p it.rest it.count it.kept

    -- there is room for it
    pub walked_room : length L ≤ length directory
    walked_room = omega (arith, it.room, popped.count_is)

    -- so many children are no more than there are entries
    pub walked_few : (e : Entry) (found : slice_get directory p.id ≡ Some e) → length (inside_held p.id popped.object popped.own e popped.is_object found).0 ≤ length directory
    walked_few e found =
        let (children, siblings, holds) = inside_held p.id popped.object popped.own e popped.is_object found in
        omega (arith, it.room, popped.count_is, outer_fewer (inside_of popped.object) children popped.own holds)

    pub walked_more : (e : Entry) (found : slice_get directory p.id ≡ Some e) (name : List ℕ) (x : Listed) (M : List Listed) (parent : ℕ) (more : List Pending)
        → HasName e name → x ≡ listed_at e (prefix_of_listed popped.holder ++ 47 ∷ name) name → M ≡ L ++ x ∷ [] → parent ≡ length L
        → more ≡ ps ++ pending_at parent (reverse (inside_held p.id popped.object popped.own e popped.is_object found).0) → Walked M more whole
    walked_more e found name x M parent more named x_is M_is last more_is =
        let o = popped.object in
        let front = popped.front ++ name_of o ∷ [] in
        let inside = inside_held p.id o popped.own e popped.is_object found in
        let is_shown : x ≡ listed (shown front o) =
        x_is ∙ ap (λ text. listed_at e (text ++ 47 ∷ name) name) popped.prefix ∙ listed_object p.id o popped.own e name popped.front popped.is_object found named in
        let prefix : prefix_of_listed x ≡ prefix_text front = ap prefix_of_listed is_shown ∙ shown_prefix popped.front o in
        let got : slice_get M parent ≡ Some x = subst (λ K. slice_get K parent ≡ Some x) (sym M_is) (last_got L x parent last) in
        let kept = subst (λ K. Left K ps popped.later popped.fewer) (sym M_is) (left_longer L x ps popped.later popped.fewer popped.kept) in
        record {
          rest = all_shown front (inside_of o) ++ popped.later;
          count = popped.fewer + length popped.own;
          kept = subst (λ qs. Left M qs (all_shown front (inside_of o) ++ popped.later) (popped.fewer + length popped.own)) (sym more_is)
              (left_more (inside_of o) inside.0 popped.own M ps popped.later popped.fewer parent front x inside.2 got prefix kept);
          whole_is = ap (λ K. K ++ map listed (all_shown front (inside_of o) ++ popped.later)) (M_is ∙ ap (λ y. L ++ y ∷ []) is_shown)
              ∙ append_assoc L (listed (shown front o) ∷ []) (map listed (all_shown front (inside_of o) ++ popped.later))
              ∙ ap (λ xs. L ++ map listed xs) (sym popped.rest_is) ∙ it.whole_is;
          room = omega (arith, it.room, popped.count_is, ap length M_is, length-append L (x ∷ []));
        }

  pub walked_all : (L whole : List Listed) → Walked L [] whole → L ≡ whole
  walked_all L whole it = sym (append-nil L) ∙ ap (λ xs. L ++ map listed xs) (sym it.kept.0) ∙ it.whole_is

  -- how far the list of a storage's children has come
  pub record Told (front : Path) (L : List Listed) (ids : List ℕ) (whole : List Listed) : Type 0 where
    pub later : Content
    pub all : List ℕ
    pub holds : Holds directory HasSize ids later all
    pub whole_is : L ++ map listed (children_shown front later) ≡ whole

  pub told_first : (link : ℕ) (c : Content) (held : IsHeldAt directory link c) (front : Path) (L : List Listed) (ids : List ℕ) → L ≡ [] → ids ≡ held.children
      → Told front L ids (map listed (children_shown front c))
  told_first link c held front L ids none_yet ids_are = record {
    later = c;
    all = held.ids;
    holds = subst (λ ks. Holds directory HasSize ks c held.ids) (sym ids_are) held.holds;
    whole_is = ap (λ K. K ++ map listed (children_shown front c)) none_yet;
  }

  pub told_all : (front : Path) (L whole : List Listed) → Told front L [] whole → L ≡ whole
  told_all front L whole it = sym (append-nil L) ∙ ap (λ xs. L ++ map listed xs) (sym (nothing_left it.later it.all it.holds)) ∙ it.whole_is
    where
      nothing_left : (c : Content) (all : List ℕ) → Holds directory HasSize [] c all → children_shown front c ≡ []
      nothing_left nothing all h = refl
      nothing_left (stream n b x l) all (e, id, others, rest, is, all_is, at, reads, later) = absurd (cc)
      nothing_left (storage n f i l) all (e, id, others, children, within, rest, is, all_is, at, siblings, inside, later) = absurd (cc)

  -- the next child
  pub record NextChild (front : Path) (L : List Listed) (id : ℕ) (ids : List ℕ) (whole : List Listed) : Type 0 where
    pub object : Object
    pub own : List ℕ
    pub is_object : IsObject directory HasSize id object own
    pub told : Told front (L ++ listed (shown (front ++ name_of object ∷ []) object) ∷ []) ids whole

  pub told_next : (front : Path) (L : List Listed) (id : ℕ) (ids : List ℕ) (whole : List Listed) → Told front L (id ∷ ids) whole → NextChild front L id ids whole
  told_next front L id ids whole it = by_content it.later it.all it.holds it.whole_is
    where
      by_content : (c : Content) (all : List ℕ) → Holds directory HasSize (id ∷ ids) c all → L ++ map listed (children_shown front c) ≡ whole → NextChild front L id ids whole
      by_content nothing all (is, empty) whole_is = absurd (cc)
      by_content (stream n b x l) all (e, k, others, rest, is, all_is, at, reads, later) whole_is =
          let same : k ≡ id = cc in
          let others_are : others ≡ ids = cc in
          record {
            object = a_stream n b x;
            own = [];
            is_object = (e, subst (λ j. IsStream directory j e n b) same at, reads, refl);
            told = record {
              later = l;
              all = rest;
              holds = subst (λ ks. Holds directory HasSize ks l rest) others_are later;
              whole_is = append_assoc L (listed (shown (front ++ n ∷ []) (a_stream n b x)) ∷ []) (map listed (children_shown front l)) ∙ whole_is;
            };
          }
      by_content (storage n f i l) all (e, k, others, children, within, rest, is, all_is, at, siblings, inside, later) whole_is =
          let same : k ≡ id = cc in
          let others_are : others ≡ ids = cc in
          record {
            object = a_storage n f i;
            own = within;
            is_object = (e, children, subst (λ j. IsStorage directory j e n f) same at, siblings, inside);
            told = record {
              later = l;
              all = rest;
              holds = subst (λ ks. Holds directory HasSize ks l rest) others_are later;
              whole_is = append_assoc L (listed (shown (front ++ n ∷ []) (a_storage n f i)) ∷ []) (map listed (children_shown front l)) ∙ whole_is;
            };
          }

  -- an object of the directory is there, and has a name
  pub object_there : (id : ℕ) (o : Object) (own : List ℕ) → IsObject directory HasSize id o own → slice_get directory id ≡ None → ⊥
  object_there id (a_stream n b x) own (e, at, reads, empty) lost = let never : Some e ≡ None = sym at.found ∙ lost in absurd (cc)
  object_there id (a_storage n f i) own (e, children, at, siblings, inside) lost = let never : Some e ≡ None = sym at.found ∙ lost in absurd (cc)

-- the children that hang at a link are no more than there are entries
pub held_few : (entries : List DirEntry) (link : ℕ) (c : Content) (held : IsHeldAt (map entry_in entries) link c) → length held.children ≤ length entries
held_few entries link c held =
    let few : length held.ids ≤ length entries = simp length-map at (all_fit (map entry_in entries) c held.children held.ids held.holds held.once) in
    let fewer = outer_fewer (map entry_in entries) c held.children held.ids held.holds in
    omega (arith, few, fewer)
