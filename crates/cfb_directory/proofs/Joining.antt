-- What a list of siblings holds, in parts.
use Rattle.std.proofs.Common.{◌≡◌, ℕ, List, [], ◌∷◌, ◌++◌, refl, sym, ◌∙◌, ap, subst, append_assoc}
use Rattle.cfb_tree.specs.Tree.{Content, nothing, stream, storage}
use Rattle.cfb_tree.specs.Directory.{Entry, Holds}
use Rattle.cfb_tree.specs.Objects.{Object, a_stream, a_storage, before, joined_contents, IsObject}

pub joined_nothing : (a : Content) → joined_contents a nothing ≡ a
joined_nothing nothing = refl
joined_nothing (stream n s x l) = ap (λ y. stream n s x y) (joined_nothing l)
joined_nothing (storage n f i l) = ap (λ y. storage n f i y) (joined_nothing l)

module _ (directory : List Entry) (Reads : Entry → List ℕ → Type 0) where
  -- siblings in two parts
  pub record Halves (front back : List ℕ) (c : Content) (all : List ℕ) : Type 0 where
    pub first : Content
    pub second : Content
    pub first_all : List ℕ
    pub second_all : List ℕ
    pub content_is : c ≡ joined_contents first second
    pub all_is : all ≡ first_all ++ second_all
    pub holds_first : Holds directory Reads front first first_all
    pub holds_second : Holds directory Reads back second second_all

  pub halves : (front back : List ℕ) (c : Content) (all : List ℕ) → Holds directory Reads (front ++ back) c all → Halves front back c all
  halves [] back c all h = record {
    first = nothing;
    second = c;
    first_all = [];
    second_all = all;
    content_is = refl;
    all_is = refl;
    holds_first = (refl, refl);
    holds_second = h;
  }
  halves (p ∷ front) back nothing all (is, empty) = absurd (cc)
  halves (p ∷ front) back (stream n s x l) all (e, id, others, rest, is, all_is, at, reads, later) =
      let others_are : others ≡ front ++ back = cc in
      let tail = halves front back l rest (subst (λ ids. Holds directory Reads ids l rest) others_are later) in
      record {
        first = stream n s x tail.first;
        second = tail.second;
        first_all = id ∷ tail.first_all;
        second_all = tail.second_all;
        content_is = ap (λ y. stream n s x y) tail.content_is;
        all_is = all_is ∙ ap (λ ids. id ∷ ids) tail.all_is;
        holds_first = (e, id, front, tail.first_all, cc, refl, at, reads, tail.holds_first);
        holds_second = tail.holds_second;
      }
  halves (p ∷ front) back (storage n f i l) all (e, id, others, children, within, rest, is, all_is, at, siblings, inside, later) =
      let others_are : others ≡ front ++ back = cc in
      let tail = halves front back l rest (subst (λ ids. Holds directory Reads ids l rest) others_are later) in
      record {
        first = storage n f i tail.first;
        second = tail.second;
        first_all = id ∷ (within ++ tail.first_all);
        second_all = tail.second_all;
        content_is = ap (λ y. storage n f i y) tail.content_is;
        all_is = all_is ∙ ap (λ ids. id ∷ (within ++ ids)) tail.all_is
            ∙ ap (λ ids. id ∷ ids) (sym (append_assoc within tail.first_all tail.second_all));
        holds_first = (e, id, front, children, within, tail.first_all, cc, refl, at, siblings, inside, tail.holds_first);
        holds_second = tail.holds_second;
      }

  pub join : (front back : List ℕ) (c d : Content) (all more : List ℕ) → Holds directory Reads front c all → Holds directory Reads back d more
      → Holds directory Reads (front ++ back) (joined_contents c d) (all ++ more)
  join front back nothing d all more (is, empty) k = rw (is, empty) k
  join front back (stream n s x l) d all more (e, id, others, rest, is, all_is, at, reads, later) k = (
    e,
    id,
    others ++ back,
    rest ++ more,
    ap (λ ids. ids ++ back) is,
    ap (λ ids. ids ++ more) all_is,
    at,
    reads,
    join others back l d rest more later k,
  )
  join front back (storage n f i l) d all more (e, id, others, children, within, rest, is, all_is, at, siblings, inside, later) k = (
    e,
    id,
    others ++ back,
    children,
    within,
    rest ++ more,
    ap (λ ids. ids ++ back) is,
    ap (λ ids. ids ++ more) all_is ∙ ap (λ ids. id ∷ ids) (append_assoc within rest more),
    at,
    siblings,
    inside,
    join others back l d rest more later k,
  )

  -- the first of some siblings, as an object
  pub record Headed (p : ℕ) (others : List ℕ) (c : Content) (all : List ℕ) : Type 0 where
    pub object : Object
    pub later : Content
    pub own : List ℕ
    pub rest : List ℕ
    pub content_is : c ≡ before object later
    pub all_is : all ≡ p ∷ (own ++ rest)
    pub is_object : IsObject directory Reads p object own
    pub holds_later : Holds directory Reads others later rest

  pub headed : (p : ℕ) (others : List ℕ) (c : Content) (all : List ℕ) → Holds directory Reads (p ∷ others) c all → Headed p others c all
  headed p others nothing all (is, empty) = absurd (cc)
  headed p others (stream n s x l) all (e, id, others', rest, is, all_is, at, reads, later) =
      let others_are : others' ≡ others = cc in
      let id_is : id ≡ p = cc in
      record {
        object = a_stream n s x;
        later = l;
        own = [];
        rest = rest;
        content_is = refl;
        all_is = all_is ∙ ap (λ k. k ∷ rest) id_is;
        is_object = (e, rw id_is at at, reads, refl);
        holds_later = rw others_are at later;
      }
  headed p others (storage n f i l) all (e, id, others', children, within, rest, is, all_is, at, siblings, inside, later) =
      let others_are : others' ≡ others = cc in
      let id_is : id ≡ p = cc in
      record {
        object = a_storage n f i;
        later = l;
        own = within;
        rest = rest;
        content_is = refl;
        all_is = all_is ∙ ap (λ k. k ∷ (within ++ rest)) id_is;
        is_object = (e, children, rw id_is at at, siblings, inside);
        holds_later = rw others_are at later;
      }

  pub head : (p : ℕ) (others : List ℕ) (object : Object) (later : Content) (own rest : List ℕ)
      → IsObject directory Reads p object own → Holds directory Reads others later rest
      → Holds directory Reads (p ∷ others) (before object later) (p ∷ (own ++ rest))
  head p others (a_stream n s x) later own rest (e, at, reads, none) h = (e, p, others, rest, refl, rw none, at, reads, h)
  head p others (a_storage n f i) later own rest (e, children, at, siblings, inside) h =
      (e, p, others, children, own, rest, refl, refl, at, siblings, inside, h)
