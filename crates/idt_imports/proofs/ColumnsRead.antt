-- Columns that were read.
use Rattle.std.proofs.Common.{◌≡◌, ◌∙◌, ℕ, ◌+◌, ◌<◌, ◌≤◌, Bool, List, [], ◌∷◌, ◌++◌, length, get_or, take, map, refl, sym, subst, ap, ap₂, arith}
use Rattle.std.specs.Prelude.{◌||◌, string_bytes}
use Rattle.std.specs.List.{list_any}
use Rattle.std.proofs.lemmas.List.{map-append, take_all, take_more}
use Rattle.idt_tables.specs.Headings.{Heading}
use Rattle.idt_tables.specs.declared.types.ColumnType.{ColumnType}
use Rattle.idt_imports.specs.Columns.{HasColumns, is_among}
use Rattle.idt_imports.specs.declared.columns.IdtColumn.{IdtColumn}

pub map_map : {A B C : Type 0} (f : B → C) (g : A → B) (xs : List A) → map (λ x. f (g x)) xs ≡ map f (map g xs)
map_map f g [] = refl
map_map f g (x ∷ xs) = ap (λ l. f (g x) ∷ l) (map_map f g xs)

pub any_map : {A B : Type 0} (p : B → Bool) (f : A → B) (xs : List A) → list_any p (map f xs) ≡ list_any (λ x. p (f x)) xs
any_map p f [] = refl
any_map p f (x ∷ xs) = ap (λ b. p (f x) || b) (any_map p f xs)

-- what is told of those so far, with one more
pub mapped_more : {A B C : Type 0} (f : A → C) (g : B → C) (done : List A) (x : A) (ps : List B) (i : ℕ) (d : B) → i < length ps → f x ≡ g (get_or ps i d)
    → map f done ≡ map g (take i ps) → map f (done ++ x ∷ []) ≡ map g (take (i + 1) ps)
mapped_more f g done x ps i d below one so_far =
    map-append f done (x ∷ [])
    ∙ ap₂ (λ a b. a ++ b ∷ []) so_far one
    ∙ sym (ap (map g) (take_more ps i d below) ∙ map-append g (take i ps) (get_or ps i d ∷ []))

pub taken_more : {A C : Type 0} (f : A → C) (done : List A) (x : A) (ts : List C) (i : ℕ) → i < length ts → f x ≡ get_or ts i (f x) → map f done ≡ take i ts
    → map f (done ++ x ∷ []) ≡ take (i + 1) ts
taken_more f done x ts i below is so_far =
    map-append f done (x ∷ []) ∙ ap₂ (λ a b. a ++ b ∷ []) so_far is ∙ sym (take_more ts i (f x) below)

-- the columns of the first names
pub record HasFirst {B : Type 0} (text_of : B → List ℕ) (ns : List B) (ts : List ColumnType) (ks : List (List ℕ)) (at : ℕ) (columns : List IdtColumn) : Type 0 where
  pub names : map (λ c. string_bytes c.name) columns ≡ map text_of (take at ns)
  pub types : map (λ c. c.coltype) columns ≡ take at ts
  pub keys : map (λ c. c.is_key) columns ≡ map (λ n. is_among ks (text_of n)) (take at ns)

module _ {B : Type 0} (text_of : B → List ℕ) (names : List B) (types : List ColumnType) (keys : List (List ℕ)) where
  pub one_more : (at : ℕ) (columns new : List IdtColumn) (c : IdtColumn) (d : B) → at < length names → length names ≡ length types → new ≡ columns ++ c ∷ []
      → string_bytes c.name ≡ text_of (get_or names at d) → c.coltype ≡ get_or types at c.coltype → c.is_key ≡ is_among keys (text_of (get_or names at d))
      → HasFirst text_of names types keys at columns → HasFirst text_of names types keys (at + 1) new
  one_more at columns new c d below same made named typed marked first =
      let more : HasFirst text_of names types keys (at + 1) (columns ++ c ∷ []) = record {
        names = mapped_more (λ c. string_bytes c.name) text_of columns c names at d below named first.names;
        types = taken_more (λ c. c.coltype) columns c types at (omega (arith, below, same)) typed first.types;
        keys = mapped_more (λ c. c.is_key) (λ n. is_among keys (text_of n)) columns c names at d below marked first.keys;
      } in
      subst (HasFirst text_of names types keys (at + 1)) (sym made) more

  pub all_there : (at : ℕ) (columns : List IdtColumn) (h : Heading) → length names ≤ at → length names ≡ length types → h.names ≡ map text_of names → h.types ≡ types → h.keys ≡ keys
      → HasFirst text_of names types keys at columns → HasColumns columns h
  all_there at columns h past same n t k first = record {
    names = first.names ∙ ap (map text_of) (take_all at names past) ∙ sym n;
    types = first.types ∙ take_all at types (omega (arith, past, same)) ∙ sym t;
    keys = first.keys ∙ ap (map (λ x. is_among keys (text_of x))) (take_all at names past) ∙ map_map (is_among keys) text_of names ∙ ap₂ (λ ks ns. map (is_among ks) ns) (sym k) (sym n);
  }
