use Rattle.std.proofs.Common.{◌≡◌, List, [], ◌∷◌, refl, map, Option, Some, None, option_map, cond, Bor, true, false, ◌∙◌}
use Rattle.std.specs.Prelude.{slice_get, find, option_and_then}
use Rattle.std.specs.Str.{bytes_eq}
use Rattle.clap.specs.Words.{Row, Text, all_of, first_of, first_value, matched_of, raw_values, rows_of}
use Rattle.clap.specs.Walk.{row_of}
use Rattle.clap.specs.Facts.{Entry}
use Rattle.clap.specs.declared.parser.matches.Found.{Found}

first_text : (xs : List (Bor Text)) → option_map (λ (s : Bor Text). s.now) (slice_get xs 0) ≡ slice_get (map (λ (s : Bor Text). s.now) xs) 0
first_text [] = refl
first_text (x ∷ xs) = refl

first_in : (es : List Entry) (id : Text) → option_and_then (λ (e : Entry). option_map (λ (s : Bor Text). s.now) (slice_get e.1.vals.items 0)) (find (λ (e : Entry). bytes_eq e.0.now id) es) ≡ first_of id (map row_of es)
first_in [] id = refl
first_in (e ∷ es) id = elim (bytes_eq e.0.now id) as (λ z. option_and_then (λ (x : Entry). option_map (λ (s : Bor Text). s.now) (slice_get x.1.vals.items 0)) (cond z (Some e) (find (λ (x : Entry). bytes_eq x.0.now id) es)) ≡ option_and_then (λ (r : Row). slice_get r.values 0) (cond z (Some (row_of e)) (find (λ (r : Row). bytes_eq r.id id) (map row_of es)))) [
  | true ↦ first_text e.1.vals.items
  | false ↦ first_in es id
]

abbrev there : Option Entry → Option Text
there o = option_and_then (λ (e : Entry). option_map (λ (s : Bor Text). s.now) (slice_get e.1.vals.items 0)) o

matched : (o : Option Entry) → option_and_then (λ a. option_map (λ (s : Bor Text). s.now) (slice_get a.vals.items 0)) (option_map (λ (e : Entry). e.1) o) ≡ there o
matched None = refl
matched (Some e) = refl

pub first_is : (f : Found) (id : Text) → first_value f id ≡ first_of id (rows_of f)
first_is f id = matched (find (λ (e : Entry). bytes_eq e.0.now id) f.entries.items) ∙ first_in f.entries.items id

texts_in : (es : List Entry) (id : Text) → option_map (λ (e : Entry). raw_values e.1) (find (λ (e : Entry). bytes_eq e.0.now id) es) ≡ all_of id (map row_of es)
texts_in [] id = refl
texts_in (e ∷ es) id = elim (bytes_eq e.0.now id) as (λ z. option_map (λ (x : Entry). raw_values x.1) (cond z (Some e) (find (λ (x : Entry). bytes_eq x.0.now id) es)) ≡ option_map (λ (r : Row). r.values) (cond z (Some (row_of e)) (find (λ (r : Row). bytes_eq r.id id) (map row_of es)))) [
  | true ↦ refl
  | false ↦ texts_in es id
]

texts_of : (o : Option Entry) → option_map raw_values (option_map (λ (e : Entry). e.1) o) ≡ option_map (λ (e : Entry). raw_values e.1) o
texts_of None = refl
texts_of (Some e) = refl

-- the values of an id are those of its row
pub all_is : (f : Found) (id : Text) → option_map raw_values (matched_of f id) ≡ all_of id (rows_of f)
all_is f id = texts_of (find (λ (e : Entry). bytes_eq e.0.now id) f.entries.items) ∙ texts_in f.entries.items id
