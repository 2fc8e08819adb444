-- Columns that are compared one after the other.
use Rattle.std.proofs.Common.{◌≡◌, ◌∙◌, Bool, true, false, ℕ, zero, suc, ◌+◌, ◌<◌, ◌≤◌, List, [], ◌∷◌, ◌++◌, drop, length, map, refl, sym, ap, ap₂, arith, append_assoc, eq-eqb}
use Rattle.std.proofs.lemmas.Bool.{eqb-true}
use Rattle.std.proofs.lemmas.Bool.Decides.{nat_tests}
use Rattle.std.specs.Prelude.{◌↔◌, ◌&&◌, not, if◌then◌else◌, Option, None, slice_get, nat_lt, Err, IfOk, Ok, Result, Vec}
use Rattle.std.specs.declared.alloc.Global.{Global}
use Rattle.cfb_medium.specs.declared.error.Error.{Error}
use Rattle.msi_columns.specs.Column.{Column}
use Rattle.msi_columns.specs.declared.column.ColumnType.{ColumnType}
use Rattle.msi_columns.specs.declared.column.ColumnType.TheVariants as kind
use Rattle.msi_parts.specs.Judged.{IsUsual}
use Rattle.msi_tables.specs.Rows.{kinds_of}
use Rattle.msi_tables.specs.Schema.{validation_columns}
use Rattle.msi_tables.specs.Table.{Heading}
use Rattle.msi_texts.proofs.SpelledNames.{both}
use Rattle.msi_findings.specs.Misshapen.{is_alike, is_same_type, unlike_at, unlike_from}

-- what isn't at or over is below
below : (i n : ℕ) → (n ≤ i → ⊥) → i < n
below i n not_over = go (nat_lt i n) refl
  where
    go : (b : Bool) → nat_lt i n ≡ b → i < n
    go true is = grind (arith, nat_tests, is)
    go false is = let over : n ≤ i = grind (arith, nat_tests, is) in absurd (not_over over)

-- those at one index, and those behind it, where only one of the lists goes on
left_more : (n i : ℕ) (ds : List Column) → i < length ds
    → unlike_from n [] (drop i ds) ≡ unlike_at n None (slice_get ds i) ++ unlike_from (n + 1) [] (drop (suc i) ds)
left_more n i [] there = absurd (omega (arith, there))
left_more n zero (d ∷ ds) there = refl
left_more n (suc i) (d ∷ ds) there = left_more n i ds (omega (arith, there))

right_more : (n i : ℕ) (cs : List Column) → i < length cs
    → unlike_from n (drop i cs) [] ≡ unlike_at n (slice_get cs i) None ++ unlike_from (n + 1) (drop (suc i) cs) []
right_more n i [] there = absurd (omega (arith, there))
right_more n zero (c ∷ cs) there = refl
right_more n (suc i) (c ∷ cs) there = right_more n i cs (omega (arith, there))

-- the same, where either does
unlike_more : (n i : ℕ) (cs ds : List Column) → (length cs ≤ i → length ds ≤ i → ⊥)
    → unlike_from n (drop i cs) (drop i ds) ≡ unlike_at n (slice_get cs i) (slice_get ds i) ++ unlike_from (n + 1) (drop (suc i) cs) (drop (suc i) ds)
unlike_more n i [] [] there = absurd (there (omega arith) (omega arith))
unlike_more n zero [] (d ∷ ds) there = refl
unlike_more n zero (c ∷ cs) [] there = refl
unlike_more n zero (c ∷ cs) (d ∷ ds) there = refl
unlike_more n (suc i) [] (d ∷ ds) there = left_more n i ds (below i (length ds) (λ over. there (omega arith) (omega (arith, over))))
unlike_more n (suc i) (c ∷ cs) [] there = right_more n i cs (below i (length cs) (λ over. there (omega (arith, over)) (omega arith)))
unlike_more n (suc i) (c ∷ cs) (d ∷ ds) there = unlike_more n i cs ds (λ over_c over_d. there (omega (arith, over_c)) (omega (arith, over_d)))

-- those so far, with the next
pub unlike_next : (i : ℕ) (cs ds : List Column) (old new all : List ℕ) (c d : Option Column) → (length cs ≤ i → length ds ≤ i → ⊥) → c ≡ slice_get cs i → d ≡ slice_get ds i
    → new ≡ old ++ unlike_at (i + 1) c d → old ++ unlike_from (i + 1) (drop i cs) (drop i ds) ≡ all
    → new ++ unlike_from (i + 1 + 1) (drop (i + 1) cs) (drop (i + 1) ds) ≡ all
unlike_next i cs ds old new all c d there c_is d_is more so_far =
    let one : i + 1 ≡ suc i = omega arith in
    let rest = unlike_from (i + 1 + 1) (drop (suc i) cs) (drop (suc i) ds) in
    ap (λ k. new ++ unlike_from (i + 1 + 1) (drop k cs) (drop k ds)) one
    ∙ ap (λ b. b ++ rest) (more ∙ ap₂ (λ x y. old ++ unlike_at (i + 1) x y) c_is d_is)
    ∙ append_assoc old (unlike_at (i + 1) (slice_get cs i) (slice_get ds i)) rest
    ∙ ap (λ b. old ++ b) (sym (unlike_more (i + 1) i cs ds there))
    ∙ so_far

-- ---- none is unlike just where types and keys are the same

same_type : (k l : ColumnType) → is_same_type k l ≡ true → k ≡ l
same_type kind.Int16 kind.Int16 is = refl
same_type kind.Int32 kind.Int32 is = refl
same_type (kind.Str m) (kind.Str n) is = ap kind.Str (eqb-true m n is)
same_type kind.Binary kind.Binary is = refl
same_type kind.Int16 kind.Int32 is = cc
same_type kind.Int16 (kind.Str n) is = cc
same_type kind.Int16 kind.Binary is = cc
same_type kind.Int32 kind.Int16 is = cc
same_type kind.Int32 (kind.Str n) is = cc
same_type kind.Int32 kind.Binary is = cc
same_type (kind.Str m) kind.Int16 is = cc
same_type (kind.Str m) kind.Int32 is = cc
same_type (kind.Str m) kind.Binary is = cc
same_type kind.Binary kind.Int16 is = cc
same_type kind.Binary kind.Int32 is = cc
same_type kind.Binary (kind.Str n) is = cc

its_type : (k : ColumnType) → is_same_type k k ≡ true
its_type kind.Int16 = refl
its_type kind.Int32 = refl
its_type (kind.Str m) = eq-eqb m m refl
its_type kind.Binary = refl

same_key : (a b : Bool) → (if a then b else not b) ≡ true → a ≡ b
same_key true b is = sym is
same_key false true is = cc
same_key false false is = refl

its_key : (a : Bool) → (if a then a else not a) ≡ true
its_key true = refl
its_key false = refl

heads : {A : Type 0} (x y : A) (xs ys : List A) → x ∷ xs ≡ y ∷ ys → x ≡ y
heads x y xs ys same = cc

tails : {A : Type 0} (x y : A) (xs ys : List A) → x ∷ xs ≡ y ∷ ys → xs ≡ ys
tails x y xs ys same = cc

pub none_unlike : (n : ℕ) (cs ds : List Column) → (unlike_from n cs ds ≡ []) ↔ ((kinds_of cs ≡ kinds_of ds) × (map (λ (c : Column). c.key) cs ≡ map (λ (c : Column). c.key) ds))
none_unlike n [] [] = (λ _. (refl, refl), λ _. refl)
none_unlike n [] (d ∷ ds) = (λ none. absurd (cc), λ same. let kinds = same.0 in absurd (cc))
none_unlike n (c ∷ cs) [] = (λ none. absurd (cc), λ same. let kinds = same.0 in absurd (cc))
none_unlike n (c ∷ cs) (d ∷ ds) =
    let rest = none_unlike (n + 1) cs ds in (
      λ none.
          let split = to (is_alike c d) refl none in
          let alike = both (is_same_type c.kind d.kind) (if c.key then d.key else not d.key) split.0 in
          let others = rest.0 split.1 in
          (ap₂ (λ k ks. k ∷ ks) (same_type c.kind d.kind alike.0) others.0, ap₂ (λ k ks. k ∷ ks) (same_key c.key d.key alike.1) others.1),
      λ same.
          let type_is : c.kind ≡ d.kind = heads c.kind d.kind (kinds_of cs) (kinds_of ds) same.0 in
          let key_is : c.key ≡ d.key = heads c.key d.key (map (λ (c : Column). c.key) cs) (map (λ (c : Column). c.key) ds) same.1 in
          let alike : is_alike c d ≡ true = ap₂ (λ k b. is_same_type c.kind k && (if c.key then b else not b)) (sym type_is) (sym key_is) ∙ ap₂ (λ a b. a && b) (its_type c.kind) (its_key c.key) in
          ap (λ b. (if b then [] else (n ∷ [])) ++ unlike_from (n + 1) cs ds) alike
          ∙ rest.1 (tails c.kind d.kind (kinds_of cs) (kinds_of ds) same.0, tails c.key d.key (map (λ (c : Column). c.key) cs) (map (λ (c : Column). c.key) ds) same.1),
    )
  where
    to : (b : Bool) → is_alike c d ≡ b → (if b then [] else (n ∷ [])) ++ unlike_from (n + 1) cs ds ≡ [] → (is_alike c d ≡ true) × (unlike_from (n + 1) cs ds ≡ [])
    to true is none = (is, none)
    to false is none = cc

-- so none is listed of a table just where it is usual
pub usual_so : (h : Heading) (r : Result (Vec ℕ Global) Error) → IfOk r (λ found. found.items ≡ unlike_from 1 h.columns validation_columns) → IfOk r (λ found. (found.items ≡ []) ↔ IsUsual h)
usual_so h (Err e) is = tt
usual_so h (Ok found) is =
    let both = none_unlike 1 h.columns validation_columns in
    (λ none. let same = both.0 (sym is ∙ none) in record { kinds = same.0; keys = same.1 }, λ usual. is ∙ both.1 (usual.kinds, usual.keys))
