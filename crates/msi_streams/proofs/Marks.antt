-- Marked names, under a letter table that leaves encoded names alone.
use Rattle.std.proofs.Common.{◌≡◌, ◌∙◌, ℕ, ◌+◌, ◌-◌, ◌/◌, ◌%◌, Bool, true, false, cond, List, [], ◌∷◌, ◌++◌, refl, sym, ap, arith, ltb, eqb, eqb-true}
use Rattle.std.specs.Prelude.{◌==◌, ◌&&◌, not}
use Rattle.std.specs.Char.Escape.{encode_utf16}
use Rattle.std.specs.List.{flat_map}
use Rattle.std.proofs.lemmas.Bool.{and_parts}
use Rattle.cfb_tree.proofs.NameOrder.{name_cmp_equal}
use Rattle.cfb_tree.specs.Names.{CaseTable, letter, name_key}
use Rattle.cfb_tree.specs.Objects.{is_same_name}
use Rattle.msi_spec.specs.Opening.{is_encoded, keeps_encoded_names}
use Rattle.msi_texts.specs.StreamName.{is_marked, pair, table_prefix}
use Rattle.std.specs.Ordering.{is_eq}
use Rattle.std.specs.declared.cmp.Ordering.{Ordering}
use Rattle.std.specs.declared.cmp.Ordering.TheVariants.{Equal, Greater, Less}

pub equal_of : (o : Ordering) → is_eq o ≡ true → o ≡ Equal
equal_of Equal e = refl
equal_of Less e = absurd (cc)
equal_of Greater e = absurd (cc)

-- names are one where their keys are
module _ (letters : CaseTable) (a b : List ℕ) where
  pub key_of_same : is_same_name letters a b ≡ true → name_key letters a ≡ name_key letters b
  key_of_same e = (name_cmp_equal letters a b).0 (equal_of _ e)

  pub same_of_key : name_key letters a ≡ name_key letters b → is_same_name letters a b ≡ true
  same_of_key e = ap is_eq ((name_cmp_equal letters a b).1 e)

-- ---- letters

-- an encoded character counts as itself
letter_kept : (letters : CaseTable) → keeps_encoded_names letters ≡ true → (c : ℕ) → is_encoded c ≡ true → letter letters c ≡ c
unfolding letter
letter_kept [] may c is = refl
letter_kept (pair ∷ pairs) may c is =
    let both = and_parts (not (is_encoded pair.0) && not (is_encoded pair.1)) (keeps_encoded_names pairs) may in
    let first = and_parts (not (is_encoded pair.0)) (not (is_encoded pair.1)) both.0 in
    by (eqb c pair.0) refl first.0 (letter_kept pairs both.1 c is)
  where
    by : (b : Bool) → eqb c pair.0 ≡ b → not (is_encoded pair.0) ≡ true → letter pairs c ≡ c → cond b pair.1 (letter pairs c) ≡ c
    by true e out later = let same : c ≡ pair.0 = eqb-true c pair.0 e in let known : not true ≡ true = ap not (sym is ∙ ap is_encoded same) ∙ out in absurd (cc)
    by false e out later = later

-- and no other character counts as it
letter_back : (letters : CaseTable) → keeps_encoded_names letters ≡ true → (c : ℕ) → is_encoded (letter letters c) ≡ true → letter letters c ≡ c
unfolding letter
letter_back [] may c is = refl
letter_back (pair ∷ pairs) may c is =
    let both = and_parts (not (is_encoded pair.0) && not (is_encoded pair.1)) (keeps_encoded_names pairs) may in
    let first = and_parts (not (is_encoded pair.0)) (not (is_encoded pair.1)) both.0 in
    by (eqb c pair.0) first.1 (letter_back pairs both.1 c) is
  where
    by : (b : Bool) → not (is_encoded pair.1) ≡ true → (is_encoded (letter pairs c) ≡ true → letter pairs c ≡ c) → is_encoded (cond b pair.1 (letter pairs c)) ≡ true → cond b pair.1 (letter pairs c) ≡ c
    by true out later is = let known : not true ≡ true = ap not (sym is) ∙ out in absurd (cc)
    by false out later is = later is

-- ---- the mark

abbrev first_unit : List ℕ → ℕ
first_unit [] = 0
first_unit (u ∷ us) = u

-- the mark is its own first unit, and that of no other character
unit_of_mark : (c : ℕ) (rest : List ℕ) → c ≡ table_prefix → first_unit (encode_utf16 c ++ rest) ≡ table_prefix
unit_of_mark c rest e = ap (λ c. first_unit (encode_utf16 c ++ rest)) e

mark_of_unit : (c : ℕ) (rest : List ℕ) → first_unit (encode_utf16 c ++ rest) ≡ table_prefix → c ≡ table_prefix
mark_of_unit c rest e = by (ltb c 0x1_0000) e
  where
    by : (b : Bool) → first_unit (cond b (c ∷ []) ((0xD800 + (c - 0x1_0000) / 0x400) ∷ (0xDC00 + (c - 0x1_0000) % 0x400) ∷ []) ++ rest) ≡ table_prefix → c ≡ table_prefix
    by true e = e
    by false e = absurd (omega (arith, e))

-- a name that is one with a marked one is marked
pub marked_alike : (letters : CaseTable) → keeps_encoded_names letters ≡ true → (a b : List ℕ) → is_marked a ≡ true → is_same_name letters a b ≡ true → is_marked b ≡ true
unfolding name_key
marked_alike letters may [] b marked same = absurd (cc)
marked_alike letters may (c ∷ cs) b marked same = by b (sym unit ∙ ap first_unit (key_of_same letters (c ∷ cs) b same))
  where
    mark : c ≡ table_prefix
    mark = eqb-true c table_prefix marked

    unit : first_unit (name_key letters (c ∷ cs)) ≡ table_prefix
    unit = unit_of_mark (letter letters c) (flat_map (λ x. encode_utf16 (letter letters x)) cs) (letter_kept letters may c (ap is_encoded mark) ∙ mark)

    by : (b : List ℕ) → table_prefix ≡ first_unit (name_key letters b) → is_marked b ≡ true
    by [] e = absurd (omega (arith, e))
    by (d ∷ ds) e =
        let counts : letter letters d ≡ table_prefix = mark_of_unit (letter letters d) (flat_map (λ x. encode_utf16 (letter letters x)) ds) (sym e) in
        let is : d ≡ table_prefix = sym (letter_back letters may d (ap is_encoded counts)) ∙ counts in
        ap (λ x. x == table_prefix) is

-- ---- names of streams
