-- A stream that is named as a table's isn't the summary, under a letter table that leaves encoded names alone.
use Rattle.std.proofs.Common.{◌≡◌, ◌∙◌, ℕ, ◌<◌, ◌+◌, ◌-◌, ◌/◌, ◌%◌, Bool, true, false, cond, List, [], ◌∷◌, ◌++◌, refl, sym, ap, arith, leb, ltb, eqb, eqb-true}
use Rattle.std.specs.Prelude.{◌&&◌, not}
use Rattle.std.specs.Char.Escape.{encode_utf16}
use Rattle.std.specs.List.{flat_map, list_all}
use Rattle.std.proofs.lemmas.Bool.{and_parts, lt-leb, ltb-false}
use Rattle.cfb_tree.proofs.NameOrder.{name_cmp_equal}
use Rattle.cfb_tree.specs.Names.{CaseTable, letter, name_key}
use Rattle.cfb_tree.specs.Objects.{is_same_name}
use Rattle.msi_spec.specs.Opening.{is_encoded, keeps_encoded_names}
use Rattle.msi_spec.specs.Package.{summary_name}
use Rattle.msi_texts.specs.StreamName.{is_marked, table_prefix}
use Rattle.msi_values.proofs.DataOrder.{is_equal}

-- a character counts as one that is encoded exactly where it is encoded itself, and then as itself
letter_kept : (letters : CaseTable) → keeps_encoded_names letters ≡ true → (c : ℕ) → is_encoded c ≡ true → letter letters c ≡ c
unfolding letter
letter_kept [] may c is = refl
letter_kept (pair ∷ pairs) may c is =
    let both = and_parts (not (is_encoded pair.0) && not (is_encoded pair.1)) (list_all (λ p. not (is_encoded p.0) && not (is_encoded p.1)) pairs) may in
    let first = and_parts (not (is_encoded pair.0)) (not (is_encoded pair.1)) both.0 in
    by (eqb c pair.0) refl first.0 (letter_kept pairs both.1 c is)
  where
    by : (b : Bool) → eqb c pair.0 ≡ b → not (is_encoded pair.0) ≡ true → letter pairs c ≡ c → cond b pair.1 (letter pairs c) ≡ c
    by true e out later = let same : c ≡ pair.0 = eqb-true c pair.0 e in let known : not true ≡ true = ap not (sym is ∙ ap is_encoded same) ∙ out in absurd (cc)
    by false e out later = later

letter_out : (letters : CaseTable) → keeps_encoded_names letters ≡ true → (c : ℕ) → is_encoded c ≡ false → is_encoded (letter letters c) ≡ false
unfolding letter
letter_out [] may c out = out
letter_out (pair ∷ pairs) may c out =
    let both = and_parts (not (is_encoded pair.0) && not (is_encoded pair.1)) (list_all (λ p. not (is_encoded p.0) && not (is_encoded p.1)) pairs) may in
    let first = and_parts (not (is_encoded pair.0)) (not (is_encoded pair.1)) both.0 in
    by (eqb c pair.0) (turned (is_encoded pair.1) first.1) (letter_out pairs both.1 c out)
  where
    turned : (b : Bool) → not b ≡ true → b ≡ false
    turned true e = absurd (cc)
    turned false e = refl

    by : (b : Bool) → is_encoded pair.1 ≡ false → is_encoded (letter pairs c) ≡ false → is_encoded (cond b pair.1 (letter pairs c)) ≡ false
    by true here later = here
    by false here later = later

-- the first unit of a character below 65536 is itself, and that of another is a surrogate
abbrev first_unit : List ℕ → ℕ
first_unit [] = 0
first_unit (u ∷ us) = u

-- a character above those that are encoded
out : (c : ℕ) → 0x4840 < c → is_encoded c ≡ false
out c above = by (leb 0x3800 c) (lt-leb c 0x4840 above)
  where
    by : (b : Bool) → leb c 0x4840 ≡ false → (b && leb c 0x4840) ≡ false
    by true e = e
    by false e = refl

first_of : (c : ℕ) (rest : List ℕ) → is_encoded (first_unit (encode_utf16 c ++ rest)) ≡ is_encoded c
first_of c rest = by (ltb c 0x1_0000) refl
  where
    large : ltb c 0x1_0000 ≡ false → is_encoded (0xD800 + (c - 0x1_0000) / 0x400) ≡ is_encoded c
    large e = out (0xD800 + (c - 0x1_0000) / 0x400) (omega arith) ∙ sym (out c (let h = ltb-false c 0x1_0000 e in omega (arith, h)))

    by : (b : Bool) → ltb c 0x1_0000 ≡ b → is_encoded (first_unit (cond b (c ∷ []) ((0xD800 + (c - 0x1_0000) / 0x400) ∷ (0xDC00 + (c - 0x1_0000) % 0x400) ∷ []) ++ rest)) ≡ is_encoded c
    by true e = refl
    by false e = large e

-- it isn't the summary
pub summary_differs : (letters : CaseTable) → keeps_encoded_names letters ≡ true → (name : List ℕ) → is_marked name ≡ true → is_same_name letters summary_name name ≡ false
unfolding name_key
summary_differs letters may [] marked = absurd (cc)
summary_differs letters may (c ∷ cs) marked = by (is_same_name letters summary_name (c ∷ cs)) refl
  where
    prefix : c ≡ table_prefix
    prefix = eqb-true c table_prefix marked

    encoded : is_encoded c ≡ true
    encoded = ap is_encoded prefix

    by : (b : Bool) → is_same_name letters summary_name (c ∷ cs) ≡ b → is_same_name letters summary_name (c ∷ cs) ≡ false
    by false e = e
    by true e =
        let keys : name_key letters summary_name ≡ name_key letters (c ∷ cs) = (name_cmp_equal letters summary_name (c ∷ cs)).0 (is_equal _ e) in
        let here : is_encoded (first_unit (name_key letters summary_name)) ≡ true =
        ap (λ k. is_encoded (first_unit k)) keys ∙ first_of (letter letters c) (flat_map (λ x. encode_utf16 (letter letters x)) cs) ∙ ap is_encoded (letter_kept letters may c encoded) ∙ encoded in
        let there : is_encoded (first_unit (name_key letters summary_name)) ≡ false =
        first_of (letter letters 5) _ ∙ letter_out letters may 5 refl in
        let both : true ≡ false = sym here ∙ there in absurd (cc)
