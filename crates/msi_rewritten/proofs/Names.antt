-- The names of tables' streams, and what stands at them.
use Rattle.std.proofs.Common.{◌≡◌, ◌∙◌, ℕ, Bool, true, false, List, [], ◌∷◌, Some, None, refl, sym, ap, subst, arith}
use Rattle.std.specs.Prelude.{◌==◌, filter, not}
use Rattle.std.specs.List.{All, list_all, list_any}
use Rattle.std.proofs.lemmas.Bool.{and_parts}
use Rattle.std.proofs.lemmas.Bool.Decides.{nat_tests}
use Rattle.std.proofs.lemmas.List.Elements.{All-head, All-tail}
use Rattle.cfb_tree.specs.Names.{CaseTable}
use Rattle.cfb_tree.specs.Objects.{a_storage, a_stream, is_same_name, name_of, Object}
use Rattle.msi_texts.specs.Category.{begins_name, is_identifier, is_name_byte}
use Rattle.msi_spec.specs.Opening.{is_encoded, keeps_encoded_names}
use Rattle.msi_spec.specs.Package.{at_name, has_slash, is_stream, stream_name, summary_name}
use Rattle.msi_spec.proofs.EncodedKeys.{keys_tell, name_encoded, one_table}
use Rattle.msi_spec.proofs.StreamKeys.{key_by_same}

-- ---- no slash stands in an identifier

byte_no_slash : (b : ℕ) → is_name_byte b ≡ true → (b == 47) ≡ false
byte_no_slash b e = grind (arith, nat_tests, e)

first_no_slash : (b : ℕ) → begins_name b ≡ true → (b == 47) ≡ false
first_no_slash b e = grind (arith, nat_tests, e)

bytes_no_slash : (bs : List ℕ) → list_all is_name_byte bs ≡ true → list_any (λ b. b == 47) bs ≡ false
bytes_no_slash [] e = refl
bytes_no_slash (b ∷ bs) e =
    let both = and_parts (is_name_byte b) (list_all is_name_byte bs) e in
    rw (byte_no_slash b both.0, bytes_no_slash bs both.1) refl

pub no_slash : (name : List ℕ) → is_identifier name ≡ true → has_slash name ≡ false
no_slash [] e = refl
no_slash (b ∷ bs) e =
    let both = and_parts (begins_name b) (list_all is_name_byte bs) e in
    rw (first_no_slash b both.0, bytes_no_slash bs both.1) refl

-- ---- names that are told apart

abbrev first_of : List ℕ → ℕ
first_of [] = 0
first_of (c ∷ cs) = c

module _ (letters : CaseTable) (usable : keeps_encoded_names letters ≡ true) where
  pub encoded_apart : (one other : List ℕ) → list_all is_encoded one ≡ true → (one ≡ other → ⊥) → is_same_name letters one other ≡ false
  encoded_apart one other encoded differ = by (is_same_name letters one other) refl
    where
      by : (b : Bool) → is_same_name letters one other ≡ b → b ≡ false
      by false is = refl
      by true is = absurd (differ (keys_tell letters one other usable encoded (key_by_same letters one other is)))

  pub tables_apart : (one other : List ℕ) → is_identifier one ≡ true → is_identifier other ≡ true → (one ≡ other → ⊥) → is_same_name letters (stream_name one) (stream_name other) ≡ false
  tables_apart one other e f differ = encoded_apart (stream_name one) (stream_name other) (name_encoded one e) (λ same. differ (one_table one other e f same))

  pub summary_apart : (name : List ℕ) → is_identifier name ≡ true → is_same_name letters summary_name (stream_name name) ≡ false
  summary_apart name e = by (is_same_name letters summary_name (stream_name name)) refl
    where
      by : (b : Bool) → is_same_name letters summary_name (stream_name name) ≡ b → b ≡ false
      by false is = refl
      by true is =
          let same : stream_name name ≡ summary_name = keys_tell letters (stream_name name) summary_name usable (name_encoded name e) (sym (key_by_same letters summary_name (stream_name name) is)) in
          let never : 0x4840 ≡ 5 = ap first_of same in
          absurd (omega (arith, never))

-- ---- what stands at a name

module _ (letters : CaseTable) (name : List ℕ) where
  pub found_same : (os : List Object) (o : Object) → at_name letters os name ≡ Some o → is_same_name letters name (name_of o) ≡ true
  found_same [] o there = (let never : None ≡ Some o = there in absurd (cc))
  found_same (x ∷ os) o there = by (is_same_name letters name (name_of x)) refl (found_same os o)
    where
      by : (b : Bool) → is_same_name letters name (name_of x) ≡ b → (at_name letters os name ≡ Some o → is_same_name letters name (name_of o) ≡ true) → is_same_name letters name (name_of o) ≡ true
      by true is rest = (let here : Some x ≡ Some o = rw is at there in let same : x ≡ o = grind (arith, here) in subst (λ (y : Object). is_same_name letters name (name_of y) ≡ true) same is)
      by false is rest = rest (rw is at there)

  -- a storage there stands among the storages
  pub storage_listed : (os : List Object) (o : Object) → at_name letters os name ≡ Some o → is_stream o ≡ false → at_name letters (filter (λ o. not (is_stream o)) os) name ≡ Some o
  storage_listed [] o there kind = (let never : None ≡ Some o = there in absurd (cc))
  storage_listed (a_stream n s b ∷ os) o there kind = by (is_same_name letters name n) refl (storage_listed os o)
    where
      by : (same : Bool) → is_same_name letters name n ≡ same
          → (at_name letters os name ≡ Some o → is_stream o ≡ false → at_name letters (filter (λ o. not (is_stream o)) os) name ≡ Some o)
          → at_name letters (filter (λ o. not (is_stream o)) os) name ≡ Some o
      by true is rest =
          let here : Some (a_stream n s b) ≡ Some o = rw is at there in
          let same : a_stream n s b ≡ o = grind (arith, here) in
          let never : true ≡ false = ap is_stream same ∙ kind in
          absurd (cc)
      by false is rest = rest (rw is at there) kind
  storage_listed (a_storage n f i ∷ os) o there kind = by (is_same_name letters name n) refl (storage_listed os o)
    where
      by : (same : Bool) → is_same_name letters name n ≡ same
          → (at_name letters os name ≡ Some o → is_stream o ≡ false → at_name letters (filter (λ o. not (is_stream o)) os) name ≡ Some o)
          → at_name letters (filter (λ o. not (is_stream o)) (a_storage n f i ∷ os)) name ≡ Some o
      by true is rest = (let here : Some (a_storage n f i) ≡ Some o = rw is at there in rw is here)
      by false is rest = rw is (rest (rw is at there) kind)

  -- what a filter keeps has what all that are kept have
  pub kept_has : (Has : Object → Type 0) (keep : Object → Bool) (os : List Object) (o : Object) → All Has (filter keep os) → at_name letters os name ≡ Some o → keep o ≡ true → Has o
  kept_has Has keep [] o all there kept = (let never : None ≡ Some o = there in absurd (cc))
  kept_has Has keep (x ∷ os) o all there kept = by (is_same_name letters name (name_of x)) refl (keep x) refl (λ h. kept_has Has keep os o h)
    where
      by : (b : Bool) → is_same_name letters name (name_of x) ≡ b → (c : Bool) → keep x ≡ c → (All Has (filter keep os) → at_name letters os name ≡ Some o → keep o ≡ true → Has o) → Has o
      by true is true k rest =
          let here : Some x ≡ Some o = rw is at there in
          let same : x ≡ o = grind (arith, here) in
          let kept_all : All Has (x ∷ filter keep os) = rw k at all in
          subst Has same (All-head Has x (filter keep os) kept_all)
      by true is false k rest =
          let here : Some x ≡ Some o = rw is at there in
          let same : x ≡ o = grind (arith, here) in
          let never : false ≡ true = sym k ∙ ap keep same ∙ kept in
          absurd (cc)
      by false is true k rest =
          let kept_all : All Has (x ∷ filter keep os) = rw k at all in
          rest (All-tail Has x (filter keep os) kept_all) (rw is at there) kept
      by false is false k rest = rest (rw k at all) (rw is at there) kept
