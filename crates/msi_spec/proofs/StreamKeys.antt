-- Streams are told apart by the keys of their encoded names.
use Rattle.std.proofs.Common.{◌≡◌, ℕ, Bool, true, false, cond, List, [], ◌∷◌, Some, None, Result, Ok, Err, refl, ap, ap₂, sym, ◌∙◌}
use Rattle.std.specs.Prelude.{find, filter, not, option_and_then, is_none}
use Rattle.std.specs.List.{list_all}
use Rattle.std.specs.Ordering.{is_eq, is_lt}
use Rattle.cfb_medium.specs.declared.error.Error.{Error}
use Rattle.cfb_medium.specs.declared.error.Error.TheVariants.{NotFound, AlreadyExists}
use Rattle.cfb_tree.specs.Names.{CaseTable, name_key, key_cmp, name_cmp}
use Rattle.cfb_tree.proofs.NameOrder.{name_cmp_equal}
use Rattle.cfb_spec.specs.TreeRules.{Object, a_stream, a_storage, is_same_name}
use Rattle.cfb_spec.specs.TreeRules.{name_of as object_name}
use Rattle.msi_texts.specs.Results.{◌>>=◌, unless_not, or_refused}
use Rattle.msi_spec.specs.Package.{PackageContent, is_stream, object_bytes, at_name, stream_at}
use Rattle.msi_spec.specs.Calls.{bare_package}
use Rattle.msi_spec.specs.Streams.{plain_stream_name, may_name, stream_read, stream_removed, stream_written, stream_put, AreOneStream}
use Rattle.msi_spec.specs.declared.kind.PackageType.TheVariants.{Installer}
use Rattle.msi_values.proofs.DataOrder.{is_equal}

abbrev Key : Type 0
Key = List ℕ

-- the object has the key
abbrev has_key : CaseTable → Key → Object → Bool
has_key letters key o = is_eq (key_cmp key (name_key letters (object_name o)))

-- what is read under an accepted name
read_under : (letters : CaseTable) (name : List ℕ) → may_name letters name ≡ Ok tt → (P : PackageContent) → stream_read letters P name ≡ or_refused (stream_at letters P.streams (plain_stream_name name)) NotFound
read_under letters name may P = ap (λ m. m >>= λ _. or_refused (stream_at letters P.streams (plain_stream_name name)) NotFound) may

-- a package with one stream
abbrev only : List ℕ → PackageContent
only name = record (bare_package Installer) { streams = a_stream name 0 [] ∷ [] }

-- a name is the same as those of its key
pub same_by_key : (letters : CaseTable) (a b : List ℕ) → name_key letters a ≡ name_key letters b → is_same_name letters a b ≡ true
same_by_key letters a b e = ap is_eq ((name_cmp_equal letters a b).1 e)

pub key_by_same : (letters : CaseTable) (a b : List ℕ) → is_same_name letters a b ≡ true → name_key letters a ≡ name_key letters b
key_by_same letters a b e = (name_cmp_equal letters a b).0 (is_equal _ e)

-- the one stream is found, so the names are the same
found_same : (b : Bool) (o : Object) → or_refused (option_and_then object_bytes (cond b (Some o) None)) NotFound ≡ Ok [] → b ≡ true
found_same true o e = refl
found_same false o e = absurd (cc)

pub one_key : (letters : CaseTable) (one other : List ℕ) → may_name letters one ≡ Ok tt → may_name letters other ≡ Ok tt
    → AreOneStream letters one other → name_key letters (plain_stream_name one) ≡ name_key letters (plain_stream_name other)
one_key letters one other may also same =
    let name = plain_stream_name one in
    let there = same_by_key letters name name refl in
    let first : stream_read letters (only name) one ≡ Ok [] = read_under letters one may (only name) ∙ ap (λ b. or_refused (option_and_then object_bytes (cond b (Some (a_stream name 0 [])) None)) NotFound) there in
    let second = sym (read_under letters other also (only name)) ∙ sym (same.read (only name)) ∙ first in
    sym (key_by_same letters (plain_stream_name other) name (found_same _ _ second))

-- what is put under a name is found under each of its key
put_found : (letters : CaseTable) (name other content : List ℕ) → name_key letters name ≡ name_key letters other → (objects : List Object) → list_all is_stream objects ≡ true
    → stream_at letters (stream_put letters name content objects) other ≡ Some content
put_found letters name other content same = put
  where
    -- it stands first
    first : (key : List ℕ) (state_bits : ℕ) (rest : List Object) → is_same_name letters other key ≡ true → stream_at letters (a_stream key state_bits content ∷ rest) other ≡ Some content
    first key state_bits rest e = ap (λ b. option_and_then object_bytes (cond b (Some (a_stream key state_bits content)) (at_name letters rest other))) e

    new : (rest : List Object) → stream_at letters (a_stream name 0 content ∷ rest) other ≡ Some content
    new rest = first name 0 rest (same_by_key letters other name (sym same))

    put : (objects : List Object) → list_all is_stream objects ≡ true → stream_at letters (stream_put letters name content objects) other ≡ Some content
    put [] streams = new []
    put (a_storage key facts inside ∷ os) streams = absurd (cc)
    put (a_stream key state_bits bytes ∷ os) streams = by (is_same_name letters name key) (is_lt (name_cmp letters name key)) (put os streams) refl
      where
        tested : (b : Bool) → is_same_name letters name key ≡ b → is_same_name letters other key ≡ b
        tested b e = ap (λ k. is_eq (key_cmp k (name_key letters key))) (sym same) ∙ e

        by : (s l : Bool) → stream_at letters (stream_put letters name content os) other ≡ Some content → is_same_name letters name key ≡ s
            → stream_at letters (cond s (a_stream key state_bits content ∷ os) (cond l (a_stream name 0 content ∷ a_stream key state_bits bytes ∷ os) (a_stream key state_bits bytes ∷ stream_put letters name content os))) other ≡ Some content
        by true l behind e = first key state_bits os (tested true e)
        by false true behind e = new (a_stream key state_bits bytes ∷ os)
        by false false behind e =
            ap (λ b. option_and_then object_bytes (cond b (Some (a_stream key state_bits bytes)) (at_name letters (stream_put letters name content os) other))) (tested false e)
            ∙ behind

abbrev package_in : PackageContent → Result PackageContent Error → PackageContent
package_in P (Ok Q) = Q
package_in P (Err e) = P

wrote : (b : Bool) (P Q : PackageContent) → (unless_not b AlreadyExists >>= λ _. Ok P) ≡ Ok Q → P ≡ Q
wrote true P Q e = ap (package_in P) e
wrote false P Q e = absurd (cc)

pub one_stream : (letters : CaseTable) (one other : List ℕ) → may_name letters one ≡ Ok tt → may_name letters other ≡ Ok tt
    → name_key letters (plain_stream_name one) ≡ name_key letters (plain_stream_name other) → AreOneStream letters one other
one_stream letters one other may also same = record { read = read; removed = removed; written = written }
  where
    read : (P : PackageContent) → stream_read letters P one ≡ stream_read letters P other
    read P =
        read_under letters one may P
        ∙ ap (λ k. or_refused (option_and_then object_bytes (find (has_key letters k) P.streams)) NotFound) same
        ∙ sym (read_under letters other also P)

    without : PackageContent → Key → PackageContent
    without P key = record P { streams = filter (λ o. not (has_key letters key o)) P.streams }

    removed : (P : PackageContent) → stream_removed letters P one ≡ stream_removed letters P other
    removed P = ap₂ (λ r key. r >>= λ _. Ok (without P key)) (read P) same

    written : (P Q : PackageContent) (content : List ℕ) → list_all is_stream P.streams ≡ true → stream_written letters P one content ≡ Ok Q → stream_read letters Q other ≡ Ok content
    written P Q content streams e =
        let put = record P { streams = stream_put letters (plain_stream_name one) content P.streams } in
        let free = is_none (at_name letters P.storages (plain_stream_name one)) in
        let is : put ≡ Q = wrote free put Q (sym (ap (λ m. m >>= λ _. unless_not free AlreadyExists >>= λ _. Ok put) may) ∙ e) in
        ap (λ R. stream_read letters R other) (sym is)
        ∙ read_under letters other also put
        ∙ ap (λ o. or_refused o NotFound) (put_found letters (plain_stream_name one) (plain_stream_name other) content same P.streams streams)
