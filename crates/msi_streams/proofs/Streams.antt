-- What the rules on trees and those on packages say of a stream that is written or removed.
use Rattle.std.proofs.Common.{◌≡◌, ◌∙◌, ℕ, ◌<◌, ◌≤◌, Bool, true, false, cond, List, [], ◌∷◌, Some, None, Option, inr, length, arith, refl, sym, ap, subst}
use Rattle.std.specs.Prelude.{◌&&◌, filter, nat_le, not, option_and_then, Err, IsUtf8, Ok, Result, is_none}
use Rattle.std.specs.List.{list_all}
use Rattle.std.specs.List.Sorted.{IsStrictlySortedBy}
use Rattle.std.proofs.lemmas.Bool.Decides.{nat_tests}
use Rattle.cfb.specs.Putting.{putting}
use Rattle.cfb.specs.Views.{file_case_table, said_at}
use Rattle.cfb.specs.declared.compound_file.CompoundFile.{CompoundFile}
use Rattle.cfb_spec.specs.TreeRules.{is_storage_found, is_stream_found, remove_stream, tree_step, yes, Answer}
use Rattle.cfb_spec.specs.TreeRules.{is_storage as is_storage_there, is_stream as is_stream_there}
use Rattle.cfb_medium.specs.declared.error.Error.{Error}
use Rattle.cfb_medium.specs.declared.error.Error.TheVariants.{AlreadyExists, InvalidInput, NotFound}
use Rattle.cfb_medium.specs.declared.medium.ReadMedium.{Ghosts}
use Rattle.cfb_tree.specs.Names.{CaseTable, name_cmp}
use Rattle.cfb_tree.specs.Objects.{a_storage, a_stream, is_same_name, Object}
use Rattle.cfb_tree.specs.Tree.{child_names, Tree}
use Rattle.cfb_tree.proofs.OneContent.{Some_same}
use Rattle.msi_spec.specs.Calls.{EndsRefusedOrBy}
use Rattle.msi_spec.specs.Package.{PackageContent, at_name, is_own, is_stream, object_bytes, objects, stream_at}
use Rattle.msi_spec.specs.Streams.{may_name, plain_stream_name, stream_put, stream_read, stream_removed, without_stream}
use Rattle.msi_spec.proofs.Roots.{put_found}
use Rattle.msi_spec.proofs.UnderRoot.{at_path}
use Rattle.msi_stored.specs.Changing.{StoresSoundPackage}
use Rattle.msi_stored.specs.Room.{IsFullForName, IsFullForRule}
use Rattle.msi_texts.specs.Results.{◌>>=◌, or_refused, unless_not}
use Rattle.msi_streams.specs.Writing.{written_within, AppliesPackageRule}
use Rattle.msi_streams.proofs.Changes.{free_storages, stream_found}
use Rattle.msi_streams.proofs.Exits.{Accepts}
use Rattle.msi_streams.proofs.Marks.{same_of_key}
use Rattle.msi_streams.proofs.Objects.{found_kept}
use Rattle.msi_streams.proofs.Outcomes.{put_accepts, taken_accepts}
use Rattle.msi_streams.proofs.Stored.{is_kept, kept_streams}
use Rattle.msi_streams.proofs.Taken.{taken_name, taken_other, taken_unmarked}

-- ---- rules that make a package

module _ (made : PackageContent → Result PackageContent Error) (P : PackageContent) where
  pub makes_refused : (e : Error) → made P ≡ Err e → AppliesPackageRule made P P (Err e)
  makes_refused e is = subst (λ (r : Result PackageContent Error). EndsRefusedOrBy r P P (Err e) (λ R. P ≡ R)) (sym is) (refl, refl)

  pub makes_done : (Q : PackageContent) → made P ≡ Ok Q → AppliesPackageRule made P Q (Ok tt)
  makes_done Q is = subst (λ (r : Result PackageContent Error). EndsRefusedOrBy r P Q (Ok tt) (λ R. Q ≡ R)) (sym is) (refl, refl)

-- ---- what stands at a name

yes_of : Answer → Bool → Bool
yes_of (yes b) other = b
yes_of _ other = other

module _ (letters : CaseTable) (tree : Tree) (name : List ℕ) where
  pub said_stream : (b : Bool) → yes b ≡ said_at letters tree is_stream_there (Some (name ∷ [])) → is_stream_found (at_name letters (objects tree.content) name) ≡ b
  unfolding yes_of
  said_stream b told = ap is_stream_found (sym (at_path letters tree name)) ∙ sym (ap (λ (a : Answer). yes_of a b) told)

  pub said_storage : (b : Bool) → yes b ≡ said_at letters tree is_storage_there (Some (name ∷ [])) → is_storage_found (at_name letters (objects tree.content) name) ≡ b
  unfolding yes_of
  said_storage b told = ap is_storage_found (sym (at_path letters tree name)) ∙ sym (ap (λ (a : Answer). yes_of a b) told)

  -- where no storage stands, what stands there is a stream
  pub streams_there : is_storage_found (at_name letters (objects tree.content) name) ≡ false → (o : Object) → at_name letters (objects tree.content) name ≡ Some o → is_stream o ≡ true
  streams_there none (a_stream n s b) there = refl
  streams_there none (a_storage n f i) there = let never : true ≡ false = sym (ap is_storage_found there) ∙ none in absurd (cc)

  -- a stream that was found
  pub record IsThere : Type 0 where
    pub object : Object
    pub there : at_name letters (objects tree.content) name ≡ Some object
    pub stream : is_stream object ≡ true
    pub bytes : List ℕ
    pub has : stream_at letters (objects tree.content) name ≡ Some bytes

  pub stream_there : is_stream_found (at_name letters (objects tree.content) name) ≡ true → IsThere
  stream_there found = by (at_name letters (objects tree.content) name) refl
    where
      by : (o : Option Object) → at_name letters (objects tree.content) name ≡ o → IsThere
      by None is = let never : false ≡ true = sym (ap is_stream_found is) ∙ found in absurd (cc)
      by (Some (a_storage n f i)) is = let never : false ≡ true = sym (ap is_stream_found is) ∙ found in absurd (cc)
      by (Some (a_stream n s b)) is = record { object = a_stream n s b; there = is; stream = refl; bytes = b; has = ap (option_and_then object_bytes) is }

  pub none_there : is_stream_found (at_name letters (objects tree.content) name) ≡ false → stream_at letters (objects tree.content) name ≡ None
  none_there found = by (at_name letters (objects tree.content) name) refl
    where
      by : (o : Option Object) → at_name letters (objects tree.content) name ≡ o → stream_at letters (objects tree.content) name ≡ None
      by None is = ap (option_and_then object_bytes) is
      by (Some (a_storage n f i)) is = ap (option_and_then object_bytes) is
      by (Some (a_stream n s b)) is = let never : true ≡ false = sym (ap is_stream_found is) ∙ found in absurd (cc)

-- ---- a name that calls take

short_is : (length most : ℕ) → length ≤ most → nat_le length most ≡ true
short_is length most h = grind (arith, nat_tests, h)

long_is : (length most : ℕ) → most < length → nat_le length most ≡ false
long_is length most h = grind (arith, nat_tests, h)

module _ (letters : CaseTable) (name : List ℕ) where
  abbrev plain : List ℕ
  plain = plain_stream_name name

  module _ (most : ℕ) (bytes : List ℕ) (P : PackageContent) where
    abbrev put : PackageContent
    put = record P { streams = stream_put letters plain bytes P.streams }

    -- what the tests tell, one after the other
    written_by : (m : Result (Unit {0}) Error) (free short : Bool) → may_name letters name ≡ m → is_none (at_name letters P.storages plain) ≡ free → nat_le (length bytes) most ≡ short
        → written_within letters most name bytes P ≡ ((m >>= λ _. unless_not free AlreadyExists >>= λ _. Ok put) >>= λ Q. unless_not short InvalidInput >>= λ _. Ok Q)
    written_by m free short may at is =
        ap (λ m. (m >>= λ _. unless_not (is_none (at_name letters P.storages plain)) AlreadyExists >>= λ _. Ok put) >>= λ Q. unless_not (nat_le (length bytes) most) InvalidInput >>= λ _. Ok Q) may
        ∙ ap (λ b. (m >>= λ _. unless_not b AlreadyExists >>= λ _. Ok put) >>= λ Q. unless_not (nat_le (length bytes) most) InvalidInput >>= λ _. Ok Q) at
        ∙ ap (λ b. (m >>= λ _. unless_not free AlreadyExists >>= λ _. Ok put) >>= λ Q. unless_not b InvalidInput >>= λ _. Ok Q) is

    pub name_refused : (e : Error) → may_name letters name ≡ Err e → written_within letters most name bytes P ≡ Err e
    name_refused e may = written_by (Err e) (is_none (at_name letters P.storages plain)) (nat_le (length bytes) most) may refl refl

  module _ (tree : Tree) (P : PackageContent) (s : StoresSoundPackage letters tree P) (may : may_name letters name ≡ Ok tt) where
    -- a storage has the name
    pub storage_refused : (most : ℕ) (bytes : List ℕ) → is_storage_found (at_name letters (objects tree.content) plain) ≡ true → written_within letters most name bytes P ≡ Err AlreadyExists
    storage_refused most bytes found = by (at_name letters (objects tree.content) plain) refl
      where
        by : (o : Option Object) → at_name letters (objects tree.content) plain ≡ o → written_within letters most name bytes P ≡ Err AlreadyExists
        by None is = let never : false ≡ true = sym (ap is_storage_found is) ∙ found in absurd (cc)
        by (Some (a_stream n b c)) is = let never : false ≡ true = sym (ap is_storage_found is) ∙ found in absurd (cc)
        by (Some (a_storage n f i)) is =
            written_by most bytes P (Ok tt) false (nat_le (length bytes) most) may
            (ap (λ os. is_none (at_name letters os plain)) s.stores.storages ∙ ap is_none (found_kept letters plain (λ o. not (is_stream o)) (objects tree.content) (a_storage n f i) is refl)) refl

    module _ (rising : IsStrictlySortedBy (name_cmp letters) (child_names tree.content)) where
      module _ (none : is_storage_found (at_name letters (objects tree.content) plain) ≡ false) (most : ℕ) (bytes : List ℕ) where
        pub free : is_none (at_name letters P.storages plain) ≡ true
        free = ap (λ os. is_none (at_name letters os plain)) s.stores.storages ∙ ap is_none (free_storages letters plain tree rising (streams_there letters tree plain none))

        pub long_refused : most < length bytes → written_within letters most name bytes P ≡ Err InvalidInput
        long_refused long = written_by most bytes P (Ok tt) true false may free (long_is (length bytes) most long)

        pub write_accepts : IsUtf8 name → length bytes ≤ most → Accepts (AppliesPackageRule (written_within letters most name bytes)) letters tree P (putting bytes letters tree (plain ∷ []))
        write_accepts text short =
            put_accepts letters tree plain rising P s (taken_unmarked letters name may) (taken_other letters name may) (AppliesPackageRule (written_within letters most name bytes)) bytes (taken_name letters name may text)
            (streams_there letters tree plain none)
            (makes_done (written_within letters most name bytes) P (put most bytes P) (written_by most bytes P (Ok tt) true true may free (short_is (length bytes) most short)))

      -- what is read of the package is what stands in the tree
      read_is : stream_read letters P name ≡ or_refused (stream_at letters (objects tree.content) plain) NotFound
      read_is =
          ap (λ m. m >>= λ _. or_refused (stream_at letters P.streams plain) NotFound) may
          ∙ ap (λ os. or_refused (stream_at letters os plain) NotFound) s.stores.streams
          ∙ ap (λ o. or_refused o NotFound) (stream_found letters plain tree rising (is_kept letters P) (kept_streams letters s.usable plain (taken_unmarked letters name may) (taken_other letters name may) P))

      pub remove_accepts : is_stream_found (at_name letters (objects tree.content) plain) ≡ true → Accepts (AppliesPackageRule (λ P. stream_removed letters P name)) letters tree P (tree_step letters tree (remove_stream (plain ∷ [])))
      remove_accepts found =
          let it = stream_there letters tree plain found in
          taken_accepts letters tree plain rising P s (taken_unmarked letters name may) (taken_other letters name may) (AppliesPackageRule (λ P. stream_removed letters P name)) it.object it.there it.stream
          (makes_done (λ P. stream_removed letters P name) P (record P { streams = without_stream letters plain P.streams })
          (ap (λ r. r >>= λ _. Ok (record P { streams = without_stream letters plain P.streams })) (read_is ∙ ap (λ o. or_refused o NotFound) it.has)))

      pub remove_missing : is_stream_found (at_name letters (objects tree.content) plain) ≡ false → stream_removed letters P name ≡ Err NotFound
      remove_missing found =
          ap (λ r. r >>= λ _. Ok (record P { streams = without_stream letters plain P.streams })) (read_is ∙ ap (λ o. or_refused o NotFound) (none_there letters tree plain found))

  pub removal_refused : (P : PackageContent) (e : Error) → may_name letters name ≡ Err e → stream_removed letters P name ≡ Err e
  removal_refused P e may = ap (λ m. (m >>= λ _. or_refused (stream_at letters P.streams plain) NotFound) >>= λ _. Ok (record P { streams = without_stream letters plain P.streams })) may

-- ---- a file without room

pub Err_same : {T : Type 0} {a b : Error} → (◌≡◌ {A = Result T Error} (Err a) (Err b)) → a ≡ b
Err_same is = (cc (is))

only_streams : (p : Object → Bool) (os : List Object) → list_all is_stream (filter (λ o. is_stream o && p o) os) ≡ true
only_streams p [] = refl
only_streams p (a_stream n s b ∷ os) = by (p (a_stream n s b)) (only_streams p os)
  where
    by : (k : Bool) → list_all is_stream (filter (λ o. is_stream o && p o) os) ≡ true
        → list_all is_stream (cond k (a_stream n s b ∷ filter (λ o. is_stream o && p o) os) (filter (λ o. is_stream o && p o) os)) ≡ true
    by true rest = rest
    by false rest = rest
only_streams p (a_storage n f i ∷ os) = only_streams p os

found_stream : (letters : CaseTable) (name : List ℕ) (os : List Object) → list_all is_stream os ≡ true → (o : Object) → at_name letters os name ≡ Some o → is_stream o ≡ true
found_stream letters name [] streams o there = absurd (cc)
found_stream letters name (a_storage n f i ∷ os) streams o there = absurd (cc)
found_stream letters name (a_stream n s b ∷ os) streams o there = by (is_same_name letters name n) there (found_stream letters name os streams o)
  where
    by : (k : Bool) → cond k (Some (a_stream n s b)) (at_name letters os name) ≡ Some o → (at_name letters os name ≡ Some o → is_stream o ≡ true) → is_stream o ≡ true
    by true is rest = subst (λ (x : Object). is_stream x ≡ true) (Some_same is) refl
    by false is rest = rest is

module _ {F : Type 0} {g : Ghosts F} (it : CompoundFile F g) (name : List ℕ) (tree : Tree) (P : PackageContent) (s : StoresSoundPackage (file_case_table it) tree P) (may : may_name (file_case_table it) name ≡ Ok tt)
    (free : is_none (at_name (file_case_table it) P.storages (plain_stream_name name)) ≡ true) (most : ℕ) (bytes : List ℕ) (short : length bytes ≤ most) where
  pub write_full : IsFullForName it (plain_stream_name name) (length bytes) → IsFullForRule (AppliesPackageRule (written_within (file_case_table it) most name bytes)) it P
  write_full full = record {
    next = put (file_case_table it) name most bytes P;
    answered = makes_done (written_within (file_case_table it) most name bytes) P (put (file_case_table it) name most bytes P)
        (written_by (file_case_table it) name most bytes P (Ok tt) true true may free (short_is (length bytes) most short));
    lacks = inr (record {
      name = plain_stream_name name;
      bytes = bytes;
      there = put_found (file_case_table it) (plain_stream_name name) bytes P.streams
          (found_stream (file_case_table it) (plain_stream_name name) P.streams
          (subst (λ os. list_all is_stream os ≡ true) (sym s.stores.streams) (only_streams (λ o. not (is_own (file_case_table it) P o)) (objects tree.content))))
          (same_of_key (file_case_table it) (plain_stream_name name) (plain_stream_name name) refl);
      lacks = full;
    });
  }
